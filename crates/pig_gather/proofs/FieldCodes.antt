-- The codes of rows and bags are those of their fields and rows, and rows that are written by them are whole.
use Rattle.std.proofs.Common.{◌≡◌, ◌+◌, ◌-◌, ℕ, zero, suc, List, [], ◌∷◌, ◌++◌, length, take, drop, refl, sym, ◌∙◌, ap, arith, add-one}
use Rattle.std.specs.Prelude.{Result, Ok, Err, OnOk}
use Rattle.std.specs.Coded.{Coded-set}
use Rattle.std.proofs.Math.Logic.{∥∥₁_map, ∥∥₁_elim}
use Rattle.std.proofs.lemmas.List.{append-nil, append_assoc, length-append}
use Rattle.std.proofs.Math.Seq.{take-append_seam}
use Rattle.std.proofs.lemmas.List.Concat.{flat_map-append}
use Rattle.pig_value.specs.Trees.{Tree, fields_of, tuples_of, v_null}
use Rattle.pig_value.specs.Valid.{IsRow}
use Rattle.pig_keycode.specs.Codable.{IsCodeOfRow}
use Rattle.pig_keycode.specs.Codes.{code, fields_code, tuples_code}
use Rattle.pig_keycode.specs.Reading.{row_code}
use Rattle.pig_packed.specs.Growth.{Begun, IsWhole, and_bytes, and_row, coded_begun, whole_rows}
use Rattle.pig_packed.proofs.Adding.{and_bytes-append}
use Rattle.pig_plan.specs.ByKey.{as_bag, nulls}
use Rattle.pig_gather.proofs.Validity.{both_valid}
use Rattle.pig_gather.specs.Fields.{Begins, IsBegun, begun_code, field_code, inner_code, item_code, items_code}

-- ---- codes

fields_is : (vs : List Tree) → fields_code (fields_of vs) ≡ inner_code vs ++ 0 ∷ []
fields_is [] = refl
fields_is (v ∷ vs) = ap (λ l. 1 ∷ (code v ++ l)) (fields_is vs) ∙ ap (λ l. 1 ∷ l) (sym (append_assoc (code v) (inner_code vs) (0 ∷ [])))

pub row_code_is : (vs : List Tree) → row_code vs ≡ begun_code vs ++ 0 ∷ []
row_code_is vs = ap (λ l. 6 ∷ l) (fields_is vs)

rows_is : (rows : List (List Tree)) → tuples_code (tuples_of rows) ≡ items_code rows ++ 0 ∷ []
rows_is [] = refl
rows_is (row ∷ rows) =
    ap (λ l. 1 ∷ 6 ∷ (fields_code (fields_of row) ++ l)) (rows_is rows) ∙ ap (λ l. 1 ∷ 6 ∷ l) (sym (append_assoc (fields_code (fields_of row)) (items_code rows) (0 ∷ [])))

pub bag_code_is : (rows : List (List Tree)) → field_code (as_bag rows) ≡ 1 ∷ 7 ∷ (items_code rows ++ 0 ∷ [])
bag_code_is rows = ap (λ l. 1 ∷ 7 ∷ l) (rows_is rows)

pub inner_more : (fields : List Tree) (v : Tree) → inner_code (fields ++ v ∷ []) ≡ inner_code fields ++ field_code v
inner_more fields v = flat_map-append field_code fields (v ∷ []) ∙ ap (λ l. inner_code fields ++ l) (append-nil (field_code v))

pub items_more : (rows : List (List Tree)) (row : List Tree) → items_code (rows ++ row ∷ []) ≡ items_code rows ++ item_code row
items_more rows row = flat_map-append item_code rows (row ∷ []) ∙ ap (λ l. items_code rows ++ l) (append-nil (item_code row))

-- ---- rows that are begun

pub nothing_more : (b : Begun) → b ≡ and_bytes [] b
nothing_more b = ap (λ l. record { rows = b.rows; begun = l }) (sym (append-nil b.begun))

-- one field more
pub field_added : (start b new : Begun) (fields : List Tree) (v : Tree) → b ≡ and_bytes (begun_code fields) start → new ≡ and_bytes (field_code v) b → new ≡ and_bytes (begun_code (fields ++ v ∷ [])) start
field_added start b new fields v were is =
    is ∙ (ap (and_bytes (field_code v)) were ∙ (and_bytes-append (begun_code fields) (field_code v) start ∙ ap (λ l. and_bytes (6 ∷ l) start) (sym (inner_more fields v))))

-- several fields more
pub fields_added : (start b new : Begun) (fields more : List Tree) → b ≡ and_bytes (begun_code fields) start → new ≡ and_bytes (inner_code more) b → new ≡ and_bytes (begun_code (fields ++ more)) start
fields_added start b new fields more were is =
    is ∙ (ap (and_bytes (inner_code more)) were ∙ (and_bytes-append (begun_code fields) (inner_code more) start ∙ ap (λ l. and_bytes (6 ∷ l) start) (sym (flat_map-append field_code fields more))))

module _ (start b : Begun) (fields : List Tree) (none : start.begun ≡ []) (is : b ≡ and_bytes (begun_code fields) start) where
  begun_is : b.begun ≡ begun_code fields
  begun_is = ap (λ c. c.begun) is ∙ ap (λ l. l ++ begun_code fields) none

  pub begins : ∥ IsRow fields ∥₁ → IsBegun b.begun
  begins values = ∥∥₁_map values (λ h. (fields, record { is = begun_is; values = h }))

  -- the row that is ended
  pub row_ended : {T E : Type 0} (r : Result T E) (new : Begun) → ∥ IsRow fields ∥₁ → ((row : List Tree) → Begins b.begun row → OnOk r (new ≡ and_row row b)) → OnOk r (new ≡ and_row fields start)
  row_ended (Err e) new values ended = tt
  row_ended (Ok u) new values ended =
      ∥∥₁_elim values (Coded-set coded_begun new (and_row fields start))
      (λ h. ended fields (record { is = begun_is; values = h }) ∙ ap (λ c. whole_rows (c.rows ++ fields ∷ [])) is)

-- what is begun by fields is whole with its end
pub whole_with_end : (bytes whole : List ℕ) → whole ≡ bytes ++ 0 ∷ [] → IsBegun bytes → IsWhole whole
whole_with_end bytes whole is begun = ∥∥₁_map begun (λ h. (h.0, record { is = is ∙ (ap (λ l. l ++ 0 ∷ []) h.1.is ∙ sym (row_code_is h.0)); value = h.1.values }))

pub code_with_end : (bytes whole : List ℕ) (row : List Tree) → whole ≡ bytes ++ 0 ∷ [] → Begins bytes row → IsCodeOfRow whole row
code_with_end bytes whole row is h = record { is = is ∙ (ap (λ l. l ++ 0 ∷ []) h.is ∙ sym (row_code_is row)); value = h.values }

-- a bag in three pieces
pub bag_added : (start a b new : Begun) (rows : List (List Tree)) → a ≡ and_bytes (1 ∷ 7 ∷ []) start → b ≡ and_bytes (items_code rows) a → new ≡ and_bytes (0 ∷ []) b → new ≡ and_bytes (field_code (as_bag rows)) start
bag_added start a b new rows first middle last =
    last
    ∙ (ap (and_bytes (0 ∷ [])) (middle ∙ (ap (and_bytes (items_code rows)) first ∙ and_bytes-append (1 ∷ 7 ∷ []) (items_code rows) start))
    ∙ (and_bytes-append (1 ∷ 7 ∷ items_code rows) (0 ∷ []) start ∙ ap (λ l. and_bytes l start) (sym (bag_code_is rows))))

-- a first field, and a bag behind it
pub bag_behind : (start a b : Begun) (k : Tree) (rows bag : List (List Tree)) → a ≡ and_bytes (begun_code (k ∷ [])) start → b ≡ and_bytes (field_code (as_bag rows)) a → rows ≡ bag → b ≡ and_bytes (begun_code (k ∷ as_bag bag ∷ [])) start
bag_behind start a b k rows bag first next same = field_added start a b (k ∷ []) (as_bag bag) first (next ∙ ap (λ l. and_bytes (field_code (as_bag l)) a) same)

-- ---- the fields within the code of a row

inner_len : (x : List ℕ) → length (6 ∷ (x ++ 0 ∷ [])) ≡ length x + 2
inner_len x =
    let size = length-append x (0 ∷ []) in
    let end : List ℕ = 0 ∷ [] in
    let one : length end ≡ 1 = refl in
    let more : length (6 ∷ (x ++ 0 ∷ [])) ≡ suc (length (x ++ 0 ∷ [])) = refl in
    omega (arith, size, one, more)

pub row_len : (bytes : List ℕ) (row : List Tree) → bytes ≡ row_code row → length bytes ≡ length (inner_code row) + 2
row_len bytes row is = ap length (is ∙ row_code_is row) ∙ inner_len (inner_code row)

pub inner_is : (bytes : List ℕ) (row : List Tree) → bytes ≡ row_code row → take (length bytes - 1 - 1) (drop 1 bytes) ≡ inner_code row
inner_is bytes row is =
    let size : length bytes - 1 - 1 ≡ length (inner_code row) = let all = row_len bytes row is in omega (arith, all) in
    (λ i. take (size i) (drop 1 ((is ∙ row_code_is row) i))) ∙ take-append_seam (inner_code row) (0 ∷ [])

-- nulls, one more
nulls_more : (n : ℕ) → nulls (suc n) ≡ nulls n ++ v_null ∷ []
nulls_more zero = refl
nulls_more (suc n) = ap (λ l. v_null ∷ l) (nulls_more n)

pub null_added : (start b new : Begun) (n : ℕ) → b ≡ and_bytes (inner_code (nulls n)) start → new ≡ and_bytes (1 ∷ 0 ∷ []) b → new ≡ and_bytes (inner_code (nulls (n + 1))) start
null_added start b new n were is =
    is
    ∙ (ap (and_bytes (1 ∷ 0 ∷ [])) were
    ∙ (and_bytes-append (inner_code (nulls n)) (1 ∷ 0 ∷ []) start
    ∙ ap (λ l. and_bytes l start) (sym (ap (λ k. inner_code (nulls k)) (add-one n) ∙ (ap inner_code (nulls_more n) ∙ inner_more (nulls n) v_null)))))

-- fields that are begun, and more
pub begins_more : (front more : List ℕ) (fields row : List Tree) → Begins front fields → IsRow row → more ≡ front ++ inner_code row → Begins more (fields ++ row)
begins_more front more fields row h good is = record {
  is = is ∙ (ap (λ l. l ++ inner_code row) h.is ∙ ap (λ l. 6 ∷ l) (sym (flat_map-append field_code fields row)));
  values = both_valid fields row h.values good;
}
