-- Rows that are joined by the codes of their fields.
use Rattle.std.proofs.Common.{◌≡◌, ◌≤◌, ◌+◌, ℕ, zero, suc, Bool, true, List, [], ◌∷◌, ◌++◌, drop, length, map, refl, sym, ◌∙◌, ap, arith}
use Rattle.std.specs.Prelude.{◌==◌, Option, None, Some, slice_get}
use Rattle.std.specs.Coded.{Coded-set, coded_list, coded_ℕ}
use Rattle.std.specs.List.{AllByRecursion, list_any}
use Rattle.std.specs.Option.{option_map}
use Rattle.std.proofs.Math.Logic.{∥∥₁_elim, ∥∥₁_map}
use Rattle.std.proofs.lemmas.List.{append-nil, append_assoc, length-append, length-map}
use Rattle.std.proofs.lemmas.List.Concat.{flat_map-append}
use Rattle.std.proofs.lemmas.Bool.{ne_eqb}
use Rattle.pig_value.specs.Trees.{Tree, fields_of, v_null}
use Rattle.pig_value.specs.Valid.{IsRow}
use Rattle.pig_value.proofs.list_laws.Indexing.{dropped, get_map}
use Rattle.pig_value.proofs.list_laws.Listing.{each_at, some_same}
use Rattle.pig_keycode.specs.Codable.{IsCodeOfRow}
use Rattle.pig_keycode.specs.Codes.{code, fields_code}
use Rattle.pig_keycode.specs.Reading.{row_code}
use Rattle.pig_packed.specs.Growth.{Begun, IsWhole, and_row, and_rows, whole_rows}
use Rattle.pig_typed.specs.Products.{joined}
use Rattle.pig_plan.specs.ByKey.{is_empty, nulls}
use Rattle.pig_replicated.specs.Codes.{inner_code}
use Rattle.pig_replicated.specs.Holding.{KeyedRow, matches_in}
use Rattle.pig_replicated.specs.Joining.{or_alone, partners}
use Rattle.pig_replicated.proofs.Adding.{behind, behind_first, joined_none, one_empty}
use Rattle.pig_probe.specs.Begun.{Begins, IsBegun, begun_code}
use Rattle.pig_probe.proofs.Values.{both_rows, nulls_row}

abbrev Row : Type 0
Row = List Tree

-- ---- the code of a row

fields_are : (vs : Row) → fields_code (fields_of vs) ≡ inner_code vs ++ 0 ∷ []
fields_are [] = refl
fields_are (v ∷ vs) = ap (λ l. 1 ∷ (code v ++ l)) (fields_are vs) ∙ ap (λ l. 1 ∷ l) (sym (append_assoc (code v) (inner_code vs) (0 ∷ [])))

row_code_is : (vs : Row) → row_code vs ≡ begun_code vs ++ 0 ∷ []
row_code_is vs = ap (λ l. 6 ∷ l) (fields_are vs)

-- what is begun is whole with its end
pub code_with_end : (bytes whole : List ℕ) (row : Row) → whole ≡ bytes ++ 0 ∷ [] → Begins bytes row → IsCodeOfRow whole row
code_with_end bytes whole row is h = record { is = is ∙ (ap (λ l. l ++ 0 ∷ []) h.is ∙ sym (row_code_is row)); value = h.values }

pub whole_with_end : (bytes whole : List ℕ) → whole ≡ bytes ++ 0 ∷ [] → IsBegun bytes → IsWhole whole
whole_with_end bytes whole is begun = ∥∥₁_map begun (λ h. (h.0, code_with_end bytes whole h.0 is h.1))

-- ---- fields that are added

begins_more : (front more : List ℕ) (row m : Row) → Begins front row → IsRow m → more ≡ front ++ inner_code m → Begins more (row ++ m)
begins_more front more row m h good is = record {
  is = is ∙ (ap (λ l. l ++ inner_code m) h.is ∙ ap (λ l. 6 ∷ l) (sym (flat_map-append (λ v. 1 ∷ code v) row m)));
  values = both_rows row m h.values good;
}

nulls_end : (n : ℕ) → nulls (suc n) ≡ nulls n ++ v_null ∷ []
nulls_end zero = refl
nulls_end (suc n) = ap (λ l. v_null ∷ l) (nulls_end n)

pub null_more : (n : ℕ) (old front new : List ℕ) → front ≡ old ++ inner_code (nulls n) → new ≡ front ++ 1 ∷ 0 ∷ [] → new ≡ old ++ inner_code (nulls (n + 1))
null_more n old front new were is =
    let next : suc n ≡ n + 1 = omega arith in
    is
    ∙ ap (λ l. l ++ 1 ∷ 0 ∷ []) were
    ∙ append_assoc old (inner_code (nulls n)) (1 ∷ 0 ∷ [])
    ∙ ap (λ l. old ++ l) (sym (flat_map-append (λ v. 1 ∷ code v) (nulls n) (v_null ∷ [])) ∙ ap inner_code (sym (nulls_end n) ∙ ap nulls next))

pub begins_nulls : (n : ℕ) (front new : List ℕ) (row : Row) → new ≡ front ++ inner_code (nulls n) → Begins front row → Begins new (row ++ nulls n)
begins_nulls n front new row is h = begins_more front new row (nulls n) h (nulls_row n) is

pub begun_nulls : (n : ℕ) (front new : List ℕ) → new ≡ front ++ inner_code (nulls n) → IsBegun front → IsBegun new
begun_nulls n front new is begun = ∥∥₁_map begun (λ h. (h.0 ++ nulls n, begins_nulls n front new h.0 is h.1))

-- ---- matches, one after another

module _ {R : Type 0} (items : R → List ℕ) (all : List R) (ms : List Row) (are : map items all ≡ map inner_code ms) where
  match_at : (i : ℕ) (part : R) → slice_get all i ≡ Some part → (m : Row) × (slice_get ms i ≡ Some m) × (items part ≡ inner_code m)
  match_at i part here = by (slice_get ms i) refl
    where
      there : option_map inner_code (slice_get ms i) ≡ Some (items part)
      there = sym (get_map inner_code ms i) ∙ ap (λ l. slice_get l i) (sym are) ∙ get_map items all i ∙ ap (option_map items) here

      by : (o : Option Row) → slice_get ms i ≡ o → (m : Row) × (slice_get ms i ≡ Some m) × (items part ≡ inner_code m)
      by None e = absurd (let wrong : None ≡ Some (items part) = sym (ap (option_map inner_code) e) ∙ there in cc)
      by (Some m) e = (m, e, some_same (items part) (inner_code m) (sym there ∙ ap (option_map inner_code) e))

  as_many : length ms ≡ length all
  as_many = sym (length-map ms inner_code) ∙ ap length (sym are) ∙ length-map all items

  module _ (good : AllByRecursion IsRow ms) (i : ℕ) (part : R) (here : slice_get all i ≡ Some part) (front more : List ℕ) (is : more ≡ front ++ items part) where
    abbrev m : Row
    m = (match_at i part here).0

    m_good : IsRow m
    m_good = each_at IsRow ms i m (match_at i part here).1 good

    m_more : more ≡ front ++ inner_code m
    m_more = is ∙ ap (λ l. front ++ l) (match_at i part here).2

    pub begun_with : IsBegun front → IsBegun more
    begun_with begun = ∥∥₁_map begun (λ h. (h.0 ++ m, begins_more front more h.0 m h.1 m_good m_more))

    -- the rows of one match, and those that are to come
    pub one_match : (b new : Begun) (row : Row) (rest wanted : List Row) → Begins front row → ((r : Row) → Begins more r → new ≡ and_rows (behind r rest) b)
        → b.rows ++ behind row (joined (drop i ms) rest) ≡ wanted → new.rows ++ behind row (joined (drop (i + 1) ms) rest) ≡ wanted
    one_match b new row rest wanted h added so_far =
        let later = behind row (joined (drop (i + 1) ms) rest) in
        ap (λ c. c.rows ++ later) (added (row ++ m) (begins_more front more row m h m_good m_more))
        ∙ append_assoc b.rows (behind (row ++ m) rest) later
        ∙ ap (λ rows. b.rows ++ rows)
        (sym (behind_first row m (drop (i + 1) ms) rest) ∙ ap (λ l. behind row (joined l rest)) (sym (dropped ms i m (match_at i part here).1)))
        ∙ so_far

  pub all_matched : (i : ℕ) → length all ≤ i → (b start : Begun) (row : Row) (rest wanted : List Row) → b.begun ≡ []
      → b.rows ++ behind row (joined (drop i ms) rest) ≡ start.rows ++ wanted → b ≡ and_rows wanted start
  all_matched i past b start row rest wanted none so_far =
      let nothing : drop i ms ≡ [] = none_behind i ms (let size = as_many in omega (arith, size, past)) in
      let rows : b.rows ≡ start.rows ++ wanted = sym (append-nil b.rows) ∙ ap (λ l. b.rows ++ behind row (joined l rest)) (sym nothing) ∙ so_far in
      λ k. record { rows = rows k; begun = none k }
    where
      none_behind : {X : Type 0} (n : ℕ) (xs : List X) → length xs ≤ n → drop n xs ≡ []
      none_behind zero [] h = refl
      none_behind (suc n) [] h = refl
      none_behind zero (x ∷ xs) h = absurd (omega (arith, h))
      none_behind (suc n) (x ∷ xs) h = none_behind n xs (omega (arith, h))

-- ---- no match

-- where one side has no match, nothing is joined
pub none_joined : (sides : List (List KeyedRow)) (side : List KeyedRow) (rest : List (List KeyedRow)) (key : Tree) (b : Begun) (row : Row) → sides ≡ side ∷ rest
    → list_any (λ s. is_empty (matches_in s key)) rest ≡ true → b.begun ≡ [] → b ≡ and_rows (partners sides key row) b
none_joined sides side rest key b row split lacks none =
    let nothing : partners sides key row ≡ [] =
    ap (λ ss. partners ss key row) split ∙ ap (λ p. behind row (joined (matches_in side key) p)) (one_empty (λ s. matches_in s key) rest lacks) ∙ ap (behind row) (joined_none (matches_in side key))
    in
    (λ i. record { rows = sym (append-nil b.rows) i; begun = none i }) ∙ ap (λ rows. and_rows rows b) (sym nothing)

-- no rows are added where there are as many as before
none_more : (old new made : List Row) → new ≡ old ++ made → length new ≡ length old → made ≡ []
none_more old new [] is same = refl
none_more old new (x ∷ made) is same = absurd (let size = ap length is ∙ length-append old (x ∷ made) in omega (arith, size, same))

-- a row that is added alone, and one that need not be
module _ (start b new : Begun) (fill : Option ℕ) (row : Row) (made : List Row) (were : b ≡ and_rows made start) where
  pub alone_added : (width : ℕ) → fill ≡ Some width → length b.rows ≡ length start.rows → new ≡ and_row (row ++ nulls width) b → new ≡ and_rows (or_alone fill row made) start
  alone_added width kept same is =
      let nothing : made ≡ [] = none_more start.rows b.rows made (ap (λ c. c.rows) were) same in
      is
      ∙ ap (and_row (row ++ nulls width)) (were ∙ ap (λ rows. and_rows rows start) nothing)
      ∙ ap (λ rows. and_row (row ++ nulls width) (whole_rows rows)) (append-nil start.rows)
      ∙ (λ i. and_rows (or_alone (sym kept i) row (sym nothing i)) start)

-- what a test of lent codes for being none tells
pub none_are : {R : Type 0} (items : R → List ℕ) (b : Bool) (all : List R) (ms : List Row) → b ≡ (length all == 0) → map items all ≡ map inner_code ms → b ≡ is_empty ms
none_are items b [] [] is are = is
none_are items b [] (m ∷ ms) is are = absurd (let wrong : [] ≡ inner_code m ∷ map inner_code ms = are in cc)
none_are items b (x ∷ all) [] is are = absurd (let wrong : items x ∷ map items all ≡ [] = are in cc)
none_are items b (x ∷ all) (m ∷ ms) is are = is ∙ ne_eqb (length (x ∷ all)) 0 (λ e. omega (arith, e))

-- the side that stands first
pub same_side : (sides : List (List KeyedRow)) (a b : List KeyedRow) (rest : List (List KeyedRow)) → sides ≡ a ∷ rest → sides ≡ b ∷ rest → a ≡ b
same_side sides a b rest one other = ap first (sym one ∙ other)
  where
    first : List (List KeyedRow) → List KeyedRow
    first [] = a
    first (s ∷ ss) = s

-- nothing is begun behind a row that was added
pub none_begun : (bytes whole : List ℕ) → whole ≡ bytes ++ 0 ∷ [] → (start new : Begun) → IsBegun bytes → ((row : Row) → IsCodeOfRow whole row → new ≡ and_row row start) → new.begun ≡ []
none_begun bytes whole is start new begun added =
    ∥∥₁_elim begun (Coded-set (coded_list coded_ℕ) new.begun []) (λ h. ap (λ c. c.begun) (added h.0 (code_with_end bytes whole h.0 is h.1)))
