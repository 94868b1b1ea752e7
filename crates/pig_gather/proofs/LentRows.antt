-- Entries whose bytes are lent: their keys and rows, and rows that are added by these.
use Rattle.std.proofs.Common.{◌≡◌, ◌<◌, ◌≤◌, ◌+◌, ◌-◌, ℕ, zero, suc, List, [], ◌∷◌, ◌++◌, length, map, take, drop, sym, ◌∙◌, ap, subst, arith}
use Rattle.std.specs.Prelude.{Some, min, option_map, slice_get}
use Rattle.std.specs.Coded.{Coded-set}
use Rattle.std.specs.List.{flat_map}
use Rattle.std.proofs.Math.Logic.{∥∥₁_map, ∥∥₁_elim}
use Rattle.std.proofs.lemmas.List.{append-nil}
use Rattle.pig_value.specs.Gathering.{Entry}
use Rattle.pig_value.specs.Trees.{Tree, or_null}
use Rattle.pig_value.specs.Valid.{AreRows}
use Rattle.pig_value.proofs.list_laws.Indexing.{dropped, more_taken, some_at}
use Rattle.pig_value.proofs.list_laws.Listing.{each_at, some_same}
use Rattle.pig_keycode.specs.Codable.{IsCodeOf, IsCodeOfRow}
use Rattle.pig_keycode.specs.Codes.{code}
use Rattle.pig_keycode.specs.Keys.{IsKey, key_code}
use Rattle.pig_keycode.specs.Reading.{row_code}
use Rattle.pig_packed.specs.Growth.{Begun, IsWhole, and_bytes, and_row, and_rows, coded_begun}
use Rattle.pig_packed.proofs.Adding.{and_bytes-append, and_rows-append}
use Rattle.pig_packed.proofs.Lending.{lent_is_code, lent_row}
use Rattle.pig_runs.specs.Entries.{AreKeyed, InDirections, IsEntry}
use Rattle.pig_runs.specs.Packed.{Packed, packed}
use Rattle.pig_runs.proofs.Lending.{lent_entry}
use Rattle.pig_operators.specs.Groups.{first_key, rows_at}
use Rattle.pig_operators.proofs.Adding.{rows_next}
use Rattle.pig_operators.proofs.Between.{between_none}
use Rattle.pig_gather.specs.Fields.{item_code, items_code}
use Rattle.pig_gather.proofs.FieldCodes.{items_more}

module _ (run : InDirections) (at : ℕ) (p : Packed) (is : option_map (packed run.dirs) (slice_get run.entries at) ≡ Some p) where
  pub key_lent : run.dirs ≡ [] → p.key ≡ code (first_key run at)
  key_lent none =
      let found = lent_entry run.dirs (slice_get run.entries at) p is in
      sym (ap (λ q. q.key) found.1.1) ∙ (ap (λ d. key_code d found.0.key) none ∙ ap code (sym (ap (λ o. or_null (option_map (λ e. e.key) o)) found.1.0)))

  pub row_lent : (e : Entry) → slice_get run.entries at ≡ Some e → p.row ≡ row_code e.row
  row_lent e here = sym (ap (λ q. q.row) (some_same (packed run.dirs e) p (sym (ap (option_map (packed run.dirs)) here) ∙ is)))

  lent_code : (e : Entry) → slice_get run.entries at ≡ Some e → AreKeyed run.dirs run.entries → IsCodeOfRow p.row e.row
  lent_code e here h = record { is = row_lent e here; value = (each_at (IsEntry run.dirs) run.entries at e here h).row }

  pub row_whole : ∥ AreKeyed run.dirs run.entries ∥₁ → IsWhole p.row
  row_whole good =
      let found = lent_entry run.dirs (slice_get run.entries at) p is in
      ∥∥₁_map good (λ h. (found.0.row, lent_code found.0 found.1.0 h))

  pub row_pushed : (b new : Begun) → ∥ AreKeyed run.dirs run.entries ∥₁ → (e : Entry) → slice_get run.entries at ≡ Some e → ((row : List Tree) → IsCodeOfRow p.row row → new ≡ and_row row b) → new ≡ and_row e.row b
  row_pushed b new good e here pushed = ∥∥₁_elim good (Coded-set coded_begun new (and_row e.row b)) (λ h. pushed e.row (lent_code e here h))

-- the key of an entry is a value, and so is its row
pub key_value : (run : InDirections) (at : ℕ) → run.dirs ≡ [] → at < length run.entries → AreKeyed run.dirs run.entries → IsKey [] (first_key run at)
key_value run at none within h =
    let found = some_at run.entries at within in
    subst (IsKey []) (sym (ap (λ o. or_null (option_map (λ e. e.key) o)) found.1)) (subst (λ d. IsKey d found.0.key) none (each_at (IsEntry run.dirs) run.entries at found.0 found.1 h).key)

pub key_is_code : (run : InDirections) (at : ℕ) (bytes : List ℕ) → run.dirs ≡ [] → at < length run.entries → bytes ≡ code (first_key run at) → AreKeyed run.dirs run.entries → IsCodeOf bytes (first_key run at)
key_is_code run at bytes none within is h = record { is = is; value = key_value run at none within h }

-- ---- rows that are added in turn

pub none_added : (b : Begun) (rows : List (List Tree)) → b.begun ≡ [] → rows ≡ [] → b ≡ and_rows rows b
none_added b rows none empty = (λ i. record { rows = sym (append-nil b.rows) i; begun = none i }) ∙ ap (λ l. and_rows l b) (sym empty)

-- the row of one more entry
pub row_more : (run : InDirections) (from at : ℕ) (e : Entry) (start b new : Begun) → from ≤ at → at < length run.entries → slice_get run.entries at ≡ Some e → b ≡ and_rows (rows_at run from at) start
    → new ≡ and_row e.row b → new ≡ and_rows (rows_at run from (at + 1)) start
row_more run from at e start b new low high here so_far is =
    is
    ∙ (ap (and_row e.row) so_far
    ∙ (and_rows-append (rows_at run from at) (e.row ∷ []) start
    ∙ ap (λ l. and_rows l start) (sym (rows_next run.entries from at e.row low high (ap (option_map (λ e. e.row)) here)))))

pub none_between_rows : (run : InDirections) (at : ℕ) → rows_at run at at ≡ []
none_between_rows run at = ap (map (λ e. e.row)) (between_none at run.entries)

-- ---- items of a bag

pub item_more : (run : InDirections) (from at : ℕ) (e : Entry) (start b new : Begun) → from ≤ at → at < length run.entries → slice_get run.entries at ≡ Some e
    → b ≡ and_bytes (items_code (rows_at run from at)) start → new ≡ and_bytes (item_code e.row) b → new ≡ and_bytes (items_code (rows_at run from (at + 1))) start
item_more run from at e start b new low high here so_far is =
    is
    ∙ (ap (and_bytes (item_code e.row)) so_far
    ∙ (and_bytes-append (items_code (rows_at run from at)) (item_code e.row) start
    ∙ ap (λ l. and_bytes l start)
    (sym (ap items_code (rows_next run.entries from at e.row low high (ap (option_map (λ e. e.row)) here)) ∙ items_more (rows_at run from at) e.row))))

-- ---- packed rows that are added

pub code_more : (rows : List (List Tree)) (at : ℕ) (code : List ℕ) (start b new : Begun) → ∥ AreRows rows ∥₁ → option_map row_code (slice_get rows at) ≡ Some code → b ≡ and_rows (take at rows) start
    → ((row : List Tree) → IsCodeOfRow code row → new ≡ and_row row b) → new ≡ and_rows (take (at + 1) rows) start
code_more rows at code start b new good is so_far pushed =
    let here = lent_row rows at code is in
    let added : new ≡ and_row here.0 b = ∥∥₁_elim good (Coded-set coded_begun new (and_row here.0 b)) (λ h. pushed here.0 (lent_is_code rows at code here.0 h here.1 here.2)) in
    added
    ∙ (ap (and_row here.0) so_far
    ∙ (and_rows-append (take at rows) (here.0 ∷ []) start ∙ ap (λ l. and_rows l start) (sym (more_taken rows at here.0 here.1))))

take_two : {X : Type 0} (xs ys : List X) (n some : ℕ) → some ≡ min (length xs) n → take n (xs ++ ys) ≡ take some xs ++ take (n - some) ys
take_two [] ys n some is =
    let none : some ≡ 0 = omega (arith, is) in
    let all : n ≡ n - 0 = omega arith in
    ap (λ k. take k ys) all ∙ ap (λ k. take k [] ++ take (n - k) ys) (sym none)
take_two (x ∷ xs) ys zero some is = let none : some ≡ 0 = omega (arith, is) in ap (λ k. take k (x ∷ xs) ++ take (0 - k) ys) (sym none)
take_two (x ∷ xs) ys (suc n) zero is = absurd (omega (arith, is))
take_two (x ∷ xs) ys (suc n) (suc some) is =
    let same : n - some ≡ suc n - suc some = omega arith in
    ap (λ l. x ∷ l) (take_two xs ys n some (omega (arith, is)) ∙ ap (λ k. take some xs ++ take k ys) same)

-- the first so many rows of lists in turn: those of one list, and those of the others
pub first_more : {X : Type 0} (f : X → List (List Tree)) (xs : List X) (i : ℕ) (x : X) (left some : ℕ) (b new all : Begun) → slice_get xs i ≡ Some x → some ≡ min (length (f x)) left
    → new ≡ and_rows (take some (f x)) b → and_rows (take left (flat_map f (drop i xs))) b ≡ all → and_rows (take (left - some) (flat_map f (drop (i + 1) xs))) new ≡ all
first_more f xs i x left some b new all here least is so_far =
    let rest = flat_map f (drop (i + 1) xs) in
    ap (and_rows (take (left - some) rest)) is
    ∙ (and_rows-append (take some (f x)) (take (left - some) rest) b
    ∙ (ap (λ l. and_rows l b) (sym (ap (λ l. take left (flat_map f l)) (dropped xs i x here) ∙ take_two (f x) rest left some least)) ∙ so_far))
