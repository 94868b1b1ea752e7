-- Rows that are joined by the codes of their fields, row by row and part by part.
use Rattle.std.proofs.Common.{◌≡◌, ◌<◌, ◌≤◌, ◌+◌, ℕ, Bool, true, List, [], ◌∷◌, ◌++◌, length, map, sym, ◌∙◌, ap, arith}
use Rattle.std.specs.Prelude.{Some, Result, Ok, Err, IfOk, option_map, slice_get, if◌then◌else◌}
use Rattle.std.specs.Coded.{Coded-set, coded_list, coded_ℕ}
use Rattle.std.specs.List.{range_with_len}
use Rattle.std.proofs.Math.Bool.{Bool-set}
use Rattle.std.proofs.Math.Logic.{∥∥₁_map₂, ∥∥₁_elim}
use Rattle.std.proofs.lemmas.List.{append-nil, append_assoc, map-append}
use Rattle.pig_value.specs.Gathering.{Entry}
use Rattle.pig_value.specs.Trees.{Tree}
use Rattle.pig_value.specs.Valid.{IsRow}
use Rattle.pig_value.proofs.list_laws.Listing.{each_at}
use Rattle.pig_typed.specs.Products.{joined, product}
use Rattle.pig_plan.specs.ByKey.{holds_null, join_of}
use Rattle.pig_packed.specs.Growth.{Begun, and_row, and_rows, coded_begun}
use Rattle.pig_packed.proofs.Adding.{and_rows-append}
use Rattle.pig_runs.specs.Entries.{AreKeyed, InDirections, IsEntry}
use Rattle.pig_operators.specs.Groups.{between, rows_at}
use Rattle.pig_operators.proofs.Adding.{rows_next}
use Rattle.pig_operators.proofs.Between.{between_more, between_none, between_parts}
use Rattle.pig_operators.proofs.Products.{behind_fields, products_step}
use Rattle.pig_gather.specs.Fields.{Begins, IsBegun, inner_code}
use Rattle.pig_gather.proofs.FieldCodes.{begins_more}

-- the row of an entry is of values
pub row_good : (run : InDirections) (at : ℕ) (e : Entry) → slice_get run.entries at ≡ Some e → AreKeyed run.dirs run.entries → IsRow e.row
row_good run at e here h = (each_at (IsEntry run.dirs) run.entries at e here h).row

-- what is known of a key that is a value is known
pub null_told : {E : Type 0} (r : Result Bool E) (x : Bool) (run : InDirections) → ∥ AreKeyed run.dirs run.entries ∥₁ → (AreKeyed run.dirs run.entries → IfOk r (λ b. b ≡ x)) → IfOk r (λ b. b ≡ x)
null_told (Err e) x run good told = tt
null_told (Ok b) x run good told = ∥∥₁_elim good (Bool-set b x) told

-- the rows from a place on: the first, and the others
pub rows_begin : (run : InDirections) (at end : ℕ) (e : Entry) → at < end → end ≤ length run.entries → slice_get run.entries at ≡ Some e → rows_at run at end ≡ e.row ∷ rows_at run (at + 1) end
rows_begin run at end e low high here =
    ap (map (λ e. e.row))
    (between_parts at (at + 1) end run.entries (omega arith) (omega (arith, low))
    ∙ ap (λ l. l ++ between (at + 1) end run.entries)
    (between_more at at run.entries e (omega arith) (omega (arith, low, high)) here ∙ ap (λ l. l ++ e ∷ []) (between_none at run.entries)))

-- what is made of the row of one more entry
pub mapped_more : (f : List Tree → List Tree) (run : InDirections) (from at : ℕ) (e : Entry) (start b new : Begun) → from ≤ at → at < length run.entries → slice_get run.entries at ≡ Some e
    → b ≡ and_rows (map f (rows_at run from at)) start → new ≡ and_row (f e.row) b → new ≡ and_rows (map f (rows_at run from (at + 1))) start
mapped_more f run from at e start b new low high here so_far is =
    is
    ∙ (ap (and_row (f e.row)) so_far
    ∙ (and_rows-append (map f (rows_at run from at)) (f e.row ∷ []) start
    ∙ ap (λ l. and_rows l start)
    (sym (ap (map f) (rows_next run.entries from at e.row low high (ap (option_map (λ e. e.row)) here)) ∙ map-append f (rows_at run from at) (e.row ∷ [])))))

module _ (run : InDirections) (good : ∥ AreKeyed run.dirs run.entries ∥₁) (at : ℕ) (e : Entry) (here : slice_get run.entries at ≡ Some e) (front more : List ℕ) (is : more ≡ front ++ inner_code e.row) where
  -- the fields of its row behind those that are begun
  pub begun_more : IsBegun front → IsBegun more
  begun_more begun = ∥∥₁_map₂ begun good (λ h k. (h.0 ++ e.row, begins_more front more h.0 e.row h.1 (row_good run at e here k) is))

  -- what is added behind them
  pub added_behind : (b new : Begun) (rows : List (List Tree)) (fields : List Tree) → Begins front fields
      → ((fs : List Tree) → Begins more fs → new ≡ and_rows (map (λ x. fs ++ x) rows) b) → new ≡ and_rows (behind_fields (fields ++ e.row) rows) b
  added_behind b new rows fields h added =
      ∥∥₁_elim good (Coded-set coded_begun new (and_rows (behind_fields (fields ++ e.row) rows) b))
      (λ k. added (fields ++ e.row) (begins_more front more fields e.row h (row_good run at e here k) is))

  -- and nothing is begun then
  pub none_left : (b new : Begun) (rows : List (List Tree)) → IsBegun front → ((fs : List Tree) → Begins more fs → new ≡ and_rows (map (λ x. fs ++ x) rows) b) → new.begun ≡ []
  none_left b new rows begun added = ∥∥₁_elim (begun_more begun) (Coded-set (coded_list coded_ℕ) new.begun []) (λ h. ap (λ c. c.begun) (added h.0 h.1))

-- the rows of one row of the first part, and those that are to come
pub one_row_joined : (run : InDirections) (at end : ℕ) (e : Entry) (b new : Begun) (fields : List Tree) (rest all : List (List Tree)) → at < end → end ≤ length run.entries → slice_get run.entries at ≡ Some e
    → new ≡ and_rows (behind_fields (fields ++ e.row) rest) b → b.rows ++ behind_fields fields (joined (rows_at run at end) rest) ≡ all
    → new.rows ++ behind_fields fields (joined (rows_at run (at + 1) end) rest) ≡ all
one_row_joined run at end e b new fields rest all low high here added so_far =
    let later = behind_fields fields (joined (rows_at run (at + 1) end) rest) in
    ap (λ c. c.rows ++ later) added
    ∙ (append_assoc b.rows (behind_fields (fields ++ e.row) rest) later
    ∙ (ap (λ l. b.rows ++ l) (sym (ap (λ l. behind_fields fields (joined l rest)) (rows_begin run at end e low high here) ∙ products_step fields e.row (rows_at run (at + 1) end) rest)) ∙ so_far))

-- behind the last row
pub rows_end : (run : InDirections) (at end : ℕ) → at ≤ end → end ≤ at → rows_at run at end ≡ []
rows_end run at end low high =
    let same : end ≡ at = omega (arith, low, high) in
    ap (λ n. rows_at run at n) same ∙ ap (map (λ e. e.row)) (between_none at run.entries)

pub all_joined : (run : InDirections) (at end : ℕ) (start new : Begun) (fields : List Tree) (part : List (List Tree)) (rest : List (List Tree)) → at ≤ end → end ≤ at → new.begun ≡ []
    → new.rows ++ behind_fields fields (joined (rows_at run at end) rest) ≡ start.rows ++ behind_fields fields (joined part rest) → new ≡ and_rows (behind_fields fields (joined part rest)) start
all_joined run at end start new fields part rest low high none so_far =
    let last : new.rows ≡ start.rows ++ behind_fields fields (joined part rest) =
    sym (append-nil new.rows) ∙ (ap (λ l. new.rows ++ behind_fields fields (joined l rest)) (sym (rows_end run at end low high)) ∙ so_far)
    in
    λ i. record { rows = last i; begun = none i }

-- behind no part there is one row of these fields
pub none_joined : (fields : List Tree) (parts : List (List (List Tree))) → parts ≡ [] → behind_fields fields (product parts) ≡ fields ∷ []
none_joined fields parts none = ap (λ l. behind_fields fields (product l)) none ∙ ap (λ l. l ∷ []) (append-nil fields)

-- a key that holds a null joins no rows
pub join_none : (n : ℕ) (k : Tree) (rows : ℕ → List (List Tree)) → holds_null k ≡ true → join_of n k rows ≡ []
join_none n k rows h = ap (λ b. if b then [] else product (map rows (range_with_len 0 n))) h
