-- The rows that operators by key make of a group are of values.
use Rattle.std.proofs.Common.{◌≡◌, ◌<◌, ◌≤◌, ◌+◌, ◌==◌, ℕ, zero, suc, Bool, true, false, List, [], ◌∷◌, length, map, drop, refl, sym, ◌∙◌, ap, subst, arith}
use Rattle.std.specs.Prelude.{if◌then◌else◌}
use Rattle.std.specs.List.{AllByRecursion, filter, range_with_len}
use Rattle.std.proofs.Math.Logic.{∥∥₁_map}
use Rattle.std.proofs.lemmas.List.{append-nil}
use Rattle.std.proofs.lemmas.List.FromFn.{map-range_with_len_more}
use Rattle.pig_value.specs.Gathering.{Entry}
use Rattle.pig_value.specs.Orders.{bag_of, row_cmp}
use Rattle.pig_value.specs.Trees.{Tree}
use Rattle.pig_value.specs.Valid.{AreRows, IsRow, IsValue}
use Rattle.pig_value.proofs.OrderLaws.{row_total}
use Rattle.pig_value.proofs.ValidLaws.{bag_is_value, bag_value, row_from_each, rows_from_each}
use Rattle.pig_value.proofs.list_laws.Bags.{bag_once, either_way}
use Rattle.pig_value.proofs.list_laws.Listing.{each-drop, each-filter, each-map, each-take, each_of_all, each_weaker}
use Rattle.pig_plan.specs.ByKey.{all_there, as_bag, bags_of, kept_where}
use Rattle.pig_runs.specs.Entries.{AreKeyed, InDirections, IsEntry}
use Rattle.pig_operators.specs.Groups.{IsGroup, bags_at, between, first_key, rows_alone, rows_at}
use Rattle.pig_packed.specs.Growth.{Begun, and_bytes, and_row, and_rows}
use Rattle.pig_gather.specs.Fields.{begun_code, field_code}
use Rattle.pig_gather.proofs.FieldCodes.{field_added}
use Rattle.pig_gather.proofs.LentRows.{key_value}

-- rows of entries are rows of values
rows_valid : (run : InDirections) (es : List Entry) → AllByRecursion (IsEntry run.dirs) es → AreRows (map (λ e. e.row) es)
rows_valid run es h = rows_from_each (map (λ e. e.row) es) (each-map IsRow (λ e. e.row) es (each_weaker (IsEntry run.dirs) (λ e. IsRow e.row) (λ e k. k.row) es h))

between_valid : (run : InDirections) (from end : ℕ) → AreKeyed run.dirs run.entries → AllByRecursion (IsEntry run.dirs) (between from end run.entries)
between_valid run from end h = each-drop (IsEntry run.dirs) from _ (each-take (IsEntry run.dirs) end run.entries h)

pub bag_valid : (run : InDirections) (from end i : ℕ) → AreKeyed run.dirs run.entries → IsValue (as_bag (bags_at run from end i))
bag_valid run from end i h =
    let es = filter (λ e. e.input == i) (between from end run.entries) in
    bag_is_value (map (λ e. e.row) es) (rows_valid run es (each-filter (λ e. e.input == i) (IsEntry run.dirs) (between from end run.entries) (between_valid run from end h)))

pub rows_bag_valid : (run : InDirections) (from end : ℕ) → bag_of (rows_at run from end) ≡ rows_at run from end → AreKeyed run.dirs run.entries → IsValue (as_bag (rows_at run from end))
rows_bag_valid run from end same h = bag_value (rows_at run from end) same (rows_valid run (between from end run.entries) (between_valid run from end h))

-- a key and bags
pub bags_valid : (run : InDirections) (at n : ℕ) (rows : ℕ → List (List Tree)) → run.dirs ≡ [] → at < length run.entries → ∥ AreKeyed run.dirs run.entries ∥₁
    → (AreKeyed run.dirs run.entries → (i : ℕ) → IsValue (as_bag (rows i))) → ∥ IsRow (bags_of n (first_key run at) rows) ∥₁
bags_valid run at n rows none within good bags =
    ∥∥₁_map good
    (λ h. row_from_each (bags_of n (first_key run at) rows)
    (key_value run at none within h, each-map IsValue (λ i. as_bag (rows i)) (range_with_len 0 n) (each_of_all (λ i. IsValue (as_bag (rows i))) (bags h) (range_with_len 0 n))))

pub alone_valid : (i : ℕ) (rows : List (List Tree)) → IsValue (as_bag rows) → (j : ℕ) → IsValue (as_bag (rows_alone i rows j))
alone_valid i rows h j = either_way (j == i) (λ e. subst (λ b. IsValue (as_bag (if b then rows else []))) (sym e) h) (λ e. subst (λ b. IsValue (as_bag (if b then rows else []))) (sym e) (refl, tt))

-- GROUP's row
pub group_valid : (run : InDirections) (from end : ℕ) → run.dirs ≡ [] → IsGroup run from end → ∥ AreKeyed run.dirs run.entries ∥₁ → ∥ IsRow (first_key run from ∷ as_bag (bags_at run from end 0) ∷ []) ∥₁
group_valid run from end none group good =
    ∥∥₁_map good (λ h. (key_value run from none (let low = group.some in let high = group.within in omega (arith, low, high)) h, (bag_valid run from end 0 h, tt)))

-- the bag of one more input
pub bag_more : (start b new : Begun) (k : Tree) (rows : ℕ → List (List Tree)) (i : ℕ) (bag : List (List Tree)) → b ≡ and_bytes (begun_code (bags_of i k rows)) start
    → new ≡ and_bytes (field_code (as_bag bag)) b → bag ≡ rows i → new ≡ and_bytes (begun_code (bags_of (i + 1) k rows)) start
bag_more start b new k rows i bag were is same =
    field_added start b new (bags_of i k rows) (as_bag (rows i)) were (is ∙ ap (λ l. and_bytes (field_code (as_bag l)) b) same)
    ∙ ap (λ l. and_bytes (begun_code (k ∷ l)) start) (sym (map-range_with_len_more (λ j. as_bag (rows j)) 0 i i (omega arith)))

-- the rows of an input are their own bag
pub input_bag : (run : InDirections) (from end i : ℕ) (rows : List (List Tree)) → bags_at run from end i ≡ rows → bag_of rows ≡ rows
input_bag run from end i rows is = ap bag_of (sym is) ∙ (bag_once row_cmp row_total (map (λ e. e.row) (filter (λ e. e.input == i) (between from end run.entries))) ∙ is)

-- a row that is kept, and one that isn't
pub kept : (keep : Bool) (row : List Tree) (start new : Begun) → keep ≡ true → new ≡ and_row row start → new ≡ and_rows (kept_where keep row) start
kept keep row start new h is = is ∙ ap (λ b. and_rows (kept_where b row) start) (sym h)

pub not_kept : (keep : Bool) (row : List Tree) (start new : Begun) → keep ≡ false → new.rows ≡ start.rows → new.begun ≡ [] → new ≡ and_rows (kept_where keep row) start
not_kept keep row start new h same none = (λ i. record { rows = (same ∙ sym (append-nil start.rows)) i; begun = none i }) ∙ ap (λ b. and_rows (kept_where b row) start) (sym h)

none_behind : {X : Type 0} (n : ℕ) (xs : List X) → length xs ≤ n → drop n xs ≡ []
none_behind zero [] h = refl
none_behind (suc n) [] h = refl
none_behind zero (x ∷ xs) h = absurd (omega (arith, h))
none_behind (suc n) (x ∷ xs) h = none_behind n xs (omega (arith, h))

-- behind the last input none is missing
pub all_there_end : (inner : List Bool) (i : ℕ) (rows : ℕ → List (List Tree)) → length inner ≤ i → all_there (drop i inner) i rows ≡ true
all_there_end inner i rows past = ap (λ l. all_there l i rows) (none_behind i inner past)
