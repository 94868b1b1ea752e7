-- The order of an ORDER is total and tells rows apart, so that sorting the slices between cut points in turn sorts the whole.
use Rattle.std.specs.Prelude.{◌≡◌, ◌<◌, ◌≤◌, ◌+◌, ℕ, Bool, true, false, not, List, [], ◌∷◌, length, refl}
use Rattle.std.proofs.Common.{arith, cond, sym, ◌∙◌, true≢false}
use Rattle.std.specs.Cmp.{IsTotalOrder}
use Rattle.std.specs.List.{filter, flat_map, range_with_len}
use Rattle.std.specs.Ordering.{is_gt, ordering_then}
use Rattle.std.specs.declared.cmp.Ordering.{Ordering}
use Rattle.std.specs.declared.cmp.Ordering.TheVariants.{Less, Equal, Greater}
use Rattle.std.proofs.lemmas.Cmp.{on_total, then_total, upto}
use Rattle.pig_value.proofs.OrderLaws.{dir_total, row_total, row_same}
use Rattle.pig_value.proofs.list_laws.Partitions.{slices_in_turn}
use Rattle.pig_value.specs.Gathering.{in_part}
use Rattle.pig_value.specs.Orders.{dir_cmp}
use Rattle.pig_value.specs.Sorts.{sort}
use Rattle.pig_value.specs.Trees.{Tree}
use Rattle.pig_typed.specs.declared.blocks.SortKey.{SortKey}
use Rattle.pig_typed.specs.Blocks.{keys_cmp}
use Rattle.pig_plan.specs.Laws.{slice_number}
use Rattle.pig_value.specs.Trees.{at}

pub keys_total : (keys : List SortKey) → IsTotalOrder (keys_cmp keys)
keys_total [] = row_total
keys_total (key ∷ keys) = then_total (on_total (at key.position) (dir_total key.dir)) (keys_total keys)

-- two orders in turn tie where both do
then_equal : (r s : Ordering) → ordering_then r s ≡ Equal → s ≡ Equal
then_equal Less s h = absurd (cc)
then_equal Equal s h = h
then_equal Greater s h = absurd (cc)

pub keys_same : (keys : List SortKey) (x y : List Tree) → keys_cmp keys x y ≡ Equal → x ≡ y
keys_same [] x y h = row_same x y h
keys_same (key ∷ keys) x y h = keys_same keys x y (then_equal (dir_cmp key.dir (at key.position x) (at key.position y)) (keys_cmp keys x y) h)

-- parts that rise with the rows, each sorted, are the whole sorted
pub ordered_slices : (keys : List SortKey) (part : List Tree → ℕ) (n : ℕ) → ((x y : List Tree) → is_gt (keys_cmp keys x y) ≡ false → part x ≤ part y) → ((x : List Tree) → part x < n)
    → (rows : List (List Tree)) → flat_map (λ p. sort (keys_cmp keys) (in_part part p rows)) (range_with_len 0 n) ≡ sort (keys_cmp keys) rows
ordered_slices keys part n rising below rows = slices_in_turn (keys_cmp keys) (keys_total keys) (keys_same keys) part rising n below rows

-- ---- cut points

-- how many points do not stand behind a row
more_points : (keys : List SortKey) (points : List (List Tree)) (x y : List Tree) → is_gt (keys_cmp keys x y) ≡ false → slice_number keys points x ≤ slice_number keys points y
more_points keys [] x y h = omega (arith)
more_points keys (p ∷ points) x y h = by_tests (is_gt (keys_cmp keys p x)) (is_gt (keys_cmp keys p y)) refl refl (more_points keys points x y h)
  where
    by_tests : (a b : Bool) → is_gt (keys_cmp keys p x) ≡ a → is_gt (keys_cmp keys p y) ≡ b → slice_number keys points x ≤ slice_number keys points y
        → length (cond (not a) (p ∷ filter (λ q. not (is_gt (keys_cmp keys q x))) points) (filter (λ q. not (is_gt (keys_cmp keys q x))) points))
        ≤ length (cond (not b) (p ∷ filter (λ q. not (is_gt (keys_cmp keys q y))) points) (filter (λ q. not (is_gt (keys_cmp keys q y))) points))
    by_tests false false e f more = omega (arith, more)
    by_tests false true e f more = absurd (true≢false (sym f ∙ upto (keys_total keys) p x y e h))
    by_tests true false e f more = omega (arith, more)
    by_tests true true e f more = omega (arith, more)

at_most_all : {X : Type 0} (p : X → Bool) (xs : List X) → length (filter p xs) ≤ length xs
at_most_all p [] = omega (arith)
at_most_all p (x ∷ xs) = by_test (p x) (at_most_all p xs)
  where
    by_test : (b : Bool) → length (filter p xs) ≤ length xs → length (cond b (x ∷ filter p xs) (filter p xs)) ≤ length (x ∷ xs)
    by_test true fewer = omega (arith, fewer)
    by_test false fewer = omega (arith, fewer)

-- the slices between cut points, each sorted, are the whole sorted
pub ordered_by_points : (keys : List SortKey) (points rows : List (List Tree))
    → flat_map (λ p. sort (keys_cmp keys) (in_part (slice_number keys points) p rows)) (range_with_len 0 (length points + 1)) ≡ sort (keys_cmp keys) rows
ordered_by_points keys points rows =
    ordered_slices keys (slice_number keys points) (length points + 1) (λ x y h. more_points keys points x y h)
    (λ x. let fewer = at_most_all (λ q. not (is_gt (keys_cmp keys q x))) points in omega (arith, fewer)) rows
