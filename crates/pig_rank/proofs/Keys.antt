-- The order of rows by keys alone: it is total, it ties rows just where their key fields are the same, and what ORDER gives is sorted by it.
use Rattle.std.specs.Prelude.{◌≡◌, false, Bool, ◌&&◌, List, [], ◌∷◌, refl}
use Rattle.std.proofs.Common.{ap, true≢false}
use Rattle.std.specs.Cmp.{IsTotalOrder}
use Rattle.std.specs.List.{list_all}
use Rattle.std.specs.Ordering.{is_eq, is_gt, ordering_reverse, ordering_then}
use Rattle.std.specs.declared.cmp.Ordering.{Ordering}
use Rattle.std.specs.declared.cmp.Ordering.TheVariants.{Less, Equal, Greater}
use Rattle.std.proofs.Common.{◌∙◌, sym}
use Rattle.std.proofs.lemmas.Cmp.{on_total, then_total}
use Rattle.pig_value.specs.declared.operators.Dir.{Dir}
use Rattle.pig_value.specs.declared.operators.Dir.TheVariants as dir
use Rattle.pig_value.specs.Orders.{dir_cmp, row_cmp, tree_cmp}
use Rattle.pig_value.specs.Sorts.{Ascends}
use Rattle.pig_value.specs.Trees.{Tree, at}
use Rattle.pig_value.proofs.OrderLaws.{dir_total, tree_total}
use Rattle.pig_value.proofs.list_laws.Bags.{sort_ascends}
use Rattle.pig_typed.specs.declared.blocks.SortKey.{SortKey}
use Rattle.pig_typed.specs.Blocks.{keys_cmp}
use Rattle.pig_plan.specs.Operators.{key_fields, order_rows, sort_keys_cmp}
use Rattle.pig_plan.proofs.Ordered.{keys_total}
use Rattle.pig_rank.specs.Walks.{has_same_field}

all_tie : IsTotalOrder (sort_keys_cmp [])
all_tie = record { antisymm = λ x y. refl; trans = λ x y z h k. absurd (cc); congr = λ x y z h. refl }

pub sort_total : (keys : List SortKey) → IsTotalOrder (sort_keys_cmp keys)
sort_total [] = all_tie
sort_total (key ∷ keys) = then_total (on_total (at key.position) (dir_total key.dir)) (sort_total keys)

-- ---- ties

turned_ties : (r s : Ordering) → r ≡ ordering_reverse s → is_eq r ≡ is_eq s
turned_ties r Less e = ap is_eq e
turned_ties r Equal e = ap is_eq e
turned_ties r Greater e = ap is_eq e

pub dir_ties : (d : Dir) (a b : Tree) → is_eq (tree_cmp a b) ≡ is_eq (dir_cmp d a b)
dir_ties dir.Asc a b = refl
dir_ties dir.Desc a b = turned_ties (tree_cmp a b) (tree_cmp b a) (tree_total.antisymm a b)

pub then_ties : (r s t u : Ordering) → is_eq r ≡ is_eq s → is_eq t ≡ is_eq u → is_eq (ordering_then r t) ≡ is_eq (ordering_then s u)
then_ties Less Less t u h k = refl
then_ties Less Equal t u h k = absurd (true≢false (sym h))
then_ties Less Greater t u h k = refl
then_ties Equal Less t u h k = absurd (true≢false h)
then_ties Equal Equal t u h k = k
then_ties Equal Greater t u h k = absurd (true≢false h)
then_ties Greater Less t u h k = refl
then_ties Greater Equal t u h k = absurd (true≢false (sym h))
then_ties Greater Greater t u h k = refl

pub ties_are : (keys : List SortKey) (x y : List Tree) → is_eq (row_cmp (key_fields keys x) (key_fields keys y)) ≡ is_eq (sort_keys_cmp keys x y)
ties_are [] x y = refl
ties_are (key ∷ keys) x y =
    then_ties (tree_cmp (at key.position x) (at key.position y)) (dir_cmp key.dir (at key.position x) (at key.position y)) (row_cmp (key_fields keys x) (key_fields keys y)) (sort_keys_cmp keys x y)
    (dir_ties key.dir (at key.position x) (at key.position y)) (ties_are keys x y)

-- the test of the code
pub fields_tie : (keys : List SortKey) (x y : List Tree) → list_all (has_same_field x y) keys ≡ is_eq (sort_keys_cmp keys x y)
fields_tie [] x y = refl
fields_tie (key ∷ keys) x y =
    let a = at key.position x in
    let b = at key.position y in
    ap (λ rest. is_eq (tree_cmp a b) && rest) (fields_tie keys x y) ∙ both (is_eq (tree_cmp a b)) (dir_cmp key.dir a b) (sort_keys_cmp keys x y) (dir_ties key.dir a b)
  where
    both : (t : Bool) (r s : Ordering) → t ≡ is_eq r → (t && is_eq s) ≡ is_eq (ordering_then r s)
    both t Less s e = ap (λ u. u && is_eq s) e
    both t Equal s e = ap (λ u. u && is_eq s) e
    both t Greater s e = ap (λ u. u && is_eq s) e

-- ---- the order of ORDER

then_low : (r s t : Ordering) → (is_gt s ≡ false → is_gt t ≡ false) → is_gt (ordering_then r s) ≡ false → is_gt (ordering_then r t) ≡ false
then_low Less s t on h = refl
then_low Equal s t on h = on h
then_low Greater s t on h = h

never_greater : (keys : List SortKey) (x y : List Tree) → is_gt (keys_cmp keys x y) ≡ false → is_gt (sort_keys_cmp keys x y) ≡ false
never_greater [] x y h = refl
never_greater (key ∷ keys) x y h = then_low (dir_cmp key.dir (at key.position x) (at key.position y)) (keys_cmp keys x y) (sort_keys_cmp keys x y) (never_greater keys x y) h

pub sorted_by_keys : (keys : List SortKey) (rows : List (List Tree)) → Ascends (keys_cmp keys) rows → Ascends (sort_keys_cmp keys) rows
sorted_by_keys keys [] h = tt
sorted_by_keys keys (x ∷ []) h = (tt, tt)
sorted_by_keys keys (x ∷ y ∷ rows) h = (never_greater keys x y h.0, sorted_by_keys keys (y ∷ rows) h.1)

pub order_sorted : (keys : List SortKey) (rows : List (List Tree)) → Ascends (sort_keys_cmp keys) (order_rows keys rows)
order_sorted keys rows = sorted_by_keys keys (order_rows keys rows) (sort_ascends (keys_cmp keys) (keys_total keys) rows)
