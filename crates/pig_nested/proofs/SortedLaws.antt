-- The order by keys is total and tells rows apart, and is that of the keys alone followed by that of rows.
use Rattle.std.specs.Prelude.{◌≡◌, List, [], ◌∷◌, refl}
use Rattle.std.proofs.Common.{ap, ◌∙◌}
use Rattle.std.specs.Cmp.{IsTotalOrder}
use Rattle.std.specs.Ordering.{ordering_then}
use Rattle.std.specs.declared.cmp.Ordering.{Ordering}
use Rattle.std.specs.declared.cmp.Ordering.TheVariants.{Less, Equal, Greater}
use Rattle.std.proofs.lemmas.Cmp.{on_total, then_total}
use Rattle.pig_value.specs.Orders.{dir_cmp, row_cmp}
use Rattle.pig_value.specs.Trees.{at, Tree}
use Rattle.pig_value.proofs.OrderLaws.{dir_total, row_total, row_same}
use Rattle.pig_typed.specs.declared.blocks.SortKey.{SortKey}
use Rattle.pig_typed.specs.Blocks.{keys_cmp}
use Rattle.pig_nested.specs.SortedBy.{by_keys_cmp}

pub keys_total : (keys : List SortKey) → IsTotalOrder (keys_cmp keys)
keys_total [] = row_total
keys_total (key ∷ keys) = then_total (on_total (at key.position) (dir_total key.dir)) (keys_total keys)

-- two orders in turn tie where both do
last_ties : (r s : Ordering) → ordering_then r s ≡ Equal → s ≡ Equal
last_ties Less s h = absurd (cc)
last_ties Equal s h = h
last_ties Greater s h = absurd (cc)

pub keys_same : (keys : List SortKey) (x y : List Tree) → keys_cmp keys x y ≡ Equal → x ≡ y
keys_same [] x y h = row_same x y h
keys_same (key ∷ keys) x y h = keys_same keys x y (last_ties (dir_cmp key.dir (at key.position x) (at key.position y)) (keys_cmp keys x y) h)

in_turn : (r s t : Ordering) → ordering_then r (ordering_then s t) ≡ ordering_then (ordering_then r s) t
in_turn Less s t = refl
in_turn Equal s t = refl
in_turn Greater s t = refl

-- by the keys alone, and where these are equal by the order of rows
pub keys_then_rows : (keys : List SortKey) (x y : List Tree) → keys_cmp keys x y ≡ ordering_then (by_keys_cmp keys x y) (row_cmp x y)
keys_then_rows [] x y = refl
keys_then_rows (key ∷ keys) x y =
    let first = dir_cmp key.dir (at key.position x) (at key.position y) in
    ap (ordering_then first) (keys_then_rows keys x y) ∙ in_turn first (by_keys_cmp keys x y) (row_cmp x y)
