use Rattle.std.proofs.Common.{◌≡◌, map, drop, ◌+◌, ◌*◌}
use Rattle.pig_value.specs.Trees.{tree, entry_of}
use Rattle.pig_value.specs.Orders.{row_cmp, rows_cmp, pairs_cmp}
use Rattle.pig_value.proofs.comparing.+order.Given as goal

abbrev pub decreases-order : goal.decreases-order
decreases-order l = 3 * goal.size-order l

abbrev pub decreases-order_values : goal.decreases-order_values
decreases-order_values l = 3 * goal.size-order_values l + 1

abbrev pub decreases-order_tuples : goal.decreases-order_tuples
decreases-order_tuples l = 3 * goal.size-order_tuples l + 2

abbrev pub decreases-order_pair : goal.decreases-order_pair
decreases-order_pair l = 3 * goal.size-order_pair l + 1

abbrev pub decreases-order_pairs : goal.decreases-order_pairs
decreases-order_pairs l = 3 * goal.size-order_pairs l + 2

abbrev pub invariant-order_pairs-loop-i : goal.invariant-order_pairs-loop-i
invariant-order_pairs-loop-i l = pairs_cmp (map entry_of (drop l.i l.a)) (map entry_of (drop l.i l.b)) ≡ pairs_cmp (map entry_of l.a) (map entry_of l.b)

abbrev pub invariant-order_tuples-loop-i : goal.invariant-order_tuples-loop-i
invariant-order_tuples-loop-i l = rows_cmp (map (map tree) (drop l.i l.a)) (map (map tree) (drop l.i l.b)) ≡ rows_cmp (map (map tree) l.a) (map (map tree) l.b)

abbrev pub invariant-order_values-loop-i : goal.invariant-order_values-loop-i
invariant-order_values-loop-i l = row_cmp (map tree (drop l.i l.a)) (map tree (drop l.i l.b)) ≡ row_cmp (map tree l.a) (map tree l.b)
