use Rattle.std.proofs.Common.{◌≡◌, ◌≤◌, ◌++◌, ◌-◌, length, take, drop}
use Rattle.pig_value.specs.Orders.{row_cmp}
use Rattle.pig_value.specs.Trees.{rows_tree}
use Rattle.pig_nested.specs.Apart.{apart}
use Rattle.pig_nested.proofs.distinct.last_of_each.Given as goal

abbrev pub invariant-loop-next : goal.invariant-loop-next
invariant-loop-next l =
    (rows_tree (take l.kept l.rows.items) ++ apart row_cmp (rows_tree (drop l.next l.rows.items)) ≡ apart row_cmp (rows_tree l.fn.rows.items))
    × (l.kept ≤ l.next) × (l.next ≤ length l.rows.items)

abbrev pub decreases-loop-next : goal.decreases-loop-next
decreases-loop-next l = length l.rows.items - l.next
