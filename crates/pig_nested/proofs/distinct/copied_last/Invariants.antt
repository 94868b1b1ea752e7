use Rattle.std.proofs.Common.{◌≡◌, ◌++◌, length, map}
use Rattle.pig_value.specs.Orders.{row_cmp}
use Rattle.pig_value.specs.Trees.{row_tree, rows_tree}
use Rattle.pig_nested.specs.Apart.{apart}
use Rattle.pig_nested.proofs.distinct.copied_last.Given as goal

abbrev pub invariant-loop-left : goal.invariant-loop-left
invariant-loop-left l =
    rows_tree l.made ++ apart row_cmp (map (λ row. row_tree row.now) l.left) ≡ apart row_cmp (map (λ row. row_tree row.now) l.rows)

abbrev pub decreases-loop-left : goal.decreases-loop-left
decreases-loop-left l = length l.left
