use Rattle.std.proofs.Common.{◌≡◌, map, length}
use Rattle.pig_value.specs.Trees.{kind_tree}
use Rattle.pig_plan.specs.Given.{before_of}
use Rattle.pig_plan.specs.NodeKinds.{are_all_alike}
use Rattle.pig_plan.proofs.checking.all_alike.Given as goal

abbrev pub invariant-loop-left : goal.invariant-loop-left
invariant-loop-left l = are_all_alike (before_of l.before) (map kind_tree l.row) l.left ≡ are_all_alike (before_of l.before) (map kind_tree l.row) l.others

abbrev pub decreases-loop-left : goal.decreases-loop-left
decreases-loop-left l = length l.left
