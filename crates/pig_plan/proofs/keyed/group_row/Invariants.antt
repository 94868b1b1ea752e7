use Rattle.std.proofs.Common.{◌≡◌, ◌++◌, map, drop}
use Rattle.pig_value.specs.Trees.{kind_tree}
use Rattle.pig_plan.specs.Given.{keyed_row}
use Rattle.pig_plan.specs.NodeKinds.{keyed_bags, group_kinds}
use Rattle.pig_plan.proofs.keyed.group_row.Given as goal

abbrev pub invariant-loop-input : goal.invariant-loop-input
invariant-loop-input l = map kind_tree l.kinds.items ++ keyed_bags (map keyed_row (drop l.input-index l.found)) ≡ group_kinds (map keyed_row l.found)
