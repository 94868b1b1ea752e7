use Rattle.std.proofs.Common.{◌≡◌, map, length}
use Rattle.std.specs.List.{list_all}
use Rattle.pig_value.specs.Kinds.{kinds_eq}
use Rattle.pig_value.specs.Trees.{kind_tree, kinds_of}
use Rattle.pig_plan.specs.Given.{keyed_row}
use Rattle.pig_plan.proofs.keyed.all_like.Given as goal

abbrev pub invariant-loop-left : goal.invariant-loop-left
invariant-loop-left l =
    list_all (λ other. kinds_eq (kinds_of (map kind_tree l.keys)) (kinds_of other.keys)) (map keyed_row l.left)
    ≡ list_all (λ other. kinds_eq (kinds_of (map kind_tree l.keys)) (kinds_of other.keys)) (map keyed_row l.others)

abbrev pub decreases-loop-left : goal.decreases-loop-left
decreases-loop-left l = length l.left
