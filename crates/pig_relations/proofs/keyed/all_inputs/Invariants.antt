use Rattle.std.proofs.Common.{◌≡◌, map}
use Rattle.pig_value.specs.Trees.{kind_tree}
use Rattle.pig_plan.specs.Plans.{keyed_of}
use Rattle.pig_relations.specs.Keyed.{keyed}
use Rattle.pig_relations.specs.Views.{input_tree}
use Rattle.pig_relations.proofs.keyed.all_inputs.Given as goal

abbrev pub invariant-loop-input : goal.invariant-loop-input
invariant-loop-input l =
    map keyed_of l.made ≡ map (keyed (map kind_tree l.kinds)) (map input_tree l.yielded)
