use Rattle.std.proofs.Common.{◌≡◌, ◌++◌, map, drop}
use Rattle.std.specs.Option.{option_map}
use Rattle.pig_value.specs.FieldReader.{all_of}
use Rattle.pig_plan.specs.Given.{before_of, keyed_row}
use Rattle.pig_plan.specs.NodeKinds.{keyed_kinds}
use Rattle.pig_plan.specs.Plans.{keyed_of}
use Rattle.pig_plan.proofs.keyed.each_keyed.Given as goal

abbrev pub invariant-loop-input : goal.invariant-loop-input
invariant-loop-input l =
    option_map (λ more. map keyed_row l.found.items ++ more) (all_of (keyed_kinds (before_of l.before)) (map keyed_of (drop l.input-index l.input-items)))
    ≡ all_of (keyed_kinds (before_of l.before)) (map keyed_of l.inputs)
