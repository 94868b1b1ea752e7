use Rattle.std.proofs.Common.{map, drop}
use Rattle.pig_plan.specs.Laws.{KeyLiteralsAre}
use Rattle.pig_plan.specs.Plans.{keyed_of}
use Rattle.pig_value.specs.Valid.{IsValue}
use Rattle.pig_plan.proofs.valued.know_keys.Given as goal

abbrev pub invariant-loop-input : goal.invariant-loop-input
invariant-loop-input l = KeyLiteralsAre IsValue (map keyed_of (drop l.input-index l.inputs)) → KeyLiteralsAre IsValue (map keyed_of l.inputs)
