use Rattle.std.proofs.Common.{◌≡◌, map, take}
use Rattle.pig_plan.specs.Plans.{keyed_of}
use Rattle.pig_plan.specs.Renumbered.{rename_keyed}
use Rattle.pig_plan.specs.Room.{past}
use Rattle.pig_plan.proofs.rooming.renamed_inputs.Given as goal

abbrev pub invariant-loop-input : goal.invariant-loop-input
invariant-loop-input l = map keyed_of l.made.items ≡ map (rename_keyed (past l.at)) (map keyed_of (take l.input-index l.inputs))
