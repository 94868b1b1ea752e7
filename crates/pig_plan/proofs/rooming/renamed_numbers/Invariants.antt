use Rattle.std.proofs.Common.{◌≡◌, map, take}
use Rattle.pig_plan.specs.Room.{past}
use Rattle.pig_plan.proofs.rooming.renamed_numbers.Given as goal

abbrev pub invariant-loop-number : goal.invariant-loop-number
invariant-loop-number l = l.made.items ≡ map (past l.at) (take l.number-index l.numbers)
