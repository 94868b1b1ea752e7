use Rattle.std.proofs.Common.{◌≡◌, take}
use Rattle.pig_plan.proofs.copying.copy_numbers.Given as goal

abbrev pub invariant-loop-number : goal.invariant-loop-number
invariant-loop-number l = l.made.items ≡ take l.number-index l.numbers
