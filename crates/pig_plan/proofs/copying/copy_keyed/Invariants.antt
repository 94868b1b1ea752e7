use Rattle.std.proofs.Common.{◌≡◌, take}
use Rattle.pig_plan.proofs.copying.copy_keyed.Given as goal

abbrev pub invariant-loop-input : goal.invariant-loop-input
invariant-loop-input l = l.made.items ≡ take l.input-index l.inputs
