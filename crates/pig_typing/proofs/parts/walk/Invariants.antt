use Rattle.std.proofs.Common.{◌≡◌, drop}
use Rattle.pig_typing.specs.Parts.{steps_of}
use Rattle.pig_typing.specs.Views.{typing_tree}
use Rattle.pig_typing.proofs.parts.walk.Given as goal

abbrev pub invariant-loop-step : goal.invariant-loop-step
invariant-loop-step l = steps_of (typing_tree l.so_far) (drop l.step-index l.steps) ≡ steps_of (typing_tree l.fn.first) l.steps
