use Rattle.std.proofs.Common.{drop}
use Rattle.pig_outside.specs.Shelf.{AreOfBytes}
use Rattle.pig_outside.proofs.laws.inputs_are_of_bytes.Given as goal

abbrev pub invariant-loop-input : goal.invariant-loop-input
invariant-loop-input l = AreOfBytes (drop l.input-index l.inputs) → AreOfBytes l.inputs
