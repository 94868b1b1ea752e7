use Rattle.std.proofs.Common.{drop}
use Rattle.std.specs.List.{AllByRecursion}
use Rattle.pig_value.specs.Leaves.{AreBytes}
use Rattle.pig_outside.proofs.laws.pieces_are_of_bytes.Given as goal

abbrev pub invariant-loop-piece : goal.invariant-loop-piece
invariant-loop-piece l = AllByRecursion AreBytes (drop l.piece-index l.pieces) → AllByRecursion AreBytes l.pieces
