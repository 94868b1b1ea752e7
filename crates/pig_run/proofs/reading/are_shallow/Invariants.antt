use Rattle.std.proofs.Common.{All, take}
use Rattle.pig_parser.specs.Parsing.{IsShallow}
use Rattle.pig_run.proofs.reading.are_shallow.Given as goal

abbrev pub invariant-loop-place : goal.invariant-loop-place
invariant-loop-place l = All (IsShallow l.tokens) (take l.place l.pieces)
