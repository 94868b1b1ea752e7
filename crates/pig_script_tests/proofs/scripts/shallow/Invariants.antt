use Rattle.std.proofs.Common.{take}
use Rattle.std.specs.List.{All}
use Rattle.pig_parser.specs.Parsing.{IsShallow}
use Rattle.pig_script_tests.proofs.scripts.shallow.Given as goal

abbrev pub invariant-loop-piece : goal.invariant-loop-piece
invariant-loop-piece l = All (IsShallow l.fn.tokens) (take l.piece-index l.piece-items)
