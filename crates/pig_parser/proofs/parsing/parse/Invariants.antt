use Rattle.std.proofs.Common.{take}
use Rattle.pig_parser.specs.Parsing.{AreTrees}
use Rattle.pig_parser.proofs.parsing.parse.Given as goal

abbrev pub invariant-loop-index : goal.invariant-loop-index
invariant-loop-index l = AreTrees l.tokens (take l.index l.piece-items) l.trees
