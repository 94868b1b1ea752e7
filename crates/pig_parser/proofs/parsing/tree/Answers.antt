use Rattle.std.proofs.Common.{rules}
use Rattle.pig_parser.proofs.TreeOf.{gives_tree}
use Rattle.pig_parser.proofs.parsing.tree.Goals as goal

pub returns : goal.returns
returns c = gives_tree c.args.tokens.now c.args.piece.now c.statement.result (search rules) c.requires.shallow c.statement.ensures
