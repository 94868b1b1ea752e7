use Rattle.pig_parser.proofs.OneTree.{one_statement}
use Rattle.pig_parser.proofs.parsing.a_statement_has_one_tree.Goals as goal

pub returns : goal.returns
returns c ts s u h g = one_statement h g
