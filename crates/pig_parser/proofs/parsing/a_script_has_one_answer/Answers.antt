use Rattle.pig_parser.proofs.OneAnswer.{same_trees, one_first, not_both}
use Rattle.pig_parser.proofs.SomeAnswer.{trees_or_off}
use Rattle.pig_parser.proofs.parsing.a_script_has_one_answer.Goals as goal

pub returns : goal.returns
returns c = record { some = trees_or_off; trees = λ ts ps ss us h g. same_trees ts h g; first = one_first; not_both = not_both }
