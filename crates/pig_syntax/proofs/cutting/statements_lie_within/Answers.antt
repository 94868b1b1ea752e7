use Rattle.std.proofs.Common.{arith}
use Rattle.pig_syntax.proofs.CutLaws.{all_within, count_within}
use Rattle.pig_syntax.proofs.cutting.statements_lie_within.Goals as goal

pub returns-clause-within : goal.returns-clause-within
returns-clause-within c ts ps p = all_within ts p

pub returns-clause-few : goal.returns-clause-few
returns-clause-few c ts ps p = omega (arith, count_within ts p)
