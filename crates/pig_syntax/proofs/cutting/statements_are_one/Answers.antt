use Rattle.pig_syntax.proofs.CutLaws.{same_statements}
use Rattle.pig_syntax.proofs.Totals.{statements_some}
use Rattle.pig_syntax.proofs.cutting.statements_are_one.Goals as goal

pub returns-clause-one : goal.returns-clause-one
returns-clause-one c ts ps qs p q = same_statements ts p q

pub returns-clause-some : goal.returns-clause-some
returns-clause-some c = statements_some
