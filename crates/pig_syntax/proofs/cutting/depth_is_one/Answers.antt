use Rattle.pig_syntax.proofs.Totals.{depth_some}
use Rattle.pig_syntax.proofs.cutting.depth_is_one.Goals as goal

pub returns-clause-some : goal.returns-clause-some
returns-clause-some c = depth_some
