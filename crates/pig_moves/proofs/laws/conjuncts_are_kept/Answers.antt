use Rattle.pig_moves.proofs.Chains.{conjuncts_kept}
use Rattle.pig_moves.proofs.laws.conjuncts_are_kept.Goals as goal

pub returns : goal.returns
returns c = conjuncts_kept
