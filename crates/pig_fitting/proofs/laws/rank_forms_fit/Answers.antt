use Rattle.pig_fitting.proofs.Ranked.{rank_forms_fit}
use Rattle.pig_fitting.proofs.laws.rank_forms_fit.Goals as goal

pub returns : goal.returns
returns c = λ s valid w at t stands outs has made behind. rank_forms_fit s valid w at t stands outs has made behind
