use Rattle.pig_cuts.proofs.CutFits.{fitted_nodes_fit}
use Rattle.pig_cuts.proofs.laws.fitted_nodes_fit.Goals as goal

pub returns : goal.returns
returns c = fitted_nodes_fit
