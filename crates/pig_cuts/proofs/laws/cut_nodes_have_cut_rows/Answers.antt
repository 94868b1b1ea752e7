use Rattle.pig_cuts.proofs.Means.{cut_nodes_have_cut_rows}
use Rattle.pig_cuts.proofs.laws.cut_nodes_have_cut_rows.Goals as goal

pub returns : goal.returns
returns c = cut_nodes_have_cut_rows
