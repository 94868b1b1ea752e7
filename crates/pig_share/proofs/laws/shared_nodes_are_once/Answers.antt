use Rattle.pig_share.proofs.Once.{shared_once}
use Rattle.pig_share.proofs.laws.shared_nodes_are_once.Goals as goal

pub returns : goal.returns
returns c = shared_once
