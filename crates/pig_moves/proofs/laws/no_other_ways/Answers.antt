use Rattle.pig_moves.proofs.Ways.{no_other_ways}
use Rattle.pig_moves.proofs.laws.no_other_ways.Goals as goal

pub returns : goal.returns
returns c = no_other_ways
