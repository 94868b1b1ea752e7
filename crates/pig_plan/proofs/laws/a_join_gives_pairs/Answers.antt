use Rattle.pig_plan.proofs.Pairs.{joins_pairs}
use Rattle.pig_plan.proofs.laws.a_join_gives_pairs.Goals as goal

pub returns : goal.returns
returns c = λ a b width rows. joins_pairs a b rows width
