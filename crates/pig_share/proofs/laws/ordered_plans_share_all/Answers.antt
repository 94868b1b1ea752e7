use Rattle.pig_share.proofs.NoneAlike.{lower_stays, ordered_share_all}
use Rattle.pig_share.proofs.laws.ordered_plans_share_all.Goals as goal

pub returns : goal.returns
returns c = record { once = ordered_share_all; lower = lower_stays }
