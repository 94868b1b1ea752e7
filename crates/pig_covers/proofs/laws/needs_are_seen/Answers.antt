use Rattle.pig_covers.proofs.PlanNeeds.{needs_are_seen}
use Rattle.pig_covers.proofs.laws.needs_are_seen.Goals as goal

pub returns : goal.returns
returns c = needs_are_seen
