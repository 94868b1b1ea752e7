use Rattle.pig_operators.proofs.Keying.{cogroup_is}
use Rattle.pig_operators.proofs.choosing.gathering_of_several.Goals as goal

pub returns : goal.returns
returns c = cogroup_is c.args.inputs.now c.in_ok-inner.inner c.requires c.in_ok-inner.ensures
