use Rattle.pig_collect.proofs.Left.{tell_the_same}
use Rattle.pig_collect.proofs.laws.what_is_left_tells_the_same.Goals as goal

pub returns : goal.returns
returns c = tell_the_same c.what_is_left_stands.ensures
