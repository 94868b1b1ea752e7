use Rattle.pig_driver.proofs.Over.{what_is_left}
use Rattle.pig_driver.proofs.laws.what_is_left_stands.Goals as goal

pub returns : goal.returns
returns c = what_is_left
