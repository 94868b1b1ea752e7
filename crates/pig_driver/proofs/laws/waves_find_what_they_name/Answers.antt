use Rattle.pig_driver.proofs.Standing.{finds_named}
use Rattle.pig_driver.proofs.laws.waves_find_what_they_name.Goals as goal

pub returns : goal.returns
returns c = finds_named
