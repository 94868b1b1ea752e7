use Rattle.pig_driver.proofs.Standing.{reads_told}
use Rattle.pig_driver.proofs.laws.waves_read_told_inputs.Goals as goal

pub returns : goal.returns
returns c = reads_told
