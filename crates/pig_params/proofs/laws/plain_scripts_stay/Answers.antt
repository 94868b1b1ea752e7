use Rattle.pig_params.proofs.PlainScripts.{plain_scripts_stay}
use Rattle.pig_params.proofs.laws.plain_scripts_stay.Goals as goal

pub returns : goal.returns
returns c = plain_scripts_stay
