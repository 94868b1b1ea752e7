use Rattle.std.proofs.Common.{refl}
use Rattle.pig_run.specs.Running.{asserted, untold}
use Rattle.pig_run.proofs.finding.fail_assert.Goals as goal

pub returns-in-Ok : goal.returns-in-Ok
returns-in-Ok c = asserted refl c.in-Ok.ensures

pub returns-in-Err : goal.returns-in-Err
returns-in-Err c = untold refl
