use Rattle.pig_stream.proofs.Drives.{literals_still}
use Rattle.pig_stream.proofs.driving.drive_batch.Goals as goal

pub returns-clause-literals : goal.returns-clause-literals
returns-clause-literals g c = literals_still c.args.steps.now c.apply.new.self c.apply.ensures.steps c.requires
