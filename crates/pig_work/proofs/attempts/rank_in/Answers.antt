use Rattle.pig_physical.specs.Handed.{out_of, outs_of}
use Rattle.pig_physical.specs.Seen.{staged}
use Rattle.pig_work.proofs.Attempted.{rank_is_right}
use Rattle.pig_work.proofs.attempts.rank_in.Goals as goal

pub returns-in-Ok-clause-right : goal.returns-in-Ok-clause-right
returns-in-Ok-clause-right g c =
    rank_is_right (staged c.args.stages.now) out_of (outs_of c.args.prior.now) c.args.task.now c.in-Ok.out c.in-Ok.ensures.value c.in-Ok.ensures.fits
