use Rattle.pig_physical.proofs.Waved.{seen_at}
use Rattle.pig_physical.specs.Seen.{entering_of, staged}
use Rattle.pig_physical.specs.Stages.{ways_in}
use Rattle.pig_physical.proofs.staged.Stages.way_of.Goals as goal

pub returns : goal.returns
returns c =
    let s = staged c.args.self.now in
    seen_at entering_of c.wave.result.now.ways c.as_slice.result.now (ways_in s.plan c.args.task.now.wave) c.args.task.now.way c.index-as_slice-task.result
    c.wave.ensures.is.ways c.as_slice.ensures c.requires.way c.index-as_slice-task.is
