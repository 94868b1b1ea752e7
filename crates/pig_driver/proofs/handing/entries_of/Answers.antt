use Rattle.pig_physical.specs.Handed.{runs_of_out}
use Rattle.std.proofs.Common.{length}
use Rattle.pig_driver.proofs.Counting.{counts_place}
use Rattle.pig_driver.proofs.handing.entries_of.Goals as goal

pub loop-at-preserved : goal.loop-at-preserved
loop-at-preserved c =
    counts_place (λ run. length run.entries) (runs_of_out c.args.runs.now) c.loop-at.at c.loop-at.count c.entries_at-count.result c.entries_at-count.ensures c.loop-at.invariant
