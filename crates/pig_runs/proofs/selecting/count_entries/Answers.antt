use Rattle.std.proofs.Common.{◌≡◌, ◌+◌, rules}
use Rattle.pig_runs.proofs.Chosen.{entries_more}
use Rattle.pig_runs.proofs.selecting.count_entries.Goals as goal

pub loop-run-preserved : goal.loop-run-preserved
loop-run-preserved c =
    let is : c.in_ok-total.total ≡ c.loop-run.total + c.len.result = search rules in
    entries_more c.as_slice-run-items.result.now c.loop-run.run-index c.run-item.result c.loop-run.total c.len.result c.in_ok-total.total c.loop-run-test.true c.run-item.is c.len.ensures.count c.loop-run.invariant is
