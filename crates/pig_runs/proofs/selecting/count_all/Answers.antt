use Rattle.std.proofs.Common.{◌≡◌, ◌+◌, rules}
use Rattle.pig_runs.specs.Cutting.{is_up_to}
use Rattle.pig_runs.specs.Entries.{run_cmp}
use Rattle.pig_runs.proofs.Chosen.{counted_all, counted_run}
use Rattle.pig_runs.proofs.selecting.count_all.Goals as goal

pub loop-run-preserved : goal.loop-run-preserved
loop-run-preserved c f here =
    let is : c.in_ok-total.total ≡ c.loop-run.total + c.count_up_to-count.result = search rules in
    counted_run c.args.equal c.args.other.now c.as_builder-in-loop-run.result.now c.args.at c.args.runs.now c.as_slice-run-items.result.now c.loop-run.run-index c.run-item.result c.as_builder.result.now c.loop-run.total
    c.count_up_to-count.result c.in_ok-total.total f c.requires.alike c.as_slice-run-items.ensures c.loop-run-test.true c.run-item.is c.as_builder.ensures.is c.as_builder-in-loop-run.ensures.is
    c.count_up_to-count.ensures.bound c.count_up_to-count.ensures.parts here (c.loop-run.invariant f here) is

pub returns : goal.returns
returns c f here =
    counted_all (λ e. is_up_to c.args.equal (run_cmp c.args.other.now.dirs e f)) c.args.runs.now c.as_slice-run-items.result.now c.loop-run.run-index c.loop-run.total c.as_slice-run-items.ensures (search rules)
    (c.loop-run.invariant f here)
