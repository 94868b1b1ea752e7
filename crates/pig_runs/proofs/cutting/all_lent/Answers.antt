use Rattle.std.proofs.Common.{sym, subst}
use Rattle.pig_runs.specs.Cutting.{HaveDirections, dirs_of_all}
use Rattle.pig_runs.proofs.Lending.{one_run_lent}
use Rattle.pig_runs.proofs.cutting.all_lent.Goals as goal

pub loop-run-preserved : goal.loop-run-preserved
loop-run-preserved c =
    one_run_lent _ c.as_slice-run-items.result.now c.loop-run.run-index c.run-item.result c.as_builder.result.now _ _ (subst (λ rs. HaveDirections (dirs_of_all rs) rs) (sym c.as_slice-run-items.ensures) c.requires) c.loop-run-test.true c.run-item.is c.as_builder.ensures.is
    c.lend_all.ensures.good c.loop-run.invariant c.in_ok-lend_all.ensures.told
