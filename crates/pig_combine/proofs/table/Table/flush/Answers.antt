use Rattle.std.proofs.Common.{ap, sym, ◌∙◌, map, subst, []}
use Rattle.std.proofs.lemmas.Result.{IfOk-weaker}
use Rattle.pig_algebra.specs.Combining.{combined, parts_by}
use Rattle.pig_algebra.specs.Cuts.{cut_typed}
use Rattle.pig_runs.specs.Entries.{run_of}
use Rattle.pig_combine.specs.Holdings.{HasAdded, cuts_held, group_told}
use Rattle.pig_combine.proofs.Flushed.{run_is}
use Rattle.pig_combine.proofs.table.Table.flush.Goals as goal

pub returns-clause-run : goal.returns-clause-run
returns-clause-run c added has =
    let held = c.self.inside in
    IfOk-weaker c.run_of_groups.result _ _
    (λ run e. e
    ∙ run_is (map cut_typed held.cuts) added (map group_told held.groups.items) (subst (HasAdded added) (sym c.self.view_is) has) []
    ∙ ap (λ h. run_of [] (combined (parts_by (cuts_held h)) added)) c.self.view_is)
    c.run_of_groups.ensures
