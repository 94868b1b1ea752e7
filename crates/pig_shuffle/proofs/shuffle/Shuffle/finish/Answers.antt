use Rattle.std.proofs.Common.{◌∙◌, subst, sym}
use Rattle.std.proofs.lemmas.Result.{IfOk-weaker}
use Rattle.pig_plan.specs.Entries.{sort_keys}
use Rattle.pig_shuffle.specs.Held.{HasShuffled}
use Rattle.pig_shuffle.specs.Shuffling.{cuts_by, entries_by}
use Rattle.pig_shuffle.proofs.Runs.{held_are_runs}
use Rattle.pig_shuffle.proofs.shuffle.Shuffle.finish.Goals as goal

pub returns : goal.returns
returns c w rows has =
    let held = (subst (HasShuffled w rows) (sym c.self.view_is) has).held in
    IfOk-weaker c.finish.result _ _ (λ runs is. is ∙ held_are_runs w rows)
    (c.finish.ensures (cuts_by w.fold w.op) (sort_keys w.op) w.parts (entries_by w rows) held)
