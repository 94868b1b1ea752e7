use Rattle.std.proofs.Common.{◌∙◌, ◌+◌, ap, slice_set, subst, sym}
use Rattle.pig_physical.specs.Seen.{staged}
use Rattle.pig_driver.specs.Left.{HaveAllLooked, HaveMarked}
use Rattle.pig_driver.proofs.Looks.{looked_still, marked_next}
use Rattle.pig_driver.proofs.leaving.mark_lasting.Goals as goal

pub returns-clause-looked : goal.returns-clause-looked
returns-clause-looked c h =
    let s = staged c.args.stages.now in
    let olds = c.args.lasts.now.items in
    subst (HaveAllLooked s) (sym (c.put_look.ensures ∙ ap (slice_set olds c.args.wave) c.waves-waves.ensures)) (looked_still s c.args.wave olds h)

pub returns-clause-marked : goal.returns-clause-marked
returns-clause-marked c h =
    let s = staged c.args.stages.now in
    let olds = c.args.lasts.now.items in
    subst (HaveMarked s (c.args.wave + 1)) (sym (c.put_look.ensures ∙ ap (slice_set olds c.args.wave) c.waves-waves.ensures)) (marked_next s c.args.wave olds h)
