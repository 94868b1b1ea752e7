use Rattle.std.proofs.Common.{rules, ◌≡◌, ◌∙◌, ◌<◌, ap, length, subst}
use Rattle.pig_plan.specs.Valid.{IsPlan}
use Rattle.pig_physical.specs.Seen.{staged}
use Rattle.pig_physical.specs.Stages.{heads, tasks_in}
use Rattle.pig_driver.specs.Left.{HaveLooked, HaveMarked, copies_in, looked, set_look}
use Rattle.pig_driver.proofs.Looks.{last_looks_are, look_size, looked_next, looked_size, marked_none}
use Rattle.pig_driver.proofs.leaving.last_looks.Goals as goal

pub loop-wave-preserved : goal.loop-wave-preserved
loop-wave-preserved c =
    let s = staged c.args.stages.now in
    let w = c.loop-wave.wave in
    let olds = c.loop-wave.lasts.items in
    let valid : IsPlan (staged c.args.stages.now).plan = search rules in
    let within : c.loop-wave.wave < length (heads (staged c.args.stages.now).plan) = search rules in (
      ap length (c.note_copies.ensures ∙ ap (set_look (copies_in s w) w) c.note_looks.ensures)
          ∙ look_size w (copies_in s w) (looked (tasks_in s w) w olds)
          ∙ looked_size (tasks_in s w) w olds
          ∙ c.loop-wave.invariant.0,
      looked_next s valid w olds c.note_copies.new.lasts.items within (c.note_copies.ensures ∙ ap (set_look (copies_in s w) w) c.note_looks.ensures)
          c.loop-wave.invariant.1,
    )

pub loop-wave-2-init : goal.loop-wave-2-init
loop-wave-2-init c =
    let s = staged c.args.stages.now in
    let end : c.loop-wave.wave ≡ length (heads (staged c.args.stages.now).plan) = search rules in (
      c.loop-wave.invariant.0,
      subst (λ n. HaveLooked s n c.loop-wave.lasts.items) end c.loop-wave.invariant.1,
      marked_none s c.loop-wave.lasts.items,
    )

pub loop-wave-2-preserved : goal.loop-wave-2-preserved
loop-wave-2-preserved c =
    (c.mark_lasting.ensures.size ∙ c.loop-wave-2.invariant.0, c.mark_lasting.ensures.looked c.loop-wave-2.invariant.1, c.mark_lasting.ensures.marked c.loop-wave-2.invariant.2)

pub returns : goal.returns
returns c =
    let s = staged c.args.stages.now in
    let end : c.loop-wave-2.wave ≡ length (heads (staged c.args.stages.now).plan) = search rules in
    last_looks_are s c.loop-wave-2.lasts.items c.loop-wave-2.invariant.0 c.loop-wave-2.invariant.1
    (subst (λ n. HaveMarked s n c.loop-wave-2.lasts.items) end c.loop-wave-2.invariant.2)
