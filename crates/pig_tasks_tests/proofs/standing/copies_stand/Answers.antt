use Rattle.std.proofs.Common.{rules, ◌≡◌, ◌∙◌, ap, sym}
use Rattle.pig_physical.specs.Handed.{outs_of}
use Rattle.pig_physical.specs.Seen.{entering_of, map_task_of, no_way, staged}
use Rattle.pig_physical.specs.Stages.{ways_in}
use Rattle.pig_plan.specs.Results.{at_place}
use Rattle.std.specs.Option.{unwrap_or}
use Rattle.pig_tasks_tests.proofs.Copies.{of_further, of_node}
use Rattle.pig_tasks_tests.proofs.standing.copies_stand.Goals as goal

pub returns-then-way_of-ne0 : goal.returns-then-way_of-ne0
returns-then-way_of-ne0 c =
    let s = staged c.args.stages.now in
    let t = map_task_of s c.args.task.now in
    let way : at_place no_way (ways_in s.plan c.args.task.now.wave) c.args.task.now.way ≡ entering_of c.way_of.result.now =
    ap (λ found. unwrap_or found no_way) c.way_of.ensures in
    let other : c.way_of.result.now.input ≡ 0 → ⊥ = search rules in
    λ _. of_further s (outs_of c.args.prior.now) t (λ first. other (sym (ap (λ w. w.input) way) ∙ first))

pub returns : goal.returns
returns c = λ held.
    of_node (staged c.args.stages.now) (outs_of c.args.prior.now) (map_task_of (staged c.args.stages.now) c.args.task.now) c.args.task.now.wave
    c.requires.task.at c.requires.task.stands (c.all_copied.ensures held)
