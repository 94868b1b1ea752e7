use Rattle.std.proofs.Common.{◌≡◌, List, subst, rules}
use Rattle.std.specs.Prelude.{Option}
use Rattle.pig_value.specs.declared.inputs.Input.{Input}
use Rattle.pig_plan.specs.Plans.{plan_of}
use Rattle.pig_stream.specs.Stepping.{marked_folding}
use Rattle.pig_physical.specs.Handed.{outs_of}
use Rattle.pig_physical.specs.Seen.{entering_of, map_task_of, no_way, staged}
use Rattle.pig_physical.specs.Stages.{ways_in}
use Rattle.pig_map.specs.Choosing.{Chooses}
use Rattle.pig_map.specs.Making.{AreFrom}
use Rattle.pig_map.proofs.LentRows.{are_lent}
use Rattle.pig_map.proofs.Runs.{way_at}
use Rattle.pig_map.proofs.lent.lent_rows.Goals as goal

pub returns : goal.returns
returns c =
    let s = staged c.args.work.now.stages.now in
    let task = c.args.work.now.task.now in
    let way = entering_of c.way_of-way.result.now in
    let is_way : (map_task_of s task).way ≡ way = way_at (ways_in s.plan task.wave) task.way no_way way c.way_of-way.ensures in
    let plan : plan_of c.as_slice.result.now ≡ s.plan = search rules in
    let chosen : Chooses (marked_folding c.folded.result.now) (plan_of c.as_slice.result.now) c.as_slice-path.result.now c.in-Some-2.chosen = search rules in
    let path : c.as_slice-path.result.now ≡ way.path.nodes = search rules in
    let chooses : Chooses (marked_folding c.folded.result.now) s.plan way.path.nodes c.in-Some-2.chosen =
    subst (λ p. Chooses (marked_folding c.folded.result.now) p way.path.nodes c.in-Some-2.chosen) plan
    (subst (λ ns. Chooses (marked_folding c.folded.result.now) (plan_of c.as_slice.result.now) ns c.in-Some-2.chosen) path chosen) in
    let from : (told : Option (List Input)) → AreFrom s told (outs_of c.args.work.now.prior.now) way.path.source task.part c.in-Some.rows.now 0 = search rules in
    λ told.
    are_lent s told (outs_of c.args.work.now.prior.now) (map_task_of s task) way is_way c.folded.result.now c.folded.ensures c.marks_stand_for_what_folds.ensures.rows
    c.marks_stand_for_what_folds.ensures.unmet c.in-Some-2.chosen chooses c.in-Some.rows.now (from told)
