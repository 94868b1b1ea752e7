use Rattle.std.proofs.Common.{◌≡◌, [], ap, subst, sym}
use Rattle.std.specs.Option.{option_map}
use Rattle.std.specs.Prelude.{IfOk}
use Rattle.pig_typed.specs.Typed.{block_typed}
use Rattle.pig_plan.specs.Plans.{op_of}
use Rattle.pig_physical.specs.Seen.{entering_of, map_task_of, no_way, staged}
use Rattle.pig_physical.specs.Stages.{ways_in}
use Rattle.pig_shuffle.specs.Held.{HasShuffled}
use Rattle.pig_shuffle.specs.Shuffling.{shuffling, shuffling_at}
use Rattle.pig_map.proofs.Runs.{way_at}
use Rattle.pig_map.proofs.attempt.shuffle_for.Goals as goal

pub returns : goal.returns
returns c =
    let s = staged c.args.work.now.stages.now in
    let t = map_task_of s c.args.work.now.task.now in
    let o = op_of c.args.op.now in
    let input : t.way.input ≡ c.way_of.result.now.input =
    ap (λ way. way.input) (way_at (ways_in s.plan c.args.work.now.task.now.wave) c.args.work.now.task.now.way no_way (entering_of c.way_of.result.now) c.way_of.ensures) in
    let same : shuffling c.reducers.result (option_map (λ block. block_typed block.now) c.fold_of-fold.result) o c.way_of.result.now.input
    ≡ shuffling_at s.plan t.node o t.way.input s.sizing.reducers = λ x. shuffling (c.reducers.ensures x) (c.fold_of-fold.ensures x) o (sym input x) in
    subst (λ w. IfOk c.new.result (HasShuffled w [])) same c.new.ensures
