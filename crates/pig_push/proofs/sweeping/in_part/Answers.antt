use Rattle.std.proofs.Common.{rules, ◌≡◌, subst, sym}
use Rattle.pig_plan.specs.Plans.{plan_of}
use Rattle.pig_plan.specs.Valid.{IsPlan}
use Rattle.pig_moves.specs.Pushed.{IsMove, IsParted, one_part}
use Rattle.pig_push.specs.Lone.{AreReaders, AreSound, StepsOn}
use Rattle.pig_push.proofs.LoneReaders.{sound_of}
use Rattle.pig_push.proofs.sweeping.in_part.Goals as goal

pub below-requires : goal.below-requires
below-requires c =
    let are : AreReaders (plan_of c.in_ok-parted.parted) c.in_ok-counts.counts.items = search rules in
    let same : c.as_slice.result.now ≡ c.in_ok-counts.counts.items = search rules in
    subst (AreSound (plan_of c.in_ok-parted.parted)) (sym same) (sound_of (plan_of c.in_ok-parted.parted) c.in_ok-counts.counts.items are)

pub passed-requires-clause-sound : goal.passed-requires-clause-sound
passed-requires-clause-sound c =
    let are : AreReaders (plan_of c.in_ok-parted.parted) c.in_ok-counts.counts.items = search rules in
    sound_of (plan_of c.in_ok-parted.parted) c.in_ok-counts.counts.items are

pub returns : goal.returns
returns c =
    let split : IsParted (plan_of c.args.plan) (plan_of c.in_ok-parted.parted) c.args.at = search rules in
    let valid_s : IsPlan (plan_of c.in_ok-parted.parted) = search rules in
    let valid : IsPlan (plan_of c.in_ok-sweep.sweep.plan) = search rules in
    let move : IsMove (plan_of c.in_ok-parted.parted) (plan_of c.in_ok-sweep.sweep.plan) c.in-Some.low c.args.at = search rules in
    let next : StepsOn (plan_of c.in_ok-parted.parted) (plan_of c.in_ok-sweep.sweep.plan) c.in_ok-sweep.sweep.counts.items = search rules in
    record {
      goes = λ before moves. one_part (plan_of c.args.plan) (plan_of c.in_ok-parted.parted) (plan_of c.in_ok-sweep.sweep.plan) c.in-Some.low c.args.at moves split.room valid_s split.split valid move;
      sound = next.sound;
    }
