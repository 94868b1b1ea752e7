use Rattle.std.proofs.Common.{rules}
use Rattle.std.proofs.Common.{◌≡◌, ◌<◌, length, subst, sym}
use Rattle.std.proofs.lemmas.List.{length-map}
use Rattle.pig_plan.specs.Plans.{node_of, plan_of}
use Rattle.pig_plan.specs.Room.{roomy}
use Rattle.pig_plan.specs.Valid.{IsPlan}
use Rattle.pig_moves.specs.Pushed.{one_room}
use Rattle.pig_push.proofs.uniting.with_one.Goals as goal

pub returns : goal.returns
returns c = λ before moves.
    let valid : IsPlan (plan_of c.in_ok-room.room) = search rules in
    let within : c.args.number < length c.args.plan = search rules in
    let is : plan_of c.in_ok-room.room ≡ roomy c.args.number (plan_of c.args.plan) = search rules in
    one_room (plan_of c.args.plan) (plan_of c.in_ok-room.room) c.args.number moves valid (subst (λ n. c.args.number < n) (sym (length-map c.args.plan node_of)) within) is
