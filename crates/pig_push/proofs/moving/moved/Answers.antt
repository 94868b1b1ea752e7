use Rattle.std.proofs.Common.{rules, ◌≡◌}
use Rattle.std.specs.Prelude.{slice_set}
use Rattle.pig_plan.specs.Plans.{node_of, plan_of}
use Rattle.pig_moves.specs.Pushed.{AreNew}
use Rattle.pig_moves.proofs.Steps.{is_move}
use Rattle.pig_push.proofs.moving.moved.Goals as goal

pub returns : goal.returns
returns c =
    let new : AreNew (plan_of c.args.plan) c.args.low c.args.high (node_of c.in_ok-lower.lower) (node_of c.in_ok-lower.upper) = search rules in
    let is : c.exchange.new.self ≡ slice_set (slice_set c.args.plan c.args.low c.in_ok-lower.lower) c.args.high c.in_ok-lower.upper = search rules in
    is_move c.args.plan c.exchange.new.self c.args.low c.args.high c.in_ok-lower.lower c.in_ok-lower.upper c.requires new is
