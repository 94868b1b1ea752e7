use Rattle.pig_plan.specs.Plans.{plan_of}
use Rattle.pig_moves.specs.Pushed.{GoesOn}
use Rattle.pig_push.proofs.uniting.with_room_for.Given as goal

abbrev pub invariant-rooms : goal.invariant-rooms
invariant-rooms l = GoesOn (plan_of l.fn.plan) (plan_of l.made)
