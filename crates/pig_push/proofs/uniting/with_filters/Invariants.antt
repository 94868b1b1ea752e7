use Rattle.std.proofs.Common.{◌≡◌, map, length}
use Rattle.pig_plan.specs.Plans.{plan_of}
use Rattle.pig_typed.specs.Typed.{typed}
use Rattle.pig_moves.specs.Pushed.{filter_on, put_from}
use Rattle.pig_push.proofs.uniting.with_filters.Given as goal

abbrev pub invariant-loop-left : goal.invariant-loop-left
invariant-loop-left l = put_from l.own (map (filter_on (typed l.cond) l.statement) l.left) (plan_of l.made) ≡ put_from l.first (map (filter_on (typed l.cond) l.statement) l.each) (plan_of l.fn.plan)

abbrev pub decreases-loop-left : goal.decreases-loop-left
decreases-loop-left l = length l.left
