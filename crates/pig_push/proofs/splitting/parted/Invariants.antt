use Rattle.std.proofs.Common.{◌≡◌, map, not}
use Rattle.std.specs.List.{filter}
use Rattle.pig_plan.specs.Meaning.{width_at}
use Rattle.pig_plan.specs.Plans.{op_of, plan_of}
use Rattle.pig_typed.specs.Typed.{typed}
use Rattle.pig_moves.specs.Pushed.{passes_at}
use Rattle.pig_push.proofs.splitting.parted.Given as goal

abbrev pub invariant-loop-cond : goal.invariant-loop-cond
invariant-loop-cond l = (map typed l.low ≡ filter (passes_at (width_at (plan_of l.plan)) (op_of l.op) l.place) (map typed l.yielded))
    × (map typed l.high ≡ filter (λ c. not (passes_at (width_at (plan_of l.plan)) (op_of l.op) l.place c)) (map typed l.yielded))
