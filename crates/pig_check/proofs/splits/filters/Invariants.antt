use Rattle.std.proofs.Common.{◌≡◌, map}
use Rattle.pig_plan.specs.Plans.{op_of, p_filter}
use Rattle.pig_typed.specs.Typed.{typed}
use Rattle.pig_check.proofs.splits.filters.Given as goal

abbrev pub invariant-loop-cond : goal.invariant-loop-cond
invariant-loop-cond l = map op_of l.ops ≡ map (p_filter l.input) (map typed l.yielded)
