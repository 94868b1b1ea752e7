use Rattle.std.proofs.Common.{◌≡◌, ◌++◌, map}
use Rattle.pig_plan.specs.Plans.{op_of, plan_of}
use Rattle.pig_check.specs.States.{AllFit, node_of_statement}
use Rattle.pig_check.proofs.state.add_all.Given as goal

abbrev pub invariant-loop-op : goal.invariant-loop-op
invariant-loop-op l =
    (plan_of l.plan ≡ plan_of l.fn.plan ++ map (node_of_statement l.statement) (map op_of l.yielded))
    × AllFit l.statement (plan_of l.plan) (map op_of l.op-iterator.rest.items)
