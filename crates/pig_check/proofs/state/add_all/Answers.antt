use Rattle.pig_plan.specs.Plans.{plan_of}
use Rattle.pig_check.proofs.Joining.{first_fits, one_added, one_yielded}
use Rattle.pig_check.proofs.state.add_all.Goals as goal

pub add-requires : goal.add-requires
add-requires c = first_fits c.args.statement c.loop-op.plan c.in-Some.op c.loop-op.op-iterator.rest.items c.next.new.self.rest.items c.in-Some.ensures.steps.0 c.loop-op.invariant.1

pub loop-op-preserved : goal.loop-op-preserved
loop-op-preserved c =
    let w = one_added c.args.statement c.loop-op.plan c.add.new.self c.in-Some.op c.loop-op.op-iterator.rest.items c.next.new.self.rest.items c.in-Some.ensures.steps.0 c.in_ok-add.ensures.ok c.loop-op.invariant.1 in
    (one_yielded c.args.statement (plan_of c.args.plan.now) (plan_of c.loop-op.plan) (plan_of c.add.new.self) c.loop-op.yielded c.in-Some.op w.1 c.loop-op.invariant.0, w.2)
