use Rattle.std.proofs.Common.{sym}
use Rattle.pig_plan.proofs.Twins.{none_later}
use Rattle.pig_plan.specs.Plans.{node_of, plan_of}
use Rattle.pig_plan.proofs.plan.has_twin.Goals as goal

pub returns-then-node-latest : goal.returns-then-node-latest
returns-then-node-latest c = sym (none_later c.args.latest (node_of c.args.node.now) (plan_of c.args.nodes.now) c.if-node-latest.true c.requires)
