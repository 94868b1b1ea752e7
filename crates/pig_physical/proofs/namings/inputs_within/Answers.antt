use Rattle.std.proofs.Common.{rules, ◌≡◌}
use Rattle.pig_plan.specs.Plans.{plan_of}
use Rattle.pig_physical.specs.Heading.{inputs_at}
use Rattle.pig_physical.proofs.Named.{inputs_within}
use Rattle.pig_physical.proofs.namings.inputs_within.Goals as goal

pub returns-clause-within : goal.returns-clause-within
returns-clause-within c =
    let are : c.add_inputs.new.inputs ≡ inputs_at (plan_of c.args.nodes.now) c.args.user = search rules in
    inputs_within c.args.nodes.now c.args.user c.add_inputs.new.inputs c.requires are
