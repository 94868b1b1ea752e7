use Rattle.std.proofs.Common.{◌∙◌}
use Rattle.pig_plan.specs.Plans.{plan_of}
use Rattle.pig_stream.specs.Stepping.{marked_folding}
use Rattle.pig_stream.proofs.Joining.{fails_on_none}
use Rattle.pig_stream.proofs.steps.Steps.new.Goals as goal

pub returns-clause-none : goal.returns-clause-none
returns-clause-none c = c.in_ok-failed.ensures ∙ fails_on_none (marked_folding c.args.folded.now) (plan_of c.args.nodes.now) c.args.path.now
