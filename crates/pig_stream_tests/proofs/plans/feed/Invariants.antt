use Rattle.std.proofs.Common.{length}
use Rattle.pig_value.specs.Valid.{IsValue}
use Rattle.pig_plan.specs.Laws.{PlanLiteralsAre}
use Rattle.pig_stream.specs.Stepping.{plan_on}
use Rattle.pig_stream_tests.proofs.plans.feed.Given as goal

abbrev pub invariant-parts : goal.invariant-parts
invariant-parts g l = PlanLiteralsAre IsValue (plan_on l.steps)

abbrev pub decreases-parts : goal.decreases-parts
decreases-parts g l = length l.left
