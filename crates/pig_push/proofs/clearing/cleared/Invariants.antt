use Rattle.pig_plan.specs.Plans.{plan_of}
use Rattle.pig_moves.specs.Pushed.{IsClearedTo}
use Rattle.pig_push.proofs.clearing.cleared.Given as goal

abbrev pub invariant-loop-own : goal.invariant-loop-own
invariant-loop-own l = IsClearedTo (plan_of l.nodes) (plan_of l.made) l.own
