use Rattle.pig_plan.specs.Plans.{plan_of}
use Rattle.pig_moves.specs.Pushed.{AreMoves}
use Rattle.pig_push.proofs.pushing.move_all.Given as goal

abbrev pub invariant-sweeps : goal.invariant-sweeps
invariant-sweeps l = AreMoves (plan_of l.fn.plan) (plan_of l.made)
