use Rattle.std.proofs.Common.{◌≡◌, map}
use Rattle.pig_plan.specs.Plans.{plan_of}
use Rattle.pig_plan.specs.Renumbered.{renamed}
use Rattle.pig_plan.specs.Room.{past}
use Rattle.pig_plan.proofs.rooming.all_renamed.Given as goal

abbrev pub invariant-loop-node : goal.invariant-loop-node
invariant-loop-node l = plan_of l.made.items ≡ map (renamed (past l.at)) (plan_of l.yielded)
