use Rattle.std.proofs.Common.{◌≡◌, length}
use Rattle.std.specs.Prelude.{None}
use Rattle.pig_plan.specs.Plans.{plan_of}
use Rattle.pig_plan.specs.Results.{results_behind}
use Rattle.pig_prune.specs.Pruned.{cut_step, cuts_of}
use Rattle.pig_prune.proofs.pruning.cuts_of.Given as goal

abbrev pub invariant-loop-left : goal.invariant-loop-left
invariant-loop-left l = results_behind (cut_step (plan_of l.plan)) None l.cuts.items (plan_of l.left) ≡ cuts_of (plan_of l.plan)

abbrev pub decreases-loop-left : goal.decreases-loop-left
decreases-loop-left l = length l.left
