use Rattle.std.proofs.Common.{◌≡◌, ◌++◌, length}
use Rattle.pig_plan.specs.Meaning.{width_at}
use Rattle.pig_plan.specs.Plans.{plan_of}
use Rattle.pig_cuts.specs.Cuts.{cut_at}
use Rattle.pig_cuts.specs.Plans.{sides_kept}
use Rattle.pig_prune.proofs.cutting.join_cut.Given as goal

abbrev pub invariant-loop-left : goal.invariant-loop-left
invariant-loop-left l = l.kept ++ sides_kept (cut_at l.cuts) (width_at (plan_of l.plan)) l.first l.left ≡ sides_kept (cut_at l.cuts) (width_at (plan_of l.plan)) 0 l.inputs

abbrev pub decreases-loop-left : goal.decreases-loop-left
decreases-loop-left l = length l.left
