use Rattle.std.proofs.Common.{◌≡◌, map}
use Rattle.std.specs.List.{range_with_len}
use Rattle.pig_plan.specs.Plans.{plan_of}
use Rattle.pig_prune.specs.Pruned.{marks_of}
use Rattle.pig_prune.proofs.pruning.marks_of.Given as goal

abbrev pub invariant-loop-place : goal.invariant-loop-place
invariant-loop-place l = l.marks.items ≡ map (marks_of (plan_of l.nodes)) (range_with_len 0 l.place)
