use Rattle.std.proofs.Common.{◌≡◌, length, map}
use Rattle.std.specs.List.{AllByRecursion}
use Rattle.pig_physical.specs.Handed.{out_of}
use Rattle.pig_physical.specs.Outs.{runs_in}
use Rattle.pig_tasks_tests.proofs.standing.have_runs.Given as goal

abbrev pub invariant-loop-left : goal.invariant-loop-left
invariant-loop-left l = AllByRecursion (λ x. length (runs_in x.form) ≡ l.count) (map out_of l.left)
    → AllByRecursion (λ x. length (runs_in x.form) ≡ l.count) (map out_of l.fn.outs)

abbrev pub decreases-loop-left : goal.decreases-loop-left
decreases-loop-left l = length l.left
