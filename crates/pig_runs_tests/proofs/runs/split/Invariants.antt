use Rattle.std.proofs.Common.{◌≡◌, []}
use Rattle.std.specs.List.{AllByRecursion}
use Rattle.pig_runs_tests.proofs.runs.split.Given as goal

-- the runs so far have no directions
abbrev pub invariant-loop-at : goal.invariant-loop-at
invariant-loop-at g l = AllByRecursion (λ run. run.dirs ≡ []) l.runs
