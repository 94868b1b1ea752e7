use Rattle.std.proofs.Common.{◌≡◌, []}
use Rattle.pig_runs_tests.proofs.runs.piece.Given as goal

-- the run that is built has no directions
abbrev pub invariant-loop-entry : goal.invariant-loop-entry
invariant-loop-entry g l = l.builder.dirs ≡ []
