use Rattle.std.proofs.Common.{◌≡◌, []}
use Rattle.pig_runs_tests.proofs.runs.long_entries_stand_in_order.Given as goal

-- the run that is built has no directions
abbrev pub invariant-loop-number : goal.invariant-loop-number
invariant-loop-number g l = l.builder.dirs ≡ []
