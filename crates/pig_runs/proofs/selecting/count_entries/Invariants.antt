-- The number of the entries so far.
use Rattle.std.proofs.Common.{◌≡◌, length, take}
use Rattle.pig_runs.specs.Entries.{entries_of_all}
use Rattle.pig_runs.proofs.selecting.count_entries.Given as goal

abbrev pub invariant-loop-run : goal.invariant-loop-run
invariant-loop-run l = l.total ≡ length (entries_of_all (take l.run-index l.run-items))
