-- The entries so far.
use Rattle.std.proofs.Common.{◌≡◌, map, take}
use Rattle.pig_runs.specs.Entries.{keyed}
use Rattle.pig_runs.proofs.sorting.sort_run.Given as goal

abbrev pub invariant-loop-entry : goal.invariant-loop-entry
invariant-loop-entry l = l.builder ≡ record { dirs = l.fn.dirs; entries = map keyed (take l.entry-index l.entry-items) }
