-- The entries of the runs so far.
use Rattle.std.proofs.Common.{map, take}
use Rattle.pig_runs.specs.Entries.{entries_of_all}
use Rattle.pig_runs.specs.Packed.{Joins}
use Rattle.pig_runs.proofs.sorting.merge.Given as goal

abbrev pub invariant-loop-run : goal.invariant-loop-run
invariant-loop-run l = Joins l.fn.dirs (entries_of_all (take l.run-index l.run-items)) l.bytes.items (map (λ list. list.items) l.lists.items)
