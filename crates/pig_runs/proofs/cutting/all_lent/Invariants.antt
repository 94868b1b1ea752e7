-- The entries so far.
use Rattle.std.proofs.Common.{map, take}
use Rattle.pig_runs.specs.Cutting.{dirs_of_all}
use Rattle.pig_runs.specs.Entries.{entries_of_all}
use Rattle.pig_runs.specs.Packed.{Stand, packed_lent}
use Rattle.pig_runs.proofs.cutting.all_lent.Given as goal

abbrev pub invariant-loop-run : goal.invariant-loop-run
invariant-loop-run l = Stand (dirs_of_all l.run-items) (entries_of_all (take l.run-index l.run-items)) (map packed_lent l.all.items)
