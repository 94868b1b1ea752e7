-- The points so far.
use Rattle.std.proofs.Common.{◌≡◌}
use Rattle.pig_value.specs.Sorts.{sort}
use Rattle.pig_runs.specs.Cutting.{dirs_of_all, picked}
use Rattle.pig_runs.specs.Entries.{and_entries, entries_of_all, no_entries_in, run_cmp}
use Rattle.pig_runs.proofs.selecting.chosen_points.Given as goal

abbrev pub invariant-loop-k : goal.invariant-loop-k
invariant-loop-k l = l.built ≡ and_entries (picked l.n (sort (run_cmp (dirs_of_all l.runs)) (entries_of_all l.runs)) l.k) (no_entries_in (dirs_of_all l.runs))
