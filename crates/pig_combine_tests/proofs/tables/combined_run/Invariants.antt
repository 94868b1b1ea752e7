use Rattle.std.proofs.Common.{◌≡◌, map, take}
use Rattle.pig_algebra.specs.Cuts.{cut_typed}
use Rattle.pig_combine.specs.Holdings.{HasAdded, cuts_held}
use Rattle.pig_combine_tests.specs.Added.{as_added}
use Rattle.pig_combine_tests.proofs.tables.combined_run.Given as goal

abbrev pub invariant-loop-entry : goal.invariant-loop-entry
invariant-loop-entry l =
    HasAdded (map as_added (take l.entry-index l.entries)) l.table
    × (cuts_held l.table ≡ map cut_typed l.fn.cuts)
