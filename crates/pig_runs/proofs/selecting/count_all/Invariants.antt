-- The count over the runs so far.
use Rattle.std.proofs.Common.{◌≡◌, length, take}
use Rattle.std.specs.Prelude.{Some, slice_get}
use Rattle.std.specs.List.{filter}
use Rattle.pig_value.specs.Gathering.{Entry}
use Rattle.pig_runs.specs.Cutting.{is_up_to}
use Rattle.pig_runs.specs.Entries.{entries_of_all, run_cmp}
use Rattle.pig_runs.proofs.selecting.count_all.Given as goal

abbrev pub invariant-loop-run : goal.invariant-loop-run
invariant-loop-run l =
    (f : Entry) → slice_get l.other.entries l.at ≡ Some f → l.total ≡ length (filter (λ e. is_up_to l.equal (run_cmp l.other.dirs e f)) (entries_of_all (take l.run-index l.run-items)))
