use Rattle.std.proofs.Common.{◌≡◌, [], length}
use Rattle.std.specs.List.{AllByRecursion}
use Rattle.pig_runs.specs.Entries.{no_entries_in}
use Rattle.pig_shuffle.proofs.making.new_runs.Given as goal

abbrev pub invariant-runs : goal.invariant-runs
invariant-runs l = (length l.runs.items ≡ l.counter) × AllByRecursion (λ run. run ≡ no_entries_in []) l.runs.items
