-- The entries so far.
use Rattle.std.proofs.Common.{◌≡◌, take, drop}
use Rattle.pig_runs.specs.Entries.{and_entries}
use Rattle.pig_runs.proofs.builder.RunBuilder.copy_between.Given as goal

abbrev pub invariant-loop-at : goal.invariant-loop-at
invariant-loop-at l = l.self ≡ and_entries (drop l.from (take l.at l.other.entries)) l.fn.self
