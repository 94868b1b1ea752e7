-- The entries so far have the key of the first.
use Rattle.std.proofs.Common.{◌≡◌, ◌<◌, ◌≤◌, ℕ}
use Rattle.pig_runs.specs.Entries.{key_at}
use Rattle.pig_reduce.proofs.groups.group_end.Given as goal

abbrev pub invariant-loop-end : goal.invariant-loop-end
invariant-loop-end l = (k : ℕ) → l.from ≤ k → k < l.end → key_at l.entries k ≡ key_at l.entries l.from
