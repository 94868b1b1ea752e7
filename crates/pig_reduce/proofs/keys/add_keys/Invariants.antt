-- The rows so far, and those of the keys to come.
use Rattle.std.proofs.Common.{◌≡◌, ◌≤◌, ◌-◌, ◌++◌, [], length}
use Rattle.pig_reduce.specs.Made.{keys_to_come}
use Rattle.pig_reduce.proofs.keys.add_keys.Given as goal

abbrev pub invariant-groups : goal.invariant-groups
invariant-groups l =
    (l.from ≤ length l.entries.entries) × (l.built.begun ≡ []) × (l.built.rows ++ keys_to_come l.entries l.from ≡ l.fn.built.rows ++ keys_to_come l.entries 0)

abbrev pub decreases-groups : goal.decreases-groups
decreases-groups l = length l.entries.entries - l.from
