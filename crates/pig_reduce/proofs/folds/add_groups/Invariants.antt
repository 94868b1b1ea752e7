-- The rows so far, and those of the groups to come.
use Rattle.std.proofs.Common.{◌≡◌, ◌≤◌, ◌-◌, ◌++◌, [], length, map}
use Rattle.pig_algebra.specs.Cuts.{cut_typed}
use Rattle.pig_reduce.specs.Made.{folds_to_come}
use Rattle.pig_reduce.proofs.folds.add_groups.Given as goal

abbrev pub invariant-groups : goal.invariant-groups
invariant-groups l =
    (l.from ≤ length l.entries.entries) × (l.built.begun ≡ [])
    × (l.built.rows ++ folds_to_come (map cut_typed l.cuts) l.entries l.from ≡ l.fn.built.rows ++ folds_to_come (map cut_typed l.cuts) l.entries 0)

abbrev pub decreases-groups : goal.decreases-groups
decreases-groups l = length l.entries.entries - l.from
