-- The rows so far, and those of the groups to come.
use Rattle.std.proofs.Common.{◌≡◌, ◌≤◌, ◌-◌, ◌++◌, [], length}
use Rattle.pig_plan.specs.ByKey.{gathered}
use Rattle.pig_operators.specs.Given.{made, to_come}
use Rattle.pig_gather.proofs.by_key.add_gathered.Given as goal

abbrev pub invariant-groups : goal.invariant-groups
invariant-groups l =
    (l.from ≤ length l.entries.entries) × (l.built.begun ≡ []) × (l.built.rows ++ to_come l.how l.entries l.from ≡ l.fn.built.rows ++ gathered (made l.how) l.entries.entries)

abbrev pub decreases-groups : goal.decreases-groups
decreases-groups l = length l.entries.entries - l.from
