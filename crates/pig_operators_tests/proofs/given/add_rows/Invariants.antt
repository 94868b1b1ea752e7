use Rattle.std.proofs.Common.{◌≡◌, ◌≤◌, ◌-◌, [], length}
use Rattle.pig_operators.specs.Given.{AreKeyedByRow}
use Rattle.pig_operators_tests.proofs.given.add_rows.Given as goal

abbrev pub invariant-loop-span : goal.invariant-loop-span
invariant-loop-span l = (l.from ≤ length l.text) × (l.builder.dirs ≡ []) × AreKeyedByRow l.builder.entries

abbrev pub decreases-loop-span : goal.decreases-loop-span
decreases-loop-span l = length l.text - l.from
