use Rattle.std.proofs.Common.{◌≡◌, ◌≤◌, ◌-◌, [], length}
use Rattle.pig_reduce.specs.Made.{AreOfFirst}
use Rattle.pig_reduce_tests.proofs.given.add_lines.Given as goal

abbrev pub invariant-loop-span : goal.invariant-loop-span
invariant-loop-span l = (l.from ≤ length l.text) × (l.builder.dirs ≡ []) × (l.input ≡ 0 → AreOfFirst l.builder.entries)

abbrev pub decreases-loop-span : goal.decreases-loop-span
decreases-loop-span l = length l.text - l.from
