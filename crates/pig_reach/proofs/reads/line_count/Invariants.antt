use Rattle.std.proofs.Common.{◌≡◌, ◌≤◌, ◌+◌, ◌-◌, ◌%◌, ◌^◌, length, drop}
use Rattle.pig_value.specs.Lines.{lines}
use Rattle.pig_reach.proofs.reads.line_count.Given as goal

abbrev pub invariant-loop-span : goal.invariant-loop-span
invariant-loop-span l = (l.from ≤ length l.bytes) × ((l.count + length (lines (drop l.from l.bytes))) % 2 ^ 64 ≡ length (lines l.bytes) % 2 ^ 64)

abbrev pub decreases-loop-span : goal.decreases-loop-span
decreases-loop-span l = length l.bytes - l.from
