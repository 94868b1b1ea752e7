use Rattle.std.proofs.Common.{◌≡◌, ◌+◌, ◌-◌, ℕ, [], length, get_or}
use Rattle.pig_needs.proofs.marks.make_parts.Given as goal

abbrev pub invariant-room : goal.invariant-room
invariant-room l = (k : ℕ) → get_or l.index.items k [] ≡ get_or l.initial.index.items k []

abbrev pub decreases-room : goal.decreases-room
decreases-room l = (l.number + 1) - length l.index.items
