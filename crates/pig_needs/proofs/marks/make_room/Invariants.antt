use Rattle.std.proofs.Common.{◌≡◌, ◌+◌, ◌-◌, ℕ, false, length, get_or}
use Rattle.pig_needs.proofs.marks.make_room.Given as goal

abbrev pub invariant-room : goal.invariant-room
invariant-room l = (k : ℕ) → get_or l.marks k false ≡ get_or l.initial.marks k false

abbrev pub decreases-room : goal.decreases-room
decreases-room l = (l.place + 1) - length l.marks
