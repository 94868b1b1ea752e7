-- What is lent so far.
use Rattle.std.proofs.Common.{◌≡◌, ◌++◌, map, take}
use Rattle.pig_runs.specs.Packed.{found_at, packed_lent}
use Rattle.pig_runs.proofs.packing.lend_slots.Given as goal

abbrev pub invariant-loop-slot : goal.invariant-loop-slot
invariant-loop-slot l = map packed_lent l.all.items ≡ map packed_lent l.fn.all.items ++ map (found_at l.bytes) (take l.slot-index l.slots)
