-- What is moved so far.
use Rattle.std.proofs.Common.{◌≡◌, map, take}
use Rattle.pig_runs.specs.Packed.{moved}
use Rattle.pig_runs.proofs.packing.all_moved.Given as goal

abbrev pub invariant-loop-slot : goal.invariant-loop-slot
invariant-loop-slot l = l.all.items ≡ map (moved l.base) (take l.slot-index l.slots)
