use Rattle.std.proofs.Common.{◌≡◌, map}
use Rattle.std.specs.List.{AllByRecursion}
use Rattle.pig_runs.specs.Packed.{found_at, IsPlaced}
use Rattle.pig_runs.proofs.laying.lay_out.Given as goal

abbrev pub invariant-loop-end : goal.invariant-loop-end
invariant-loop-end l = (map (found_at l.bytes.items) l.slots.items ≡ map (found_at l.fn.bytes.items) l.fn.slots.items) × AllByRecursion (IsPlaced l.bytes.items) l.slots.items
