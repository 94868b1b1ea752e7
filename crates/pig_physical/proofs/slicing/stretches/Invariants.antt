use Rattle.std.proofs.Common.{◌≡◌, ◌≤◌, length, map}
use Rattle.std.specs.List.{AllByRecursion}
use Rattle.pig_physical.specs.Sliced.{slice_seen, slices_of}
use Rattle.pig_physical.proofs.slicing.stretches.Given as goal

abbrev pub invariant-loop-part : goal.invariant-loop-part
invariant-loop-part l =
    (map (slice_seen l.run) l.found.items ≡ slices_of l.run l.points.points l.part)
    × AllByRecursion (λ place. place.end ≤ length l.run.entries) l.found.items
