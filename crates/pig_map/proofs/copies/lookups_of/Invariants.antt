use Rattle.std.proofs.Common.{◌≡◌, ◌+◌, ◌++◌, length, map}
use Rattle.std.specs.List.{AllByRecursion}
use Rattle.pig_plan.specs.Plans.{keyed_of}
use Rattle.pig_replicated.specs.Joining.{sides_of}
use Rattle.pig_probe.specs.Probing.{HoldsRows}
use Rattle.pig_map.specs.Copies.{numbered}
use Rattle.pig_map.specs.Copying.{copied_for}
use Rattle.pig_map.proofs.copies.lookups_of.Given as goal

abbrev pub invariant-loop-left : goal.invariant-loop-left
invariant-loop-left l =
    (l.lookups ++ sides_of (numbered (l.place + 1) (map keyed_of l.left)) (copied_for l.wave)
    ≡ sides_of (numbered 1 (map keyed_of l.inputs)) (copied_for l.wave))
    × AllByRecursion HoldsRows l.lookups

abbrev pub decreases-loop-left : goal.decreases-loop-left
decreases-loop-left l = length l.left
