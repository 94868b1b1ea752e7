use Rattle.std.proofs.Common.{◌≡◌, ◌++◌, map, length}
use Rattle.pig_physical.specs.declared.parts.Part.TheVariants as parts
use Rattle.pig_cutter.specs.Feeds.{made_on}
use Rattle.pig_cutter.proofs.listing.add_splits.Given as goal

abbrev pub invariant-loop-left : goal.invariant-loop-left
invariant-loop-left l =
    l.tasks ++ map (made_on l.node l.wave l.way) (map parts.Split l.left)
    ≡ l.initial.tasks ++ map (made_on l.node l.wave l.way) (map parts.Split l.initial.left)

abbrev pub decreases-loop-left : goal.decreases-loop-left
decreases-loop-left l = length l.left
