use Rattle.std.proofs.Common.{◌≡◌, ◌++◌, map, length}
use Rattle.pig_cutter.specs.Feeds.{own_feed}
use Rattle.pig_cutter.proofs.feeding.own_feeds.Given as goal

abbrev pub invariant-loop-left : goal.invariant-loop-left
invariant-loop-left l = l.found ++ map own_feed l.left ≡ map own_feed l.stores

abbrev pub decreases-loop-left : goal.decreases-loop-left
decreases-loop-left l = length l.left
