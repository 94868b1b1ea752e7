use Rattle.std.proofs.Common.{◌≡◌, ◌++◌, length}
use Rattle.pig_cutter.specs.Feeds.{feeds_from}
use Rattle.pig_cutter.proofs.feeding.feeds_from.Given as goal

abbrev pub invariant-loop-left : goal.invariant-loop-left
invariant-loop-left l = l.found ++ feeds_from l.node l.input l.left ≡ feeds_from l.node l.first l.inputs

abbrev pub decreases-loop-left : goal.decreases-loop-left
decreases-loop-left l = length l.left
