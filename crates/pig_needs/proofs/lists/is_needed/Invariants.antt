use Rattle.std.proofs.Common.{◌≡◌, length}
use Rattle.pig_needs.specs.Needed.{is_needed}
use Rattle.pig_needs.proofs.lists.is_needed.Given as goal

abbrev pub invariant-loop-left : goal.invariant-loop-left
invariant-loop-left l = is_needed l.need l.left ≡ is_needed l.need l.list

abbrev pub decreases-loop-left : goal.decreases-loop-left
decreases-loop-left l = length l.left
