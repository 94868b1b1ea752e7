use Rattle.std.proofs.Common.{◌<◌, length}
use Rattle.pig_needs.proofs.Adding.{StillUsed}
use Rattle.pig_needs.proofs.walking.add_uses.Given as goal

abbrev pub invariant-loop-left : goal.invariant-loop-left
invariant-loop-left l = (l.number < length l.found.items) × StillUsed l.number l.uses l.left l.initial.found.items l.found.items

abbrev pub decreases-loop-left : goal.decreases-loop-left
decreases-loop-left l = length l.left
