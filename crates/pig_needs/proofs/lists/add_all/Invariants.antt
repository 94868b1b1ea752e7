use Rattle.std.proofs.Common.{◌≡◌, length}
use Rattle.pig_needs.specs.Marked.{IsIndex}
use Rattle.pig_needs.specs.Needed.{with_all}
use Rattle.pig_needs.proofs.lists.add_all.Given as goal

abbrev pub invariant-loop-left : goal.invariant-loop-left
invariant-loop-left l = (with_all l.list l.left ≡ with_all l.initial.list l.more) × IsIndex l.list l.index.items

abbrev pub decreases-loop-left : goal.decreases-loop-left
decreases-loop-left l = length l.left
