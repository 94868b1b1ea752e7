use Rattle.std.proofs.Common.{◌≡◌, ℕ, get_or, length}
use Rattle.pig_push.specs.Lone.{noted_in}
use Rattle.pig_push.specs.declared.readers.ReadCount.TheVariants as read
use Rattle.pig_push.proofs.readers.note_all.Given as goal

abbrev pub invariant-loop-left : goal.invariant-loop-left
invariant-loop-left l = (k : ℕ) → noted_in k l.user l.left (get_or l.found.items k read.Never) ≡ noted_in k l.user l.inputs (get_or l.initial.found.items k read.Never)

abbrev pub decreases-loop-left : goal.decreases-loop-left
decreases-loop-left l = length l.left
