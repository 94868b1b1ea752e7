use Rattle.std.proofs.Common.{◌≡◌, ◌≤◌, length}
use Rattle.pig_params.specs.ParamWords.{parted}
use Rattle.pig_params.specs.TakenViews.{taken_and}
use Rattle.pig_params.proofs.words.take_params.Given as goal

abbrev pub invariant-loop-left : goal.invariant-loop-left
invariant-loop-left l = (length l.taken.params ≤ 64) × (taken_and l.taken l.left ≡ parted l.words)

abbrev pub decreases-loop-left : goal.decreases-loop-left
decreases-loop-left l = length l.left
