use Rattle.std.proofs.Common.{◌≡◌, ◌++◌, length}
use Rattle.pig_collect.specs.Collecting.{joined}
use Rattle.pig_run.proofs.texts.add_parts.Given as goal

abbrev pub invariant-loop-left : goal.invariant-loop-left
invariant-loop-left l = l.out.items ++ joined l.left ≡ l.initial.out.items ++ joined l.parts

abbrev pub decreases-loop-left : goal.decreases-loop-left
decreases-loop-left l = length l.left
