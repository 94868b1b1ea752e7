use Rattle.std.proofs.Common.{◌≡◌, ◌+◌, List, [], length}
use Rattle.pig_params.specs.Known.{AreValues}
use Rattle.pig_params.specs.Substitution.{Named}
use Rattle.pig_params.proofs.Lines.{GoingOn}
use Rattle.pig_params.proofs.substitution.put_lines.Given as goal

abbrev pub invariant-loop-line : goal.invariant-loop-line
invariant-loop-line l = (l.start + length l.left ≡ length l.script)
    × (l.made.most ≡ l.initial.made.most)
    × ((given : List Named) → AreValues given [] l.initial.known → GoingOn given l.script l.start l.left l.known l.initial.made l.made)

abbrev pub decreases-loop-line : goal.decreases-loop-line
decreases-loop-line l = length l.left
