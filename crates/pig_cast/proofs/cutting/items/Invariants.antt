-- The body is cut up to the place, and the rest goes on to its items.
use Rattle.std.proofs.Common.{◌≤◌, map}
use Rattle.pig_cast.proofs.OnePass.{IsCutUpTo}
use Rattle.pig_cast.proofs.cutting.items.Given as goal

abbrev pub invariant-loop-i : goal.invariant-loop-i
invariant-loop-i l = (l.from ≤ l.i) × IsCutUpTo l.body l.from l.i l.unclosed (map (λ item. item.now) l.found.items)
