use Rattle.std.proofs.Common.{◌≡◌, length, map}
use Rattle.pig_plan.specs.Conjuncts.{all_and}
use Rattle.pig_typed.specs.Typed.{link_of, links_of}
use Rattle.pig_moves.proofs.chaining.all_and.Given as goal

abbrev pub invariant-loop-left : goal.invariant-loop-left
invariant-loop-left l = all_and (links_of (map link_of l.left)) ≡ all_and (links_of (map link_of l.links))

abbrev pub decreases-loop-left : goal.decreases-loop-left
decreases-loop-left l = length l.left
