use Rattle.std.proofs.Common.{◌≡◌, ◌++◌, length, map}
use Rattle.std.specs.List.{flat_map}
use Rattle.pig_plan.specs.Conjuncts.{conjuncts}
use Rattle.pig_typed.specs.Typed.{typed}
use Rattle.pig_push.proofs.merging.add_all.Given as goal

abbrev pub invariant-loop-left : goal.invariant-loop-left
invariant-loop-left l = map typed l.into ++ flat_map conjuncts (map typed l.left) ≡ map typed l.fn.into ++ flat_map conjuncts (map typed l.conditions)

abbrev pub decreases-loop-left : goal.decreases-loop-left
decreases-loop-left l = length l.left
