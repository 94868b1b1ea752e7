use Rattle.std.proofs.Common.{◌≡◌, ◌∷◌, map, take}
use Rattle.pig_value.specs.Trees.{kind_tree, k_long}
use Rattle.pig_plan.proofs.checking.rank.Given as goal

abbrev pub invariant-loop-kind : goal.invariant-loop-kind
invariant-loop-kind l = map kind_tree l.kinds.items ≡ k_long ∷ map kind_tree (take l.kind-index l.kind-items)
