use Rattle.std.proofs.Common.{◌≡◌, ◌≤◌, ◌-◌, [], ◌∷◌, length}
use Rattle.pig_value.specs.declared.operators.Dir.TheVariants.{Desc}
use Rattle.pig_operators_tests.proofs.given.by_second.Given as goal

abbrev pub invariant-loop-span : goal.invariant-loop-span
invariant-loop-span l = (l.from ≤ length l.text) × (l.builder.dirs ≡ Desc ∷ [])

abbrev pub decreases-loop-span : goal.decreases-loop-span
decreases-loop-span l = length l.text - l.from
