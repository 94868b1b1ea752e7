use Rattle.std.proofs.Common.{◌≡◌, map, drop, ◌+◌, ◌*◌}
use Rattle.pig_value.specs.Trees.{tree, fields_of}
use Rattle.pig_plan.specs.ByKey.{one_holds_null}
use Rattle.pig_operators.proofs.nulls.+has_null.Given as goal

abbrev pub decreases-has_null : goal.decreases-has_null
decreases-has_null l = 2 * goal.size-has_null l

abbrev pub decreases-any_null : goal.decreases-any_null
decreases-any_null l = 2 * goal.size-any_null l + 1

abbrev pub invariant-any_null-loop-value : goal.invariant-any_null-loop-value
invariant-any_null-loop-value l = one_holds_null (fields_of (map tree (drop l.value-index l.values))) ≡ one_holds_null (fields_of (map tree l.values))
