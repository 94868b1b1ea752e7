use Rattle.std.proofs.Common.{◌≡◌, map, drop, ◌+◌, ◌*◌}
use Rattle.pig_value.specs.Trees.{fields_of, tree}
use Rattle.pig_plan.specs.ByKey.{one_holds_null}
use Rattle.pig_replicated.proofs.nulls.+has_null.Given as goal

abbrev pub decreases-has_null : goal.decreases-has_null
decreases-has_null l = 2 * goal.size-has_null l

abbrev pub decreases-one_has_null : goal.decreases-one_has_null
decreases-one_has_null l = 2 * goal.size-one_has_null l + 1

abbrev pub invariant-one_has_null-loop-value : goal.invariant-one_has_null-loop-value
invariant-one_has_null-loop-value l = one_holds_null (fields_of (map tree (drop l.value-index l.values))) ≡ one_holds_null (fields_of (map tree l.values))
