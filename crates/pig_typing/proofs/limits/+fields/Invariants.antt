use Rattle.std.proofs.Common.{◌≡◌, map, drop, ◌+◌, ◌*◌}
use Rattle.pig_value.specs.Trees.{kind_tree, kinds_of}
use Rattle.pig_typing.specs.Limits.{any_too_many_fields}
use Rattle.pig_typing.proofs.limits.+fields.Given as goal

abbrev pub decreases-too_many_fields : goal.decreases-too_many_fields
decreases-too_many_fields l = 2 * goal.size-too_many_fields l

abbrev pub decreases-any_too_many_fields : goal.decreases-any_too_many_fields
decreases-any_too_many_fields l = 2 * goal.size-any_too_many_fields l + 1

abbrev pub invariant-any_too_many_fields-loop-kind : goal.invariant-any_too_many_fields-loop-kind
invariant-any_too_many_fields-loop-kind l = any_too_many_fields (kinds_of (map kind_tree (drop l.kind-index l.kinds))) ≡ any_too_many_fields (kinds_of (map kind_tree l.kinds))
