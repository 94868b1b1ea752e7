use Rattle.std.proofs.Common.{◌≡◌, map, drop, ◌+◌, ◌*◌}
use Rattle.pig_value.specs.Trees.{tree, entry_of, kind_tree, fields_of, tuples_of, entries_of, kinds_of}
use Rattle.pig_value.specs.Kinds.{fields_of_kinds, tuples_of_kinds, entries_of_kind}
use Rattle.pig_value.proofs.kinds.+is_of.Given as goal

abbrev pub decreases-value_is_of : goal.decreases-value_is_of
decreases-value_is_of l = 3 * goal.size-value_is_of l

abbrev pub decreases-fields_are_of : goal.decreases-fields_are_of
decreases-fields_are_of l = 3 * goal.size-fields_are_of l + 1

abbrev pub decreases-rows_are_of : goal.decreases-rows_are_of
decreases-rows_are_of l = 3 * goal.size-rows_are_of l + 2

abbrev pub decreases-values_are_of : goal.decreases-values_are_of
decreases-values_are_of l = 3 * goal.size-values_are_of l + 2

abbrev pub invariant-fields_are_of-loop-i : goal.invariant-fields_are_of-loop-i
invariant-fields_are_of-loop-i l =
    fields_of_kinds (fields_of (map tree (drop l.i l.fields))) (kinds_of (map kind_tree (drop l.i l.kinds)))
    ≡ fields_of_kinds (fields_of (map tree l.fields)) (kinds_of (map kind_tree l.kinds))

abbrev pub invariant-rows_are_of-loop-i : goal.invariant-rows_are_of-loop-i
invariant-rows_are_of-loop-i l =
    tuples_of_kinds (tuples_of (map (map tree) (drop l.i l.rows))) (kinds_of (map kind_tree l.kinds))
    ≡ tuples_of_kinds (tuples_of (map (map tree) l.rows)) (kinds_of (map kind_tree l.kinds))

abbrev pub invariant-values_are_of-loop-i : goal.invariant-values_are_of-loop-i
invariant-values_are_of-loop-i l =
    entries_of_kind (entries_of (map entry_of (drop l.i l.pairs))) (kind_tree l.kind)
    ≡ entries_of_kind (entries_of (map entry_of l.pairs)) (kind_tree l.kind)
