use Rattle.std.proofs.Common.{◌≡◌, drop}
use Rattle.pig_value.specs.Trees.{row_tree}
use Rattle.pig_nested.specs.SortedBy.{by_keys_cmp}
use Rattle.pig_nested.proofs.sorting.compare_by_keys.Given as goal

abbrev pub invariant-loop-key : goal.invariant-loop-key
invariant-loop-key l = by_keys_cmp (drop l.key-index l.key-items) (row_tree l.a) (row_tree l.b) ≡ by_keys_cmp l.keys (row_tree l.a) (row_tree l.b)
