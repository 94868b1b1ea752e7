use Rattle.std.proofs.Common.{◌≡◌, take, ◌+◌, ◌*◌}
use Rattle.pig_value.proofs.copying.+copy.Given as goal

abbrev pub decreases-copy : goal.decreases-copy
decreases-copy l = 3 * goal.size-copy l

abbrev pub decreases-copy_values : goal.decreases-copy_values
decreases-copy_values l = 3 * goal.size-copy_values l + 1

abbrev pub decreases-copy_rows : goal.decreases-copy_rows
decreases-copy_rows l = 3 * goal.size-copy_rows l + 2

abbrev pub decreases-copy_pairs : goal.decreases-copy_pairs
decreases-copy_pairs l = 3 * goal.size-copy_pairs l + 2

abbrev pub invariant-copy_values-loop-value : goal.invariant-copy_values-loop-value
invariant-copy_values-loop-value l = l.made.items ≡ take l.value-index l.values

abbrev pub invariant-copy_rows-loop-row : goal.invariant-copy_rows-loop-row
invariant-copy_rows-loop-row l = l.made.items ≡ take l.row-index l.rows

abbrev pub invariant-copy_pairs-loop-pair : goal.invariant-copy_pairs-loop-pair
invariant-copy_pairs-loop-pair l = l.made.items ≡ take l.pair-index l.pairs
