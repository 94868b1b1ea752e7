use Rattle.std.proofs.Common.{◌≡◌, length}
use Rattle.std.specs.List.{list_all}
use Rattle.pig_value.specs.Trees.{row_tree}
use Rattle.pig_rank.specs.Walks.{has_same_field}
use Rattle.pig_rank.proofs.same.have_same_key.Given as goal

abbrev pub invariant-loop-left : goal.invariant-loop-left
invariant-loop-left l = list_all (has_same_field (row_tree l.a) (row_tree l.b)) l.left ≡ list_all (has_same_field (row_tree l.a) (row_tree l.b)) l.keys

abbrev pub decreases-loop-left : goal.decreases-loop-left
decreases-loop-left l = length l.left
