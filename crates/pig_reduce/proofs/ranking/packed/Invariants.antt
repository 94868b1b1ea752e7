use Rattle.std.proofs.Common.{◌≡◌, map, take}
use Rattle.pig_value.specs.Trees.{row_tree}
use Rattle.pig_packed.specs.Growth.{and_rows}
use Rattle.pig_reduce.proofs.ranking.packed.Given as goal

abbrev pub invariant-loop-row : goal.invariant-loop-row
invariant-loop-row l = l.built ≡ and_rows (map row_tree (take l.row-index l.rows)) l.initial.built
