use Rattle.std.proofs.Common.{◌≡◌, ◌++◌, length, map}
use Rattle.pig_value.specs.Trees.{rows_tree}
use Rattle.pig_physical.specs.Handed.{out_of}
use Rattle.pig_collect.specs.Keeping.{wave_rows}
use Rattle.pig_collect.proofs.kept.wave_rows.Given as goal

abbrev pub invariant-loop-left : goal.invariant-loop-left
invariant-loop-left l = rows_tree l.rows ++ wave_rows (map out_of l.left) ≡ wave_rows (map out_of l.outs)

abbrev pub decreases-loop-left : goal.decreases-loop-left
decreases-loop-left l = length l.left
