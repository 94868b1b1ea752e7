use Rattle.std.proofs.Common.{◌≡◌, ◌++◌, ◌-◌, length}
use Rattle.pig_value.specs.Trees.{rows_tree}
use Rattle.pig_plain.specs.Coming.{rows_left}
use Rattle.pig_plain.proofs.reading.Lines.next_rows.Given as goal

abbrev pub invariant-lines : goal.invariant-lines
invariant-lines l = rows_left l.fn.self ≡ rows_tree l.rows ++ rows_left l.self

abbrev pub decreases-lines : goal.decreases-lines
decreases-lines l = 256 - length l.rows
