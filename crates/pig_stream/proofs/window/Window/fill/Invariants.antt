use Rattle.std.proofs.Common.{◌≡◌, ◌++◌, ◌-◌, ℕ, List, length}
use Rattle.pig_value.specs.Valid.{AreRows}
use Rattle.pig_stream.specs.Ranges.{lines_coming, rows_of_lines}
use Rattle.pig_stream.proofs.window.Window.fill.Given as goal

abbrev pub invariant-lines : goal.invariant-lines
invariant-lines l =
    ((later : List ℕ) → rows_of_lines l.columns l.delim (lines_coming l.fn.self later) ≡ l.batch ++ rows_of_lines l.columns l.delim (lines_coming l.self later))
    × AreRows l.batch × (l.self.ended ≡ l.fn.self.ended)

abbrev pub decreases-lines : goal.decreases-lines
decreases-lines l = 256 - length l.batch
