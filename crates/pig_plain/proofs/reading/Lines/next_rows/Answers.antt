use Rattle.std.proofs.Common.{◌∙◌, ◌++◌, ap}
use Rattle.pig_value.specs.FieldRows.{row_of}
use Rattle.pig_value.specs.Trees.{rows_tree}
use Rattle.pig_plain.specs.Coming.{rows_left}
use Rattle.pig_plain.proofs.LinesLeft.{row_added, rows_read}
use Rattle.pig_plain.proofs.reading.Lines.next_rows.Goals as goal

pub lines-preserved : goal.lines-preserved
lines-preserved c =
    let new = c.next.new.self in
    let line = c.in-Some.line.now in
    let told = c.in-Some.ensures in
    c.lines.invariant
    ∙ ap (λ rows. rows_tree c.lines.rows ++ rows) (rows_read c.lines.self new line told.line told.delim told.columns)
    ∙ row_added c.lines.rows c.push.new.self c.in_ok-line_row-in-Some.field-0 (row_of new.columns.now new.delim line) (rows_left new)
    c.in_ok-push-in-Some.ensures.ok c.in_ok-line_row-in-Some.ensures
