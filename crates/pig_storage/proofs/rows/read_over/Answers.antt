use Rattle.std.proofs.Common.{◌≤◌, ◌∙◌, ap, arith, length, map, sym, take}
use Rattle.std.proofs.lemmas.List.{take_all}
use Rattle.pig_value.specs.FieldRows.{column_of, pieces, row_of}
use Rattle.pig_value.specs.Trees.{tree}
use Rattle.pig_storage.proofs.Loops.{reads_all}
use Rattle.pig_storage.proofs.rows.read_over.Goals as goal

pub returns : goal.returns
returns c =
    let line = c.args.line.now in
    let byte = c.args.byte in
    let columns = c.args.columns.now in
    let at = c.loop-at.at in
    let row = c.loop-at.row in
    let past : length columns ≤ at = omega arith in
    ap (map tree) (sym (take_all at row (omega (arith, past, c.loop-at.invariant.1))))
    ∙ reads_all tree (column_of (pieces byte line)) columns at (take at row) (row_of columns byte line) past c.loop-at.invariant.2
