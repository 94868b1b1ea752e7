-- One more column is read, and at the end none is left.
use Rattle.std.proofs.Common.{◌≡◌, ◌∙◌, ap, arith}
use Rattle.std.specs.Option.{option_map_or}
use Rattle.pig_value.specs.FieldReader.{field_value}
use Rattle.pig_value.specs.FieldRows.{column_of, pieces, row_of}
use Rattle.pig_value.specs.Trees.{kind_tree, tree, v_null}
use Rattle.pig_storage.proofs.Loops.{reads_all, reads_one}
use Rattle.pig_storage.proofs.rows.read_columns.Goals as goal

pub loop-column-preserved : goal.loop-column-preserved
loop-column-preserved c =
    let line = c.args.line.now in
    let byte = c.args.byte in
    let columns = c.args.columns.now in
    let column = c.column-item.result in
    let value = c.in_ok-field_or_null.field-0 in
    let read : tree value ≡ column_of (pieces byte line) column = c.in_ok-field_or_null.ensures ∙ ap (λ piece. option_map_or (field_value (kind_tree column.kind)) piece v_null) c.bytes_at-bytes.ensures in
    (c.piece_towards-piece.ensures.piece, reads_one tree (column_of (pieces byte line)) columns c.loop-column.column-index column c.loop-column.row.items c.push.new.self.items value (row_of columns byte line) c.loop-column-test.true c.column-item.is c.loop-column.invariant.1 c.in_ok-push.ensures.items read)

pub returns : goal.returns
returns c =
    let line = c.args.line.now in
    let byte = c.args.byte in
    let columns = c.args.columns.now in
    reads_all tree (column_of (pieces byte line)) columns c.loop-column.column-index c.loop-column.row.items (row_of columns byte line) (omega arith) c.loop-column.invariant.1
