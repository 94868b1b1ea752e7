use Rattle.pig_value.specs.Trees.{rows_tree}
use Rattle.pig_map.proofs.Copied.{row_added, row_valid}
use Rattle.pig_map.proofs.copies.add_packed.Goals as goal

pub loop-at-preserved : goal.loop-at-preserved
loop-at-preserved c = (
  row_added c.args.packed.now (rows_tree c.args.rows.now) c.loop-at.at c.loop-at.rows c.push.new.self c.in_ok-unpacked_row.field-0 c.in_ok-unpacked_row.ensures.is
      c.loop-at.invariant.0 c.in_ok-push.ensures.ok,
  λ valid. row_valid c.loop-at.rows c.push.new.self c.in_ok-unpacked_row.field-0 c.in_ok-push.ensures.ok (c.loop-at.invariant.1 valid) c.in_ok-unpacked_row.ensures.values,
)
