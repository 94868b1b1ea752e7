use Rattle.std.proofs.Common.{rules}
use Rattle.pig_value.specs.Trees.{at}
use Rattle.pig_builtins.proofs.Columns.{next_value}
use Rattle.pig_builtins.proofs.folding.apply_column.Goals as goal

pub loop-row-preserved : goal.loop-row-preserved
loop-row-preserved c = record {
  function = search rules;
  found = next_value c.args.function (at c.args.position) c.loop-row.fold c.add-fold.result c.field_at.result c.args.rows.now c.loop-row.row-index c.row-item.result
      c.loop-row-test.true c.row-item.is c.loop-row.invariant.function c.loop-row.invariant.found c.field_at.ensures c.add-fold.ensures.found;
}
