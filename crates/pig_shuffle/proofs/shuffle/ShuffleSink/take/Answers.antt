use Rattle.std.proofs.Common.{◌≡◌, length, refl, subst}
use Rattle.std.specs.Prelude.{Some, slice_get}
use Rattle.std.proofs.lemmas.Option.{slice_get_read}
use Rattle.pig_value.specs.Trees.{rows_tree}
use Rattle.pig_value.specs.Valid.{AreRows}
use Rattle.pig_value.proofs.list_laws.Indexing.{dropped}
use Rattle.pig_shuffle.proofs.Steps.{took_next}
use Rattle.pig_shuffle.proofs.shuffle.ShuffleSink.take.Goals as goal

pub loop-row-preserved : goal.loop-row-preserved
loop-row-preserved c =
    let rows = c.args.rows.now in
    let at = c.loop-row.row-index in
    let is : slice_get rows at ≡ Some c.row-item.result = slice_get_read rows (length rows) at c.row-item.result refl c.loop-row-test.true c.row-item.is in (
      (subst (λ rs. AreRows (rows_tree rs)) (dropped rows at c.row-item.result is) c.loop-row.invariant.0).1,
      took_next c.args.self.now c.loop-row.self c.add.new.self rows at c.row-item.result c.loop-row.invariant.1 c.in_ok-add.ensures is,
    )
