use Rattle.std.proofs.Common.{sym, subst}
use Rattle.pig_value.specs.Trees.{rows_tree}
use Rattle.pig_value.specs.Valid.{AreRows, IsValue}
use Rattle.pig_reduce.proofs.Finishing.{parts_valid}
use Rattle.pig_reduce.proofs.Results.{ok_weaker}
use Rattle.pig_reduce.proofs.folds.part_item.Goals as goal

pub returns-clause-value : goal.returns-clause-value
returns-clause-value c =
    ok_weaker c.apply_column.result
    (λ v e. subst IsValue (sym e)
    (parts_valid c.merging.result c.args.place (rows_tree c.as_slice.result.now)
    (subst (λ rows. AreRows (rows_tree rows)) (sym c.as_slice.ensures) c.requires.rows)))
    c.apply_column.ensures
