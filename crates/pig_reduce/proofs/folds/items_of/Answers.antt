use Rattle.std.proofs.Common.{length, refl, sym, ◌++◌, ◌∙◌, ap, map, drop, subst}
use Rattle.std.proofs.lemmas.Option.{slice_get_read}
use Rattle.pig_value.specs.Trees.{row_tree, rows_tree}
use Rattle.pig_value.specs.Valid.{IsRow}
use Rattle.pig_algebra.specs.Combining.{finished}
use Rattle.pig_algebra.specs.Cuts.{cut_typed}
use Rattle.pig_reduce.proofs.Finishing.{begins_all, item_more, keyed_at, row_valid}
use Rattle.pig_reduce.proofs.folds.items_of.Goals as goal

pub loop-cut-init : goal.loop-cut-init
loop-cut-init c = (
  λ key alone.
      ap (λ row. row_tree row ++ finished (map cut_typed c.args.cuts.now) key (map (drop 0) (rows_tree c.args.rows.now))) c.in_ok-row.ensures
      ∙ begins_all c.args.cuts.now key (rows_tree c.args.rows.now),
  subst (λ row. IsRow (row_tree row)) (sym c.in_ok-row.ensures) tt,
)

pub item_of-requires-clause-cut : goal.item_of-requires-clause-cut
item_of-requires-clause-cut c =
    keyed_at c.args.cuts.now c.loop-cut.cut-index c.cut-item.result
    (slice_get_read c.args.cuts.now (length c.args.cuts.now) c.loop-cut.cut-index c.cut-item.result refl c.loop-cut-test.true c.cut-item.is) c.requires.cuts

pub loop-cut-preserved : goal.loop-cut-preserved
loop-cut-preserved c =
    let here = slice_get_read c.args.cuts.now (length c.args.cuts.now) c.loop-cut.cut-index c.cut-item.result refl c.loop-cut-test.true c.cut-item.is in (
      λ key alone.
          item_more c.args.cuts.now c.loop-cut.cut-index c.cut-item.result key (row_tree c.args.keyed.now)
          (rows_tree c.args.rows.now) c.loop-cut.row c.push.new.self c.in_ok-item_of.field-0
          c.loop-cut.place c.in_ok-place.place _ here alone c.in_ok-item_of.ensures.is c.in_ok-place.ensures c.in_ok-push.ensures.ok
          (c.loop-cut.invariant.0 key alone),
      row_valid c.loop-cut.row c.push.new.self c.in_ok-item_of.field-0 c.in_ok-push.ensures.ok c.loop-cut.invariant.1 c.in_ok-item_of.ensures.value,
    )
