use Rattle.std.proofs.Common.{sym, subst}
use Rattle.std.proofs.lemmas.Result.{IfOk-weaker}
use Rattle.pig_value.specs.Kinds.{AreRowsOf}
use Rattle.pig_value.specs.Texts.{AreLineFreeRows}
use Rattle.pig_value.specs.Trees.{row_tree, rows_tree}
use Rattle.pig_value.specs.Valid.{AreRows}
use Rattle.pig_typed.specs.Typed.{block_typed}
use Rattle.pig_nested.proofs.generating.foreach.Goals as goal

pub returns-clause-kinds : goal.returns-clause-kinds
returns-clause-kinds c = λ kinds made h is.
    IfOk-weaker c.made.result _ (λ rows. AreRowsOf (rows_tree rows) made)
    (λ rows same. subst (λ rs. AreRowsOf rs made) (sym same) (c.evaluation_keeps_kinds.ensures.block (block_typed c.args.block.now) (row_tree c.args.row.now) kinds made h is)) c.made.ensures

pub returns-clause-valid : goal.returns-clause-valid
returns-clause-valid c = λ ok h.
    IfOk-weaker c.made.result _ (λ rows. AreRows (rows_tree rows))
    (λ rows same. subst AreRows (sym same) (c.evaluation_keeps_values.ensures.block (block_typed c.args.block.now) (row_tree c.args.row.now) ok h)) c.made.ensures

pub returns-clause-line_free : goal.returns-clause-line_free
returns-clause-line_free c = λ ok valid h.
    IfOk-weaker c.made.result _ (λ rows. AreLineFreeRows (rows_tree rows))
    (λ rows same. subst AreLineFreeRows (sym same) (c.evaluation_keeps_lines.ensures.block (block_typed c.args.block.now) (row_tree c.args.row.now) ok valid h)) c.made.ensures
