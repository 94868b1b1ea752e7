use Rattle.std.proofs.Common.{sym, subst}
use Rattle.std.specs.Result.{IfOk}
use Rattle.std.proofs.lemmas.Result.{IfOk-weaker}
use Rattle.pig_value.specs.Kinds.{IsOf}
use Rattle.pig_value.specs.Texts.{IsLineFree}
use Rattle.pig_value.specs.Trees.{row_tree, tree}
use Rattle.pig_value.specs.Valid.{IsValue}
use Rattle.pig_typed.specs.Typed.{typed}
use Rattle.pig_eval.proofs.Evaluated.{of_kind, a_value, free_of_lines}
use Rattle.pig_eval.proofs.evaluating.eval.Goals as goal

pub returns-clause-kind : goal.returns-clause-kind
returns-clause-kind c = λ kinds more k h g is.
    IfOk-weaker c.made.result _ (λ v. IsOf (tree v) k)
    (λ v same. subst (λ t. IsOf t k) (sym same) (of_kind (typed c.args.e.now) (row_tree c.args.row.now) (row_tree c.args.locals.now) kinds more k h g is)) c.made.ensures

pub returns-clause-valid : goal.returns-clause-valid
returns-clause-valid c = λ ok h g.
    IfOk-weaker c.made.result _ (λ v. IsValue (tree v))
    (λ v same. subst IsValue (sym same) (a_value (typed c.args.e.now) (row_tree c.args.row.now) (row_tree c.args.locals.now) ok h g)) c.made.ensures

pub returns-clause-line_free : goal.returns-clause-line_free
returns-clause-line_free c = λ ok valid h also g.
    IfOk-weaker c.made.result _ (λ v. IsLineFree (tree v))
    (λ v same. subst IsLineFree (sym same) (free_of_lines (typed c.args.e.now) (row_tree c.args.row.now) (row_tree c.args.locals.now) ok valid h also g)) c.made.ensures
