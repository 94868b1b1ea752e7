use Rattle.std.proofs.Common.{subst}
use Rattle.std.specs.Prelude.{IfOk}
use Rattle.std.specs.declared.result.Result.{Result}
use Rattle.std.specs.declared.result.Result.TheVariants.{Ok, Err}
use Rattle.pig_syntax.specs.ExprTrees.{ExprForm, expr_form}
use Rattle.pig_typing.specs.declared.exprs.TypedExpr.{TypedExpr}
use Rattle.pig_typing.specs.declared.faults.TypeFault.{TypeFault}
use Rattle.pig_typing.specs.declared.faults.TypeFault.TheVariants as fault
use Rattle.pig_typing.specs.Columns.{Place, place_of}
use Rattle.pig_typing.specs.Faults.{Faults}
use Rattle.pig_typing.specs.Reader.{type_of}
use Rattle.pig_typing.specs.Results.{IfRefused, Tells}
use Rattle.pig_typing.specs.Typing.{Types}
use Rattle.pig_typing.specs.Views.{typed_tree}
use Rattle.pig_typing.proofs.Told.{IsTold, told}
use Rattle.pig_typing.proofs.exprs.type_expr.Goals as goal

holds : (s : Place) (a : ExprForm) (r : Result TypedExpr TypeFault) → Tells typed_tree (type_of s a) r → IfOk r (λ t. Types s a (typed_tree t)) × IfRefused r (Faults s a)
holds s a (Ok t) e = (subst (IsTold s a) e (told s a), tt)
holds s a (Err (fault.Refused kind)) e = (tt, subst (IsTold s a) e (told s a))
holds s a (Err fault.OutOfMemory) e = (tt, tt)

pub returns : goal.returns
returns c =
    let both = holds (place_of c.args.scope.now) (expr_form c.args.e.now) c.typed_expr.result c.typed_expr.ensures in
    record { typed = both.0; refused = both.1; told = c.typed_expr.ensures }
