use Rattle.std.proofs.Common.{subst}
use Rattle.std.specs.Prelude.{IfOk}
use Rattle.std.specs.declared.result.Result.{Result}
use Rattle.std.specs.declared.result.Result.TheVariants.{Ok, Err}
use Rattle.pig_syntax.specs.ExprTrees.{ExprForm, expr_form}
use Rattle.pig_typed.specs.Typed.{typed}
use Rattle.pig_typed.specs.declared.exprs.TExpr.{TExpr}
use Rattle.pig_typing.specs.declared.faults.TypeFault.{TypeFault}
use Rattle.pig_typing.specs.declared.faults.TypeFault.TheVariants as fault
use Rattle.pig_typing.specs.Columns.{Place, place_of}
use Rattle.pig_typing.specs.Conditions.{Conditions, ConditionsNot, condition_on}
use Rattle.pig_typing.specs.Results.{IfRefused, Tells}
use Rattle.pig_typing.proofs.ConditionsTold.{IsConditionTold, condition_told}
use Rattle.pig_typing.proofs.conditions.type_condition.Goals as goal

holds : (s : Place) (a : ExprForm) (r : Result TExpr TypeFault) → Tells typed (condition_on s a) r → IfOk r (λ t. Conditions s a (typed t)) × IfRefused r (ConditionsNot s a)
holds s a (Ok t) e = (subst (IsConditionTold s a) e (condition_told s a), tt)
holds s a (Err (fault.Refused kind)) e = (tt, subst (IsConditionTold s a) e (condition_told s a))
holds s a (Err fault.OutOfMemory) e = (tt, tt)

pub returns : goal.returns
returns c =
    let both = holds (place_of c.args.scope.now) (expr_form c.args.e.now) c.condition_told.result c.condition_told.ensures in
    record { typed = both.0; refused = both.1; told = c.condition_told.ensures }
