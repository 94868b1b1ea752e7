use Rattle.std.proofs.Common.{map, subst}
use Rattle.std.specs.Prelude.{List, IfOk}
use Rattle.std.specs.declared.result.Result.{Result}
use Rattle.std.specs.declared.result.Result.TheVariants.{Ok, Err}
use Rattle.pig_syntax.specs.ExprTrees.{ExprForms, expr_form, expr_forms}
use Rattle.pig_typing.specs.declared.exprs.TypedExpr.{TypedExpr}
use Rattle.pig_typing.specs.declared.faults.TypeFault.{TypeFault}
use Rattle.pig_typing.specs.declared.faults.TypeFault.TheVariants as fault
use Rattle.pig_typing.specs.Columns.{Place, place_of}
use Rattle.pig_typing.specs.Conditions.{Keys, KeysNot, keys_on}
use Rattle.pig_typing.specs.Results.{IfRefused, Tells}
use Rattle.pig_typing.specs.Views.{typed_tree}
use Rattle.pig_typing.proofs.ConditionsTold.{AreKeysTold, keys_told}
use Rattle.pig_typing.proofs.conditions.type_keys.Goals as goal

holds : (s : Place) (es : ExprForms) (r : Result (List TypedExpr) TypeFault) → Tells (map typed_tree) (keys_on s es) r → IfOk r (λ ts. Keys s es (map typed_tree ts)) × IfRefused r (KeysNot s es)
holds s es (Ok ts) e = (subst (AreKeysTold s es) e (keys_told s es), tt)
holds s es (Err (fault.Refused kind)) e = (tt, subst (AreKeysTold s es) e (keys_told s es))
holds s es (Err fault.OutOfMemory) e = (tt, tt)

pub returns : goal.returns
returns c =
    let both = holds (place_of c.args.scope.now) (expr_forms (map expr_form c.args.keys.now)) c.keys_told.result c.keys_told.ensures in
    record { typed = both.0; refused = both.1; told = c.keys_told.ensures }
