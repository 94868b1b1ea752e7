use Rattle.std.specs.Prelude.{◌⊎◌}
use Rattle.std.specs.declared.result.Result.TheVariants.{Ok, Err}
use Rattle.std.proofs.Common.{inl, inr}
use Rattle.pig_syntax.specs.ExprTrees.{ExprForm}
use Rattle.pig_typed.specs.Typed.{Typed}
use Rattle.pig_typing.specs.declared.faults.CheckKind.{CheckKind}
use Rattle.pig_typing.specs.Columns.{Place}
use Rattle.pig_typing.specs.Conditions.{Conditions, ConditionsNot, condition_on}
use Rattle.pig_typing.specs.Results.{Checked}
use Rattle.pig_typing.proofs.ConditionsFound.{one_condition, no_condition}
use Rattle.pig_typing.proofs.ConditionsTold.{IsConditionTold, condition_told}
use Rattle.pig_typing.proofs.laws.conditions_have_one_typing.Goals as goal

either : (s : Place) (a : ExprForm) (r : Checked (Typed)) → IsConditionTold s a r → ((t : Typed) × Conditions s a t) ⊎ ((kind : CheckKind) × ConditionsNot s a kind)
either s a (Ok t) w = inl (t, w)
either s a (Err kind) w = inr (kind, w)

pub returns : goal.returns
returns c = record {
  one = λ s a t u v w. one_condition v w;
  some = λ s a. either s a (condition_on s a) (condition_told s a);
  never_both = λ s a t kind v w. no_condition v w;
}
