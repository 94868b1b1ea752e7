-- What the readers of conditions and keys tell holds.
use Rattle.std.specs.Prelude.{◌≡◌, Bool, true, false, List, refl, if◌then◌else◌}
use Rattle.std.specs.declared.result.Result.TheVariants.{Ok, Err}
use Rattle.pig_value.specs.Kinds.{has_bag_or_map}
use Rattle.pig_syntax.specs.ExprTrees.{ExprForm, ExprForms, no_exprs, more_exprs}
use Rattle.pig_typed.specs.Typed.{Typed}
use Rattle.pig_typing.specs.declared.faults.CheckKind.TheVariants as kind
use Rattle.pig_typing.specs.Columns.{Place}
use Rattle.pig_typing.specs.Conditions.{Conditions, ConditionsNot, a_condition, untyped, of_no_truth, condition_on, Keys, KeysNot, no_keys, more_keys, untyped_key, bad_key, later_key, as_key, key_on, keys_on}
use Rattle.pig_typing.specs.Joins.{condition}
use Rattle.pig_typing.specs.Parts.{Typing, kind_in}
use Rattle.pig_typing.specs.Reader.{condition_of, type_of}
use Rattle.pig_typing.specs.Results.{Checked}
use Rattle.pig_typing.specs.Typing.{Types}
use Rattle.pig_typing.proofs.Chains.{then_told, due_is}
use Rattle.pig_typing.proofs.Told.{IsTold, told}

-- ---- conditions

abbrev pub IsConditionTold : Place → ExprForm → Checked Typed → Type 0
IsConditionTold s a (Ok t) = Conditions s a t
IsConditionTold s a (Err f) = ConditionsNot s a f

pub condition_told : (s : Place) (a : ExprForm) → IsConditionTold s a (condition_on s a)
unfolding condition_on condition_of
condition_told s a =
    then_told (IsTold s a) (IsConditionTold s a) _ (type_of s a) (told s a)
    (λ p h. due_is (IsConditionTold s a) _ kind.TypeMismatch (condition (kind_in p)) (λ is_cast e. a_condition h e) (λ e. of_no_truth h e))
    (λ f h. untyped h)

-- ---- keys

abbrev pub AreKeysTold : Place → ExprForms → Checked (List Typing) → Type 0
AreKeysTold s es (Ok ps) = Keys s es ps
AreKeysTold s es (Err f) = KeysNot s es f

abbrev KeyTold : Place → ExprForm → Checked Typing → Type 0
KeyTold s a (Ok p) = Types s a p × (has_bag_or_map (kind_in p) ≡ false)
KeyTold s a (Err f) = (others : ExprForms) → KeysNot s (more_exprs a others) f

as_key_told : (s : Place) (a : ExprForm) (p : Typing) → Types s a p → KeyTold s a (as_key p)
unfolding as_key
as_key_told s a p h = by (has_bag_or_map (kind_in p)) refl
  where
    by : (b : Bool) → has_bag_or_map (kind_in p) ≡ b → KeyTold s a (if b then Err kind.BadKey else Ok p)
    by true e = λ others. bad_key h e
    by false e = (h, e)

key_told : (s : Place) (a : ExprForm) → KeyTold s a (key_on s a)
unfolding key_on
key_told s a = then_told (IsTold s a) (KeyTold s a) _ (type_of s a) (told s a) (λ p h. as_key_told s a p h) (λ f h others. untyped_key h)

pub keys_told : (s : Place) (es : ExprForms) → AreKeysTold s es (keys_on s es)
unfolding keys_on
keys_told s no_exprs = no_keys
keys_told s (more_exprs a others) =
    then_told (KeyTold s a) (AreKeysTold s (more_exprs a others)) _ (key_on s a) (key_told s a)
    (λ p w. then_told (AreKeysTold s others) (AreKeysTold s (more_exprs a others)) _ (keys_on s others) (keys_told s others) (λ ps g. more_keys w.0 w.1 g) (λ f g. later_key g))
    (λ f w. w others)
