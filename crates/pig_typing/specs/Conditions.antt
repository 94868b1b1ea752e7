-- Expressions as conditions, and as keys of GROUP, COGROUP and JOIN.
-- (Pig Latin Basics: "FILTER", "GROUP", "JOIN". That a bytearray is cast to boolean, and that no key holds a bag or a map, are choices of
-- this profile.)
use Rattle.std.specs.Prelude.{◌≡◌, Bool, true, false, List, [], ◌∷◌, Some, None, if◌then◌else◌}
use Rattle.std.specs.declared.result.Result.TheVariants.{Ok, Err}
use Rattle.pig_value.specs.Kinds.{has_bag_or_map}
use Rattle.pig_value.specs.Trees.{k_boolean}
use Rattle.pig_syntax.specs.ExprTrees.{ExprForm, ExprForms, no_exprs, more_exprs}
use Rattle.pig_typed.specs.Typed.{Typed}
use Rattle.pig_typing.specs.declared.faults.CheckKind.{CheckKind}
use Rattle.pig_typing.specs.declared.faults.CheckKind.TheVariants as kind
use Rattle.pig_typing.specs.Columns.{Place}
use Rattle.pig_typing.specs.Faults.{Faults}
use Rattle.pig_typing.specs.Joins.{cast_if, condition}
use Rattle.pig_typing.specs.Parts.{Typing, typed_of, kind_in}
use Rattle.pig_typing.specs.Reader.{condition_of, type_of}
use Rattle.pig_typing.specs.Results.{Checked, ◌>>=◌}
use Rattle.pig_typing.specs.Typing.{Types}

-- ---- conditions

pub data Conditions (s : Place) : ExprForm → Typed → Type 0 where
  a_condition : {a : ExprForm} {p : Typing} {is_cast : Bool}
      → Types s a p → condition (kind_in p) ≡ Some is_cast → Conditions s a (cast_if is_cast k_boolean (typed_of p))

pub data ConditionsNot (s : Place) : ExprForm → CheckKind → Type 0 where
  untyped : {a : ExprForm} {f : CheckKind} → Faults s a f → ConditionsNot s a f
  of_no_truth : {a : ExprForm} {p : Typing} → Types s a p → condition (kind_in p) ≡ None → ConditionsNot s a kind.TypeMismatch

unfoldable pub condition_on : Place → ExprForm → Checked Typed
condition_on s a = do
  p ← type_of s a
  condition_of p

-- ---- keys

pub data Keys (s : Place) : ExprForms → List Typing → Type 0 where
  no_keys : Keys s no_exprs []
  more_keys : {a : ExprForm} {others : ExprForms} {p : Typing} {ps : List Typing}
      → Types s a p → has_bag_or_map (kind_in p) ≡ false → Keys s others ps → Keys s (more_exprs a others) (p ∷ ps)

pub data KeysNot (s : Place) : ExprForms → CheckKind → Type 0 where
  untyped_key : {a : ExprForm} {others : ExprForms} {f : CheckKind} → Faults s a f → KeysNot s (more_exprs a others) f
  bad_key : {a : ExprForm} {others : ExprForms} {p : Typing} → Types s a p → has_bag_or_map (kind_in p) ≡ true → KeysNot s (more_exprs a others) kind.BadKey
  later_key : {a : ExprForm} {others : ExprForms} {f : CheckKind} → KeysNot s others f → KeysNot s (more_exprs a others) f

unfoldable pub as_key : Typing → Checked Typing
as_key p = if has_bag_or_map (kind_in p) then Err kind.BadKey else Ok p

unfoldable pub key_on : Place → ExprForm → Checked Typing
key_on s a = do
  p ← type_of s a
  as_key p

unfoldable pub keys_on : Place → ExprForms → Checked (List Typing)
keys_on s no_exprs = Ok []
keys_on s (more_exprs a others) = do
  p ← key_on s a
  ps ← keys_on s others
  Ok (p ∷ ps)
