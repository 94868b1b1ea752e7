-- Typed conditions and keys have their kinds.
use Rattle.std.proofs.Common.{◌≡◌, ◌∙◌, List, ap}
use Rattle.std.specs.Prelude.{Some}
use Rattle.std.specs.List.{AllByRecursion}
use Rattle.pig_value.specs.Trees.{k_boolean}
use Rattle.pig_schema.specs.FieldTrees.{IsColumn}
use Rattle.pig_syntax.specs.ExprTrees.{ExprForm, ExprForms}
use Rattle.pig_typed.specs.ExprKinds.{expr_kind}
use Rattle.pig_typed.specs.Typed.{Typed}
use Rattle.pig_typing.specs.Columns.{IsPlace, Place, locals_of, place_row}
use Rattle.pig_typing.specs.Conditions.{Conditions, a_condition, Keys, no_keys, more_keys}
use Rattle.pig_typing.specs.Parts.{Typing, typed_of, typed_column, kind_in}
use Rattle.pig_typing.proofs.Joined.{cast_kind_of, condition_holds}
use Rattle.pig_typing.proofs.KindsHold.{holds}

pub condition_kind : (s : Place) → IsPlace s → (a : ExprForm) (t : Typed) → Conditions s a t → expr_kind t (place_row s) (locals_of s) ≡ Some k_boolean
condition_kind s w a t (a_condition {p = p} {is_cast = cast_so} h e) =
    let k = condition_holds (kind_in p) cast_so e in
    cast_kind_of (place_row s) (locals_of s) cast_so k_boolean (kind_in p) (typed_of p) k.0 (holds s w a p h).kind ∙ ap Some k.1

pub key_kinds : (s : Place) → IsPlace s → (es : ExprForms) (ps : List Typing) → Keys s es ps → AllByRecursion (λ p. expr_kind (typed_of p) (place_row s) (locals_of s) ≡ Some (kind_in p)) ps
key_kinds s w es ps no_keys = tt
key_kinds s w es ps (more_keys {a = a} {others = others} {p = p} {ps = more} h e g) = ((holds s w a p h).kind, key_kinds s w others more g)

pub key_columns : (s : Place) → IsPlace s → (es : ExprForms) (ps : List Typing) → Keys s es ps → AllByRecursion (λ p. IsColumn (typed_column p)) ps
key_columns s w es ps no_keys = tt
key_columns s w es ps (more_keys {a = a} {others = others} {p = p} {ps = more} h e g) = ((holds s w a p h).field, key_columns s w others more g)
