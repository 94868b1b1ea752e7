-- The inputs of an operator by key: each is a relation with keys over its columns, which have the same kinds in all inputs.
-- (Pig Latin Basics: "GROUP", "COGROUP", "JOIN (inner)", "JOIN (outer)".)
use Rattle.std.specs.Prelude.{◌≡◌, ℕ, Bool, true, false, List, [], ◌∷◌, map, Option, Some, None}
use Rattle.std.specs.Option.{option_and_then}
use Rattle.std.specs.declared.result.Result.TheVariants.{Ok}
use Rattle.pig_value.specs.Trees.{KindTree}
use Rattle.pig_schema.specs.FieldTrees.{FieldTree, tree_kind}
use Rattle.pig_syntax.specs.ExprTrees.{ExprForms, expr_form, expr_forms}
use Rattle.pig_syntax.specs.declared.trees.GroupInput.{GroupInput}
use Rattle.pig_syntax.specs.declared.trees.JoinInput.{JoinInput}
use Rattle.pig_typed.specs.Typed.{Typed}
use Rattle.pig_plan.specs.Plans.{Keyed}
use Rattle.pig_typing.specs.declared.faults.CheckKind.{CheckKind}
use Rattle.pig_typing.specs.declared.faults.CheckKind.TheVariants as kind
use Rattle.pig_typing.specs.Columns.{Place}
use Rattle.pig_typing.specs.Conditions.{Keys, KeysNot, keys_on}
use Rattle.pig_typing.specs.Parts.{Typing, typed_column, typed_of, kind_in}
use Rattle.pig_typing.specs.Results.{Checked, due, ◌>>=◌}
use Rattle.pig_relations.specs.Aliases.{Aliases, RelationTree, relation_at, relation_of}
use Rattle.pig_relations.specs.Together.{all_together, equally_many, widened}

-- ---- inputs as they are written, and as they are typed

pub record KeyedForm : Type 0 where
  pub alias : List ℕ
  pub keys : ExprForms
  pub inner : Bool

abbrev pub group_form : GroupInput → KeyedForm
group_form i = record { alias = i.from; keys = expr_forms (map expr_form i.keys); inner = i.inner }

abbrev pub join_form : JoinInput → KeyedForm
join_form i = record { alias = i.from; keys = expr_forms (map expr_form i.keys); inner = false }

pub record TypedInput : Type 0 where
  pub alias : List ℕ
  pub relation : RelationTree
  pub keys : List Typing
  pub inner : Bool

abbrev pub typed_input : KeyedForm → RelationTree → List Typing → TypedInput
typed_input i r ps = record { alias = i.alias; relation = r; keys = ps; inner = i.inner }

-- keys see the columns of their input alone
abbrev pub rows_of : RelationTree → Place
rows_of r = record { columns = r.columns; locals = [] }

pub data TypesInput (aliases : Aliases) : KeyedForm → TypedInput → Type 0 where
  types_input : {i : KeyedForm} {r : RelationTree} {ps : List Typing}
      → relation_at i.alias aliases ≡ Some r → Keys (rows_of r) i.keys ps → TypesInput aliases i (typed_input i r ps)

pub data TypesInputNot (aliases : Aliases) : KeyedForm → CheckKind → Type 0 where
  unknown_input : {i : KeyedForm} → relation_at i.alias aliases ≡ None → TypesInputNot aliases i kind.UnknownAlias
  untyped_keys : {i : KeyedForm} {r : RelationTree} {f : CheckKind}
      → relation_at i.alias aliases ≡ Some r → KeysNot (rows_of r) i.keys f → TypesInputNot aliases i f

pub data TypesInputs (aliases : Aliases) : List KeyedForm → List TypedInput → Type 0 where
  no_inputs : TypesInputs aliases [] []
  more_inputs : {i : KeyedForm} {is : List KeyedForm} {t : TypedInput} {ts : List TypedInput}
      → TypesInput aliases i t → TypesInputs aliases is ts → TypesInputs aliases (i ∷ is) (t ∷ ts)

pub data TypesInputsNot (aliases : Aliases) : List KeyedForm → CheckKind → Type 0 where
  here_untyped : {i : KeyedForm} {is : List KeyedForm} {f : CheckKind} → TypesInputNot aliases i f → TypesInputsNot aliases (i ∷ is) f
  later_untyped : {i : KeyedForm} {is : List KeyedForm} {f : CheckKind} → TypesInputsNot aliases is f → TypesInputsNot aliases (i ∷ is) f

-- ---- the kinds of the keys

-- an input has a key at least; none is of no grammar
abbrev pub if_some : List KindTree → Option (List KindTree)
if_some [] = None
if_some (k ∷ ks) = Some (k ∷ ks)

abbrev pub key_columns : TypedInput → List FieldTree
key_columns t = map typed_column t.keys

abbrev pub keys_kinds : TypedInput → List KindTree
keys_kinds t = map tree_kind (key_columns t)

-- the kinds that the keys of all inputs have together
abbrev pub key_kinds : List TypedInput → Option (List KindTree)
key_kinds ts = option_and_then if_some (all_together (map keys_kinds ts))

-- a key, of the first of the kinds, where it stands there
abbrev pub cast_first : Typing → List KindTree → Typed
cast_first p [] = typed_of p
cast_first p (k ∷ ks) = widened (kind_in p) k (typed_of p)

abbrev pub rest_of : List KindTree → List KindTree
rest_of [] = []
rest_of (k ∷ ks) = ks

-- keys of these kinds, where an int stands with a long by a cast
abbrev pub cast_keys : List Typing → List KindTree → List Typed
cast_keys [] ks = []
cast_keys (p ∷ ps) ks = cast_first p ks ∷ cast_keys ps (rest_of ks)

abbrev pub keyed : List KindTree → TypedInput → Keyed
keyed ks t = record { input = t.relation.node; keys = cast_keys t.keys ks; inner = t.inner }

-- inputs whose keys have these kinds together
pub record Keyable : Type 0 where
  pub inputs : List TypedInput
  pub kinds : List KindTree

pub data TypesKeyed (aliases : Aliases) : List KeyedForm → Keyable → Type 0 where
  types_keyed : {is : List KeyedForm} {ts : List TypedInput} {ks : List KindTree}
      → TypesInputs aliases is ts → key_kinds ts ≡ Some ks → TypesKeyed aliases is (record { inputs = ts; kinds = ks })

pub data TypesKeyedNot (aliases : Aliases) : List KeyedForm → CheckKind → Type 0 where
  untyped_input : {is : List KeyedForm} {f : CheckKind} → TypesInputsNot aliases is f → TypesKeyedNot aliases is f
  -- another number of keys, or keys of other kinds, or none
  of_unlike_keys : {is : List KeyedForm} {ts : List TypedInput}
      → TypesInputs aliases is ts → key_kinds ts ≡ None → TypesKeyedNot aliases is kind.SchemaMismatch
  -- equally many keys, of other kinds
  of_other_kinds : {is : List KeyedForm} {ts : List TypedInput}
      → TypesInputs aliases is ts → equally_many (map keys_kinds ts) ≡ true → all_together (map keys_kinds ts) ≡ None → TypesKeyedNot aliases is kind.TypeMismatch

-- ---- the same as functions

unfoldable pub input_of : Aliases → KeyedForm → Checked TypedInput
input_of aliases i = do
  r ← relation_of aliases i.alias
  ps ← keys_on (rows_of r) i.keys
  Ok (typed_input i r ps)

unfoldable pub inputs_of : Aliases → List KeyedForm → Checked (List TypedInput)
inputs_of aliases [] = Ok []
inputs_of aliases (i ∷ is) = do
  t ← input_of aliases i
  ts ← inputs_of aliases is
  Ok (t ∷ ts)

unfoldable pub keyed_of : Aliases → List KeyedForm → Checked Keyable
keyed_of aliases is = do
  ts ← inputs_of aliases is
  ks ← due kind.SchemaMismatch (key_kinds ts)
  Ok (record { inputs = ts; kinds = ks })
