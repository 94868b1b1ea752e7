-- Columns: what stands in a place of a row or is given by an expression. A column has a kind, the name that it keeps, if any, and
-- the columns inside it. Here is which column of some a reference means, and what an expression may refer to.
-- (Pig Latin Basics: "Schemas", "Referencing Fields". That a nested alias is no field is a choice of this profile.)
use Rattle.std.specs.Prelude.{⊤, ◌≡◌, ◌≤◌, ℕ, List, [], ◌∷◌, map, length, slice_get, Option, Some, None}
use Rattle.std.specs.Option.{option_map}
use Rattle.std.specs.declared.result.Result.{Result}
use Rattle.std.specs.declared.result.Result.TheVariants.{Ok, Err}
use Rattle.pig_value.specs.Trees.{KindTree, KindTrees, k_tuple, k_bag, k_map, no_kinds, more_kinds}
use Rattle.pig_schema.specs.FieldTrees.{FieldTree, a_field, inner_of, tree_name, tree_kind, tree_inner, schema_tree, IsColumn}
use Rattle.pig_schema.specs.Names.{IsMeant, IsUnknown, IsAmbiguous, meaning}
use Rattle.pig_schema.specs.declared.naming.NameFault.{NameFault}
use Rattle.pig_schema.specs.declared.naming.NameFault.TheVariants as fault
use Rattle.pig_syntax.specs.declared.trees.FieldRef.{FieldRef}
use Rattle.pig_syntax.specs.declared.trees.FieldRef.TheVariants as ref
use Rattle.pig_typing.specs.declared.faults.CheckKind.{CheckKind}
use Rattle.pig_typing.specs.declared.faults.CheckKind.TheVariants as kind
use Rattle.pig_typing.specs.declared.scope.Scope.{Scope}
pub use Rattle.pig_typing.specs.Latest.{later_or, latest, latest_from, local_of, named_here}
use Rattle.pig_typing.specs.Results.{Checked, due, ◌>>=◌}

-- a column of this kind, with no name of its own nor inside
abbrev mutual
  pub inner_unnamed : KindTree → List FieldTree
  inner_unnamed (k_tuple ks) = each_unnamed ks
  inner_unnamed (k_bag ks) = each_unnamed ks
  inner_unnamed (k_map k) = inner_unnamed k
  inner_unnamed k = []

  pub each_unnamed : KindTrees → List FieldTree
  each_unnamed no_kinds = []
  each_unnamed (more_kinds k ks) = a_field None k (inner_of (inner_unnamed k)) ∷ each_unnamed ks

abbrev pub unnamed : KindTree → FieldTree
unnamed k = a_field None k (inner_of (inner_unnamed k))

-- the same column without its name
abbrev pub nameless : FieldTree → FieldTree
nameless c = a_field None (tree_kind c) (tree_inner c)

-- ---- references

-- the reference means the column at the place
pub data RefersTo (columns : List FieldTree) : FieldRef → ℕ → FieldTree → Type 0 where
  by_name : {name : List ℕ} {n : ℕ} {c : FieldTree} → IsMeant (map tree_name columns) name n → slice_get columns n ≡ Some c → RefersTo columns (ref.Name name) n c
  by_position : {n : ℕ} {c : FieldTree} → slice_get columns n ≡ Some c → RefersTo columns (ref.Position n) n c

-- the reference means no column, for this reason
pub data RefersToNone (columns : List FieldTree) : FieldRef → CheckKind → Type 0 where
  unknown : {name : List ℕ} → IsUnknown (map tree_name columns) name → RefersToNone columns (ref.Name name) kind.UnknownField
  ambiguous : {name : List ℕ} → IsAmbiguous (map tree_name columns) name → RefersToNone columns (ref.Name name) kind.AmbiguousField
  outside : {n : ℕ} → length columns ≤ n → RefersToNone columns (ref.Position n) kind.PositionOut

-- ---- what an expression may refer to

-- the columns of a row, and the nested aliases so far, each with the column that its step gives
pub record Place : Type 0 where
  pub columns : List FieldTree
  pub locals : List (List ℕ × FieldTree)

abbrev pub place_of : Scope → Place
place_of s = record { columns = schema_tree s.columns.now; locals = map local_of s.locals.now }

-- the kinds of the row and of the nested aliases
abbrev pub place_row : Place → List KindTree
place_row s = map tree_kind s.columns

abbrev pub locals_of : Place → List KindTree
locals_of s = map (λ l. tree_kind l.1) s.locals

-- each of the columns has inside it what is of its kind
abbrev pub AreColumns : List FieldTree → Type 0
AreColumns [] = ⊤
AreColumns (c ∷ cs) = IsColumn c × AreColumns cs

abbrev pub IsPlace : Place → Type 0
IsPlace s = AreColumns s.columns × AreColumns (map (λ l. l.1) s.locals)

-- ---- the same as functions

abbrev pub name_refusal : NameFault → CheckKind
name_refusal fault.Unknown = kind.UnknownField
name_refusal fault.Ambiguous = kind.AmbiguousField
name_refusal fault.PositionOut = kind.PositionOut

abbrev pub name_place : Result ℕ NameFault → Checked ℕ
name_place (Ok n) = Ok n
name_place (Err f) = Err (name_refusal f)

-- the column at a place, with the place
unfoldable pub column_at : List FieldTree → ℕ → Checked (ℕ × FieldTree)
column_at columns n = due kind.PositionOut (option_map (λ c. (n, c)) (slice_get columns n))

unfoldable pub refer : List FieldTree → FieldRef → Checked (ℕ × FieldTree)
refer columns (ref.Name name) = name_place (meaning (map tree_name columns) name) >>= column_at columns
refer columns (ref.Position n) = column_at columns n
