-- CUBE and ROLLUP: a FOREACH that makes a row for each chosen set of the dimensions, and directly behind it a GROUP of these rows by the
-- dimensions.
-- (Pig Latin Basics: "CUBE". That a dimension is a chararray, that there are eight at most, each once, and the names of the columns are
-- choices of this profile.)
use Rattle.std.specs.Prelude.{◌≡◌, ◌+◌, ◌++◌, ◌||◌, ℕ, Bool, true, false, List, [], ◌∷◌, length, nat_le, slice_get, Some, None, if◌then◌else◌}
use Rattle.std.specs.List.{filter_map}
use Rattle.std.specs.declared.result.Result.TheVariants.{Ok, Err}
use Rattle.pig_value.specs.Trees.{KindTree, k_chars}
use Rattle.pig_schema.specs.FieldTrees.{FieldTree, tree_kind}
use Rattle.pig_syntax.specs.declared.trees.FieldRef.{FieldRef}
use Rattle.pig_typing.specs.declared.faults.CheckKind.{CheckKind}
use Rattle.pig_typing.specs.declared.faults.CheckKind.TheVariants as kind
use Rattle.pig_typing.specs.Columns.{RefersTo, RefersToNone, refer}
use Rattle.pig_typing.specs.Limits.{limited_row}
use Rattle.pig_typing.specs.Results.{Checked, ◌>>=◌}
use Rattle.pig_relations.specs.Aliases.{Aliases, RelationTree, relation_at, relation_of}
use Rattle.pig_relations.specs.Operators.{cube_columns}
use Rattle.pig_cube.specs.Dimensions.{is_in, other_positions}
use Rattle.pig_cube.specs.Laws.{cube_foreach, cube_group}
use Rattle.pig_check.specs.States.{Added, State}

-- ---- the dimensions

abbrev pub is_text : KindTree → Bool
is_text k_chars = true
is_text k = false

-- the fields that are meant, each a chararray, by their positions
pub data FieldsAre (columns : List FieldTree) : List FieldRef → List ℕ → Type 0 where
  no_fields : FieldsAre columns [] []
  more_fields : {r : FieldRef} {others : List FieldRef} {n : ℕ} {c : FieldTree} {ns : List ℕ}
      → RefersTo columns r n c → is_text (tree_kind c) ≡ true → FieldsAre columns others ns → FieldsAre columns (r ∷ others) (n ∷ ns)

-- one of them means no field, or a field of another kind
pub data FieldsAreNot (columns : List FieldTree) : List FieldRef → CheckKind → Type 0 where
  no_field : {r : FieldRef} {others : List FieldRef} {f : CheckKind} → RefersToNone columns r f → FieldsAreNot columns (r ∷ others) f
  no_text : {r : FieldRef} {others : List FieldRef} {n : ℕ} {c : FieldTree}
      → RefersTo columns r n c → is_text (tree_kind c) ≡ false → FieldsAreNot columns (r ∷ others) kind.BadKey
  later_field : {r : FieldRef} {others : List FieldRef} {f : CheckKind} → FieldsAreNot columns others f → FieldsAreNot columns (r ∷ others) f

-- a position stands there twice
abbrev pub repeats : List ℕ → Bool
repeats [] = false
repeats (n ∷ ns) = is_in ns n || repeats ns

abbrev pub most_dimensions : ℕ
most_dimensions = 8

abbrev pub are_few : List FieldRef → Bool
are_few dims = nat_le (length dims) most_dimensions

-- one dimension at least: none is of no grammar
pub data AreDims (columns : List FieldTree) (dims : List FieldRef) : List ℕ → Type 0 where
  are_dims : {n : ℕ} {ns : List ℕ} → are_few dims ≡ true → FieldsAre columns dims (n ∷ ns) → repeats (n ∷ ns) ≡ false → AreDims columns dims (n ∷ ns)

pub data AreDimsNot (columns : List FieldTree) (dims : List FieldRef) : CheckKind → Type 0 where
  too_many : are_few dims ≡ false → AreDimsNot columns dims kind.Unsupported
  no_dims : dims ≡ [] → AreDimsNot columns dims kind.BadKey
  no_fit : {f : CheckKind} → FieldsAreNot columns dims f → AreDimsNot columns dims f
  repeated : {ns : List ℕ} → FieldsAre columns dims ns → repeats ns ≡ true → AreDimsNot columns dims kind.BadKey

-- ---- the columns

-- those at the positions, in turn
abbrev pub columns_at : List FieldTree → List ℕ → List FieldTree
columns_at columns = filter_map (slice_get columns)

-- of the rows that the FOREACH makes: the dimensions, and then the other fields
abbrev pub expanded_columns : List FieldTree → List ℕ → List FieldTree
expanded_columns columns ns = columns_at columns ns ++ columns_at columns (other_positions ns (length columns))

-- ---- the statement

-- the input's node, the positions of the dimensions in its rows, which have so many fields, and the columns that the GROUP gives
pub record TypedCube : Type 0 where
  pub node : ℕ
  pub dims : List ℕ
  pub width : ℕ
  pub columns : List FieldTree

abbrev pub typed_cube : RelationTree → List ℕ → TypedCube
typed_cube r ns = record {
  node = r.node;
  dims = ns;
  width = length r.columns;
  columns = cube_columns (columns_at r.columns ns) (expanded_columns r.columns ns);
}

pub data Cubes (aliases : Aliases) : List ℕ → List FieldRef → TypedCube → Type 0 where
  cubes : {from : List ℕ} {dims : List FieldRef} {r : RelationTree} {ns : List ℕ} {within : List FieldTree}
      → relation_at from aliases ≡ Some r → AreDims r.columns dims ns → limited_row (typed_cube r ns).columns ≡ Ok within
      → Cubes aliases from dims (typed_cube r ns)

pub data CubesNot (aliases : Aliases) : List ℕ → List FieldRef → CheckKind → Type 0 where
  cube_of_none : {from : List ℕ} {dims : List FieldRef} → relation_at from aliases ≡ None → CubesNot aliases from dims kind.UnknownAlias
  cube_by_none : {from : List ℕ} {dims : List FieldRef} {r : RelationTree} {f : CheckKind}
      → relation_at from aliases ≡ Some r → AreDimsNot r.columns dims f → CubesNot aliases from dims f
  cube_past_limits : {from : List ℕ} {dims : List FieldRef} {r : RelationTree} {ns : List ℕ} {f : CheckKind}
      → relation_at from aliases ≡ Some r → AreDims r.columns dims ns → limited_row (typed_cube r ns).columns ≡ Err f → CubesNot aliases from dims f

-- the two nodes behind so many, and the relation
abbrev pub cubed : ℕ → List ℕ → Bool → TypedCube → Added
cubed n alias rollup t = record {
  ops = cube_foreach t.dims t.width rollup t.node ∷ cube_group t.dims n ∷ [];
  given = (alias, record { node = n + 1; columns = t.columns }) ∷ [];
}

-- ---- the same as functions

unfoldable pub as_dimension : ℕ × FieldTree → Checked ℕ
as_dimension p = if is_text (tree_kind p.1) then Ok p.0 else Err kind.BadKey

unfoldable pub field_at : List FieldTree → FieldRef → Checked ℕ
field_at columns r = do
  p ← refer columns r
  as_dimension p

unfoldable pub fields_of : List FieldTree → List FieldRef → Checked (List ℕ)
fields_of columns [] = Ok []
fields_of columns (r ∷ others) = do
  n ← field_at columns r
  ns ← fields_of columns others
  Ok (n ∷ ns)

unfoldable pub few : List FieldRef → Checked (Unit {0})
few dims = if are_few dims then Ok tt else Err kind.Unsupported

unfoldable pub once : List ℕ → Checked (List ℕ)
once [] = Err kind.BadKey
once (n ∷ ns) = if repeats (n ∷ ns) then Err kind.BadKey else Ok (n ∷ ns)

unfoldable pub dims_of : List FieldTree → List FieldRef → Checked (List ℕ)
dims_of columns dims = do
  not_many ← few dims
  ns ← fields_of columns dims
  once ns

unfoldable pub limited_cube : TypedCube → Checked TypedCube
limited_cube t = do
  within ← limited_row t.columns
  Ok t

unfoldable pub cube_of : Aliases → List ℕ → List FieldRef → Checked TypedCube
cube_of aliases from dims = do
  r ← relation_of aliases from
  ns ← dims_of r.columns dims
  limited_cube (typed_cube r ns)

unfoldable pub cube_at : State → List ℕ → List ℕ → Bool → List FieldRef → Checked Added
cube_at s alias from rollup dims = do
  t ← cube_of s.aliases from dims
  Ok (cubed (length s.nodes) alias rollup t)
