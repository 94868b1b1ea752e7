-- UNION: its inputs have equally many columns, of the same kinds up to int with long, and where a column widens a FOREACH before it casts.
-- (Pig Latin Basics: "UNION". That other inputs are refused is a choice of this profile.)
use Rattle.std.specs.Prelude.{◌≡◌, ◌+◌, ℕ, Bool, true, false, ◌||◌, List, [], ◌∷◌, map, length, nat_le, Option, Some, None, if◌then◌else◌}
use Rattle.std.specs.Option.{option_map}
use Rattle.std.specs.declared.result.Result.TheVariants.{Ok, Err}
use Rattle.pig_value.specs.Trees.{KindTree}
use Rattle.pig_schema.specs.FieldTrees.{FieldTree, tree_kind, schema_tree}
use Rattle.pig_typed.specs.BlockKinds.{row_kinds}
use Rattle.pig_typed.specs.Typed.{TypedBlock, TypedItem, block_typed, x_field}
use Rattle.pig_plan.specs.NodeKinds.{Before, RowKinds}
use Rattle.pig_typing.specs.declared.faults.CheckKind.{CheckKind}
use Rattle.pig_typing.specs.declared.faults.CheckKind.TheVariants as kind
use Rattle.pig_typing.specs.Parts.{plain_item}
use Rattle.pig_typing.specs.Results.{Checked, due, ◌>>=◌}
use Rattle.pig_relations.specs.Aliases.{Aliases, RelationTree, relation_at, relation_of}
use Rattle.pig_relations.specs.Together.{all_together, of_kinds, widens, widened}
use Rattle.pig_relations.specs.declared.unions.TypedUnion as code
use Rattle.pig_relations.specs.declared.unions.UnionInput as code_input

-- an input: its node, and the block of the FOREACH that brings it to the kinds of the UNION, where a column widens
pub record UnionInput : Type 0 where
  pub node : ℕ
  pub widening : Option TypedBlock

pub record TypedUnion : Type 0 where
  pub inputs : List UnionInput
  pub columns : List FieldTree

abbrev pub union_input_tree : code_input.UnionInput → UnionInput
union_input_tree i = record { node = i.node; widening = option_map block_typed i.widening }

abbrev pub union_tree : code.TypedUnion → TypedUnion
union_tree u = record { inputs = map union_input_tree u.inputs; columns = schema_tree u.columns }

-- ---- the relations

pub data AllMeant (aliases : Aliases) : List (List ℕ) → List RelationTree → Type 0 where
  none_meant : AllMeant aliases [] []
  more_meant : {name : List ℕ} {names : List (List ℕ)} {r : RelationTree} {rs : List RelationTree}
      → relation_at name aliases ≡ Some r → AllMeant aliases names rs → AllMeant aliases (name ∷ names) (r ∷ rs)

-- one of the aliases is unknown
pub data AllMeantNot (aliases : Aliases) : List (List ℕ) → Type 0 where
  here_unknown : {name : List ℕ} {names : List (List ℕ)} → relation_at name aliases ≡ None → AllMeantNot aliases (name ∷ names)
  later_unknown : {name : List ℕ} {names : List (List ℕ)} → AllMeantNot aliases names → AllMeantNot aliases (name ∷ names)

-- ---- what is widened

abbrev pub column_kinds : RelationTree → List KindTree
column_kinds r = map tree_kind r.columns

abbrev pub any_widens : List KindTree → List KindTree → Bool
any_widens [] ls = false
any_widens (k ∷ ks) [] = false
any_widens (k ∷ ks) (l ∷ ls) = widens k l || any_widens ks ls

-- the fields of a row from a place on, each of the kind at its place
abbrev pub widened_fields : ℕ → List KindTree → List KindTree → List TypedItem
widened_fields n [] ls = []
widened_fields n (k ∷ ks) [] = []
widened_fields n (k ∷ ks) (l ∷ ls) = plain_item (widened k l (x_field n)) ∷ widened_fields (n + 1) ks ls

-- the block that brings rows of the first kinds to the second ones, where they are others
abbrev pub widening : List KindTree → List KindTree → Option TypedBlock
widening ks ls = if any_widens ks ls then Some (record { steps = []; items = widened_fields 0 ks ls }) else None

abbrev pub union_input : List KindTree → RelationTree → UnionInput
union_input ks r = record { node = r.node; widening = widening (column_kinds r) ks }

-- the names are those of the first input
abbrev pub first_columns : List RelationTree → List FieldTree
first_columns [] = []
first_columns (r ∷ rs) = r.columns

abbrev pub union_of_kinds : List RelationTree → List KindTree → TypedUnion
union_of_kinds rs ks = record { inputs = map (union_input ks) rs; columns = of_kinds ks (first_columns rs) }

-- Two inputs at least: one alone is of no grammar. ONSCHEMA is left out.
pub data Unions (aliases : Aliases) : Bool → List (List ℕ) → TypedUnion → Type 0 where
  unions : {names : List (List ℕ)} {rs : List RelationTree} {ks : List KindTree}
      → nat_le 2 (length names) ≡ true → AllMeant aliases names rs → all_together (map column_kinds rs) ≡ Some ks
      → Unions aliases false names (union_of_kinds rs ks)

pub data UnionsNot (aliases : Aliases) : Bool → List (List ℕ) → CheckKind → Type 0 where
  on_schema : {names : List (List ℕ)} → UnionsNot aliases true names kind.Unsupported
  of_one_input : {onschema : Bool} {names : List (List ℕ)} → nat_le 2 (length names) ≡ false → UnionsNot aliases onschema names kind.SchemaMismatch
  of_unknown : {onschema : Bool} {names : List (List ℕ)} → AllMeantNot aliases names → UnionsNot aliases onschema names kind.UnknownAlias
  of_other_columns : {onschema : Bool} {names : List (List ℕ)} {rs : List RelationTree}
      → AllMeant aliases names rs → all_together (map column_kinds rs) ≡ None → UnionsNot aliases onschema names kind.SchemaMismatch

-- ---- the same as functions

unfoldable pub relations_of : Aliases → List (List ℕ) → Checked (List RelationTree)
relations_of aliases [] = Ok []
relations_of aliases (name ∷ names) = do
  r ← relation_of aliases name
  rs ← relations_of aliases names
  Ok (r ∷ rs)

unfoldable pub of_two : Bool → ℕ → Checked (Unit {0})
of_two true count = Err kind.Unsupported
of_two false count = if nat_le 2 count then Ok tt else Err kind.SchemaMismatch

unfoldable pub agreed_union : List RelationTree → Checked TypedUnion
agreed_union rs = do
  ks ← due kind.SchemaMismatch (all_together (map column_kinds rs))
  Ok (union_of_kinds rs ks)

unfoldable pub union_of : Aliases → Bool → List (List ℕ) → Checked TypedUnion
union_of aliases onschema names = do
  two ← of_two onschema (length names)
  rs ← relations_of aliases names
  agreed_union rs

-- ---- inputs over nodes

-- the kinds of rows behind the FOREACH, where there is one
abbrev pub widened_row : Option TypedBlock → RowKinds → Option RowKinds
widened_row (Some block) row = row_kinds block row
widened_row None row = Some row

-- the input's node gives rows that are of these kinds, or that the FOREACH brings to them
pub record GivesRows (before : Before) (kinds : RowKinds) (i : UnionInput) : Type 0 where
  pub row : RowKinds
  pub rows : before i.node ≡ Some row
  pub widened : widened_row i.widening row ≡ Some kinds
