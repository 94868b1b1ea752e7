-- The operators over relations that go by keys: the node that each gives, and the columns of its rows.
-- (Pig Latin Basics: "GROUP", "COGROUP", "JOIN (inner)", "JOIN (outer)", "CUBE". USING is left out here but for replicated JOINs, and names of
-- fields are choices of this profile.)
use Rattle.std.specs.Prelude.{◌≡◌, ◌≢◌, ◌&&◌, ℕ, Bool, true, false, List, [], ◌∷◌, map, length, codes, Option, Some, None, if◌then◌else◌}
use Rattle.std.specs.List.{flat_map}
use Rattle.std.specs.Str.{bytes_eq}
use Rattle.std.specs.declared.result.Result.TheVariants.{Ok, Err}
use Rattle.pig_value.specs.Trees.{k_chars, k_tuple, k_bag}
use Rattle.pig_value.specs.declared.operators.Side.{Side}
use Rattle.pig_value.specs.declared.operators.Side.TheVariants as side
use Rattle.pig_schema.specs.FieldTrees.{FieldTree, schema_tree}
use Rattle.pig_plan.specs.NodeKinds.{is_join}
use Rattle.pig_plan.specs.Plans.{PlanOp, op_of, p_group, p_group_all, p_join}
use Rattle.pig_typing.specs.declared.faults.CheckKind.{CheckKind}
use Rattle.pig_typing.specs.declared.faults.CheckKind.TheVariants as kind
use Rattle.pig_typing.specs.Parts.{under_name}
use Rattle.pig_typing.specs.Limits.{limited_row}
use Rattle.pig_typing.specs.Results.{Checked, ◌>>=◌}
use Rattle.pig_typing.specs.Written.{of_fields, scalar_column, with_name}
use Rattle.pig_relations.specs.Aliases.{Aliases, RelationTree, relation_at, relation_of}
use Rattle.pig_relations.specs.Keyed.{KeyedForm, TypedInput, Keyable, TypesKeyed, TypesKeyedNot, key_columns, keyed, keyed_of}
use Rattle.pig_relations.specs.Together.{of_kinds}
use Rattle.pig_relations.specs.declared.operators.TypedOp as code

-- the operator of a node, and the columns of its rows
pub record TypedOp : Type 0 where
  pub op : PlanOp
  pub columns : List FieldTree

abbrev pub op_tree : code.TypedOp → TypedOp
op_tree t = record { op = op_of t.op; columns = schema_tree t.columns }

-- nothing stands behind USING, which is left out
unfoldable pub without : Option (List ℕ) → Checked (Unit {0})
without None = Ok tt
without (Some word) = Err kind.Unsupported

-- an operator, where its columns are within the limits
unfoldable pub limited_op : PlanOp → List FieldTree → Checked TypedOp
limited_op op columns = do
  within ← limited_row columns
  Ok (record { op = op; columns = columns })

-- ---- GROUP and COGROUP

-- One key is the column `group`; several are a tuple of that name. Their names are those of the first input's keys.
abbrev pub group_column : List FieldTree → FieldTree
group_column (c ∷ []) = with_name (codes "group") c
group_column columns = with_name (codes "group") (of_fields k_tuple columns)

-- an input's rows, in a bag with its alias as its name
abbrev pub bag_column : List ℕ → List FieldTree → FieldTree
bag_column alias columns = with_name alias (of_fields k_bag columns)

abbrev pub first_keys : List TypedInput → List FieldTree
first_keys [] = []
first_keys (t ∷ ts) = key_columns t

abbrev pub group_columns : Keyable → List FieldTree
group_columns k = group_column (of_kinds k.kinds (first_keys k.inputs)) ∷ map (λ t. bag_column t.alias t.relation.columns) k.inputs

abbrev pub group_op : Keyable → PlanOp
group_op k = p_group (map (keyed k.kinds) k.inputs)

pub data Groups (aliases : Aliases) : List KeyedForm → Option (List ℕ) → TypedOp → Type 0 where
  groups : {is : List KeyedForm} {k : Keyable} {columns : List FieldTree}
      → TypesKeyed aliases is k → limited_row (group_columns k) ≡ Ok columns → Groups aliases is None (record { op = group_op k; columns = group_columns k })

pub data GroupsNot (aliases : Aliases) : List KeyedForm → Option (List ℕ) → CheckKind → Type 0 where
  group_using : {is : List KeyedForm} {word : List ℕ} → GroupsNot aliases is (Some word) kind.Unsupported
  group_untyped : {is : List KeyedForm} {hint : Option (List ℕ)} {f : CheckKind} → TypesKeyedNot aliases is f → GroupsNot aliases is hint f
  group_past_limits : {is : List KeyedForm} {hint : Option (List ℕ)} {k : Keyable} {f : CheckKind}
      → TypesKeyed aliases is k → limited_row (group_columns k) ≡ Err f → GroupsNot aliases is hint f

-- ---- GROUP ALL

-- the one key is the chararray `all`
abbrev pub group_all_columns : List ℕ → RelationTree → List FieldTree
group_all_columns alias r = with_name (codes "group") (scalar_column k_chars) ∷ bag_column alias r.columns ∷ []

pub data GroupsAll (aliases : Aliases) : List ℕ → Option (List ℕ) → TypedOp → Type 0 where
  groups_all : {alias : List ℕ} {r : RelationTree} {columns : List FieldTree}
      → relation_at alias aliases ≡ Some r → limited_row (group_all_columns alias r) ≡ Ok columns
      → GroupsAll aliases alias None (record { op = p_group_all r.node; columns = group_all_columns alias r })

pub data GroupsAllNot (aliases : Aliases) : List ℕ → Option (List ℕ) → CheckKind → Type 0 where
  group_all_using : {alias word : List ℕ} → GroupsAllNot aliases alias (Some word) kind.Unsupported
  group_all_unknown : {alias : List ℕ} {hint : Option (List ℕ)} → relation_at alias aliases ≡ None → GroupsAllNot aliases alias hint kind.UnknownAlias
  group_all_past_limits : {alias : List ℕ} {hint : Option (List ℕ)} {r : RelationTree} {f : CheckKind}
      → relation_at alias aliases ≡ Some r → limited_row (group_all_columns alias r) ≡ Err f → GroupsAllNot aliases alias hint f

-- ---- JOIN

-- the columns of an input, each with the alias and `::` before its name, where it has one
abbrev pub columns_under : TypedInput → List FieldTree
columns_under t = map (under_name (Some t.alias)) t.relation.columns

abbrev pub join_columns : Keyable → List FieldTree
join_columns k = flat_map columns_under k.inputs

abbrev pub join_op : Side → Bool → Keyable → PlanOp
join_op side replicated k = p_join (map (keyed k.kinds) k.inputs) side replicated

-- the word behind USING of a JOIN that holds every input but the first in memory
abbrev pub replicated_word : List ℕ
replicated_word = codes "replicated"

-- Tuples of a later input without a partner are known only once all of the first input is seen; so RIGHT and FULL are never replicated.
abbrev pub may_replicate : Side → Bool
may_replicate side.Inner = true
may_replicate side.Left = true
may_replicate side.Right = false
may_replicate side.Full = false

-- whether a JOIN of a side, with a word behind USING or none, is replicated
pub data JoinedBy : Side → Option (List ℕ) → Bool → Type 0 where
  by_default : {side : Side} → JoinedBy side None false
  by_replicated : {side : Side} {word : List ℕ} → word ≡ replicated_word → may_replicate side ≡ true → JoinedBy side (Some word) true

pub data JoinedByNot : Side → Option (List ℕ) → CheckKind → Type 0 where
  other_word : {side : Side} {word : List ℕ} → word ≢ replicated_word → JoinedByNot side (Some word) kind.Unsupported
  other_side : {side : Side} {word : List ℕ} → may_replicate side ≡ false → JoinedByNot side (Some word) kind.Unsupported

-- Two inputs at least, and just two where the side is not INNER.
pub data Joins (aliases : Aliases) : List KeyedForm → Side → Option (List ℕ) → TypedOp → Type 0 where
  joins : {is : List KeyedForm} {side : Side} {hint : Option (List ℕ)} {replicated : Bool} {k : Keyable}
      {columns : List FieldTree} → JoinedBy side hint replicated → is_join side replicated (length is) ≡ true
      → TypesKeyed aliases is k → limited_row (join_columns k) ≡ Ok columns
      → Joins aliases is side hint (record { op = join_op side replicated k; columns = join_columns k })

pub data JoinsNot (aliases : Aliases) : List KeyedForm → Side → Option (List ℕ) → CheckKind → Type 0 where
  joined_by_none : {is : List KeyedForm} {side : Side} {hint : Option (List ℕ)} {f : CheckKind}
      → JoinedByNot side hint f → JoinsNot aliases is side hint f
  join_of_side : {is : List KeyedForm} {side : Side} {hint : Option (List ℕ)} {replicated : Bool}
      → JoinedBy side hint replicated → is_join side replicated (length is) ≡ false
      → JoinsNot aliases is side hint kind.Unsupported
  join_untyped : {is : List KeyedForm} {side : Side} {hint : Option (List ℕ)} {f : CheckKind}
      → TypesKeyedNot aliases is f → JoinsNot aliases is side hint f
  join_past_limits : {is : List KeyedForm} {side : Side} {hint : Option (List ℕ)} {k : Keyable} {f : CheckKind}
      → TypesKeyed aliases is k → limited_row (join_columns k) ≡ Err f → JoinsNot aliases is side hint f

-- ---- CUBE

-- the columns of the groups of a cube: the dimensions, as a GROUP by them names them, and a bag of rows with these columns
abbrev pub cube_columns : List FieldTree → List FieldTree → List FieldTree
cube_columns dims row = group_column dims ∷ bag_column (codes "cube") row ∷ []

-- ---- the same as functions

unfoldable pub group_of : Aliases → List KeyedForm → Option (List ℕ) → Checked TypedOp
group_of aliases is hint = do
  plain ← without hint
  k ← keyed_of aliases is
  limited_op (group_op k) (group_columns k)

unfoldable pub group_all_of : Aliases → List ℕ → Option (List ℕ) → Checked TypedOp
group_all_of aliases alias hint = do
  plain ← without hint
  r ← relation_of aliases alias
  limited_op (p_group_all r.node) (group_all_columns alias r)

unfoldable pub joined_by : Side → Option (List ℕ) → Checked Bool
joined_by side None = Ok false
joined_by side (Some word) = if bytes_eq word replicated_word && may_replicate side then Ok true else Err kind.Unsupported

unfoldable pub sided : Side → Bool → ℕ → Checked (Unit {0})
sided side replicated count = if is_join side replicated count then Ok tt else Err kind.Unsupported

unfoldable pub join_of : Aliases → List KeyedForm → Side → Option (List ℕ) → Checked TypedOp
join_of aliases is side hint = do
  replicated ← joined_by side hint
  two ← sided side replicated (length is)
  k ← keyed_of aliases is
  limited_op (join_op side replicated k) (join_columns k)
