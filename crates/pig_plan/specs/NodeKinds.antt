-- Which nodes are valid after others, and the kinds of the rows that each gives.
use Rattle.std.specs.Prelude.{ℕ, ◌==◌, Bool, true, false, ◌&&◌, not, List, [], ◌∷◌, map, length, nat_lt, nat_le, Option, Some, None, if◌then◌else◌}
use Rattle.std.specs.List.{flat_map, list_all}
use Rattle.std.specs.Option.{option_map_or, unwrap_or}
use Rattle.pig_value.specs.declared.inputs.Column.{Column}
use Rattle.pig_value.specs.declared.operators.Side.{Side}
use Rattle.pig_value.specs.declared.operators.Side.TheVariants as side
use Rattle.pig_value.specs.FieldReader.{all_of}
use Rattle.pig_value.specs.Kinds.{has_bag_or_map, kind_eq, kinds_eq}
use Rattle.pig_value.specs.Trees.{KindTree, k_boolean, k_long, k_chars, k_tuple, k_bag, kinds_of, kind_tree}
use Rattle.pig_typed.specs.declared.blocks.SortKey.{SortKey}
use Rattle.pig_typed.specs.BlockKinds.{are_keys, row_kinds}
use Rattle.pig_typed.specs.ExprKinds.{expr_kind}
use Rattle.pig_typed.specs.Typed.{Typed, TypedBlock}
use Rattle.pig_plan.specs.Plans.{Keyed, Plan, PlanNode, PlanOp, p_load, p_filter, p_foreach, p_group_all, p_group, p_join, p_union, p_distinct, p_order, p_limit, p_store, p_assert, p_rank}
use Rattle.pig_plan.specs.Results.{result_at, results}
use Rattle.pig_value.specs.Results.{◌>>=◌}

-- the kinds of a row's fields, and those of the rows of the nodes before, where they are relations
abbrev pub RowKinds : Type 0
RowKinds = List KindTree

abbrev pub Before : Type 0
Before = ℕ → Option RowKinds

abbrev pub only_if : {R : Type 0} → Bool → Option R → Option R
only_if test found = if test then found else None

-- each position is below the next
abbrev pub stands_first : Column → List Column → Bool
stands_first c [] = true
stands_first c (d ∷ columns) = nat_lt c.position d.position

abbrev pub ascend : List Column → Bool
ascend [] = true
ascend (c ∷ columns) = stands_first c columns && ascend columns

-- the condition is boolean on such rows
abbrev pub is_test : RowKinds → Typed → Bool
is_test row cond = option_map_or (kind_eq k_boolean) (expr_kind cond row []) false

-- fields of such rows that may be sorted by, one at least
abbrev pub is_sorting : RowKinds → List SortKey → Bool
is_sorting row keys = nat_lt 0 (length keys) && are_keys row keys

-- the kind of a key, which holds no bag and no map
abbrev pub key_kind : RowKinds → Typed → Option KindTree
key_kind row e = do
  k ← expr_kind e row []
  only_if (not (has_bag_or_map k)) (Some k)

-- the kinds of an input's keys, of which there is one at least
abbrev pub key_kinds : RowKinds → List Typed → Option RowKinds
key_kinds row keys = do
  found ← all_of (key_kind row) keys
  only_if (nat_lt 0 (length found)) (Some found)

-- an input by key: the kinds of its rows, and of its keys
pub record KeyedKinds : Type 0 where
  pub row : RowKinds
  pub keys : RowKinds

abbrev pub keyed_kinds : Before → Keyed → Option KeyedKinds
keyed_kinds before input = do
  row ← before input.input
  keys ← key_kinds row input.keys
  Some (record { row = row; keys = keys })

-- the keys of all inputs are of the kinds of the first one's
abbrev pub keys_agree : List KeyedKinds → Bool
keys_agree [] = false
keys_agree (first ∷ others) = list_all (λ other. kinds_eq (kinds_of first.keys) (kinds_of other.keys)) others

-- the inputs by key, of which there is one at least, whose keys agree in number and kinds with those of the first
abbrev pub all_keyed : Before → List Keyed → Option (List KeyedKinds)
all_keyed before inputs = do
  found ← all_of (keyed_kinds before) inputs
  only_if (keys_agree found) (Some found)

-- the kind of a key of these parts: one part is itself, several are a tuple
abbrev pub group_kind : RowKinds → KindTree
group_kind (k ∷ []) = k
group_kind ks = k_tuple (kinds_of ks)

abbrev pub keyed_bags : List KeyedKinds → RowKinds
keyed_bags found = map (λ input. k_bag (kinds_of input.row)) found

abbrev pub group_kinds : List KeyedKinds → RowKinds
group_kinds [] = []
group_kinds (first ∷ others) = group_kind first.keys ∷ keyed_bags (first ∷ others)

-- a side other than INNER has just two inputs, and a replicated join is INNER or LEFT
abbrev pub is_join : Side → Bool → ℕ → Bool
is_join side.Inner replicated n = nat_le 2 n
is_join side.Left replicated n = n == 2
is_join s replicated n = n == 2 && not replicated

-- the inputs of a UNION, two at least and all of the kinds of the first
abbrev pub are_alike : RowKinds → List RowKinds → Bool
are_alike first others = list_all (λ other. kinds_eq (kinds_of first) (kinds_of other)) others

-- each of these is a relation, and of such kinds
abbrev pub are_all_alike : Before → RowKinds → List ℕ → Bool
are_all_alike before first others = option_map_or (are_alike first) (all_of before others) false

abbrev pub union_kinds : List RowKinds → Option RowKinds
union_kinds [] = None
union_kinds (first ∷ others) = only_if (nat_lt 0 (length others) && are_alike first others) (Some first)

-- What a valid node gives: the kinds of its rows, or nothing for a STORE, which no node may name.
abbrev pub NodeGives : Type 0
NodeGives = Option (Option RowKinds)

abbrev pub load_gives : List Column → NodeGives
load_gives columns = only_if (ascend columns) (Some (Some (map (λ column. kind_tree column.kind) columns)))

-- FILTER and ASSERT: the rows of the input, on which the condition is boolean
abbrev pub tested_gives : Before → ℕ → Typed → NodeGives
tested_gives before input cond = do
  row ← before input
  only_if (is_test row cond) (Some (Some row))

abbrev pub foreach_gives : Before → ℕ → TypedBlock → NodeGives
foreach_gives before input block = do
  row ← before input
  given ← row_kinds block row
  Some (Some given)

abbrev pub group_all_gives : Before → ℕ → NodeGives
group_all_gives before input = do
  row ← before input
  Some (Some (k_chars ∷ k_bag (kinds_of row) ∷ []))

abbrev pub group_gives : Before → List Keyed → NodeGives
group_gives before inputs = do
  found ← all_keyed before inputs
  Some (Some (group_kinds found))

-- JOIN, whose inputs are never INNER
abbrev pub join_gives : Before → List Keyed → Side → Bool → NodeGives
join_gives before inputs s replicated = do
  found ← all_keyed before inputs
  only_if (is_join s replicated (length found) && list_all (λ input. not input.inner) inputs) (Some (Some (flat_map (λ input. input.row) found)))

abbrev pub union_gives : Before → List ℕ → NodeGives
union_gives before inputs = do
  found ← all_of before inputs
  given ← union_kinds found
  Some (Some given)

-- DISTINCT and LIMIT: rows of the input
abbrev pub same_gives : Before → ℕ → NodeGives
same_gives before input = do
  row ← before input
  Some (Some row)

abbrev pub order_gives : Before → ℕ → List SortKey → NodeGives
order_gives before input keys = do
  row ← before input
  only_if (is_sorting row keys) (Some (Some row))

abbrev pub store_gives : Before → ℕ → NodeGives
store_gives before input = do
  row ← before input
  Some None

-- RANK: the rows behind their rank, a long
abbrev pub rank_gives : Before → ℕ → List SortKey → NodeGives
rank_gives before input keys = do
  row ← before input
  only_if (is_sorting row keys) (Some (Some (k_long ∷ row)))

abbrev pub node_gives : Before → PlanOp → NodeGives
node_gives before (p_load path delim columns) = load_gives columns
node_gives before (p_filter input cond) = tested_gives before input cond
node_gives before (p_foreach input block) = foreach_gives before input block
node_gives before (p_group_all input) = group_all_gives before input
node_gives before (p_group inputs) = group_gives before inputs
node_gives before (p_join inputs s replicated) = join_gives before inputs s replicated
node_gives before (p_union inputs) = union_gives before inputs
node_gives before (p_distinct input) = same_gives before input
node_gives before (p_order input keys) = order_gives before input keys
node_gives before (p_limit input count) = same_gives before input
node_gives before (p_store input path delim) = store_gives before input
node_gives before (p_assert input cond message) = tested_gives before input cond
node_gives before (p_rank input keys dense) = rank_gives before input keys

-- the kinds of the rows of each node, where it is a relation
abbrev pub kinds_step : ℕ → PlanNode → Before → Option RowKinds
kinds_step k node before = unwrap_or (node_gives before node.op) None

abbrev pub kinds_table : Plan → List (Option RowKinds)
kinds_table = results kinds_step None

abbrev pub kinds_at : Plan → Before
kinds_at = result_at kinds_step None
