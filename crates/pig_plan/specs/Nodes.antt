-- The shape of a plan: which nodes name which, which are live, which are lists, and the ways that rows go through them.
use Rattle.std.specs.Prelude.{◌≡◌, ℕ, ◌==◌, ◌+◌, Bool, true, false, ◌&&◌, ◌||◌, not, List, [], ◌∷◌, ◌++◌, map, drop, length, slice_get, Option, Some, if◌then◌else◌}
use Rattle.std.specs.List.{filter, filter_map, flat_map, list_any, range_with_len}
use Rattle.std.specs.Option.{option_map, option_map_or}
use Rattle.pig_plan.specs.Plans.{Plan, PlanNode, PlanOp, p_load, p_filter, p_foreach, p_group_all, p_group, p_join, p_union, p_distinct, p_order, p_limit, p_store, p_assert, p_rank}
use Rattle.pig_plan.specs.Results.{result_at, results}

-- the operator of the node numbered k
abbrev pub op_at : Plan → ℕ → Option PlanOp
op_at plan k = option_map (λ node. node.op) (slice_get plan k)

-- the numbers of a node's inputs, in order
abbrev pub inputs_of : PlanOp → List ℕ
inputs_of (p_load path delim columns) = []
inputs_of (p_filter input cond) = input ∷ []
inputs_of (p_foreach input block) = input ∷ []
inputs_of (p_group_all input) = input ∷ []
inputs_of (p_group inputs) = map (λ i. i.input) inputs
inputs_of (p_join inputs side replicated) = map (λ i. i.input) inputs
inputs_of (p_union inputs) = inputs
inputs_of (p_distinct input) = input ∷ []
inputs_of (p_order input keys) = input ∷ []
inputs_of (p_limit input count) = input ∷ []
inputs_of (p_store input path delim) = input ∷ []
inputs_of (p_assert input cond message) = input ∷ []
inputs_of (p_rank input keys dense) = input ∷ []

abbrev pub names : PlanOp → ℕ → Bool
names o k = list_any (λ i. i == k) (inputs_of o)

-- no node but the one numbered k reads the node numbered i
abbrev pub IsOnlyUse : Plan → ℕ → ℕ → Type 0
IsOnlyUse p i k = (n : ℕ) (v : PlanNode) → slice_get p n ≡ Some v → names v.op i ≡ true → n ≡ k

abbrev pub is_store : PlanOp → Bool
is_store (p_store input path delim) = true
is_store o = false

-- A node is live where a STORE reaches it: it is a STORE, or a live node behind it names it.
abbrev pub is_used : ℕ → ℕ → Plan → Bool
is_used k n [] = false
is_used k n (node ∷ plan) = (names node.op k && (is_store node.op || is_used n (n + 1) plan)) || is_used k (n + 1) plan

abbrev pub is_live : Plan → ℕ → Bool
is_live plan k = option_map_or (λ node. is_store node.op || is_used k (k + 1) (drop (k + 1) plan)) (slice_get plan k) false

-- the numbers of the live nodes, in order
abbrev pub live : Plan → List ℕ
live plan = filter (is_live plan) (range_with_len 0 (length plan))

-- of each node, in order, whether it is live
abbrev pub live_marks : Plan → List Bool
live_marks plan = map (is_live plan) (range_with_len 0 (length plan))

-- how often live nodes name a node
abbrev pub uses : Plan → ℕ → ℕ
uses plan k = length (filter (λ i. i == k) (flat_map (λ n. option_map_or (λ node. inputs_of node.op) (slice_get plan n) []) (live plan)))

-- A sorted node is an ORDER, or an ASSERT on a sorted node.
abbrev pub sorts : PlanOp → (ℕ → Bool) → Bool
sorts (p_order input keys) sorted = true
sorts (p_assert input cond message) sorted = sorted input
sorts o sorted = false

abbrev pub sorted_marks : Plan → List Bool
sorted_marks = results (λ k node. sorts node.op) false

abbrev pub is_sorted : Plan → ℕ → Bool
is_sorted = result_at (λ k node. sorts node.op) false

-- A list node is a sorted node, a LIMIT on a sorted node, or an ASSERT on a list node. Any other relation is a bag.
abbrev pub lists : (ℕ → Bool) → PlanOp → (ℕ → Bool) → Bool
lists sorted (p_order input keys) listed = true
lists sorted (p_limit input count) listed = sorted input
lists sorted (p_assert input cond message) listed = listed input
lists sorted o listed = false

abbrev pub is_list : Plan → ℕ → Bool
is_list plan = result_at (λ k node. lists (is_sorted plan) node.op) false plan

-- A LIMIT that stands on no sorted node is bare.
abbrev pub is_bare : (ℕ → Bool) → PlanOp → Bool
is_bare sorted (p_limit input count) = not (sorted input)
is_bare sorted o = false

-- the live bare LIMITs, in order
abbrev pub bare_limits : Plan → Plan
bare_limits plan = filter (λ node. is_bare (is_sorted plan) node.op) (filter_map (slice_get plan) (live plan))

-- A source of rows is a LOAD or a boundary node, at which rows are brought together; the others work row by row.
abbrev pub is_source : PlanOp → Bool
is_source (p_load path delim columns) = true
is_source (p_group_all input) = true
is_source (p_group inputs) = true
is_source (p_join inputs side replicated) = true
is_source (p_distinct input) = true
is_source (p_order input keys) = true
is_source (p_limit input count) = true
is_source (p_rank input keys dense) = true
is_source o = false

-- A path of a node is a way from a source up to it: the number of the source, and those of the nodes behind it, which work row by row.
pub record Path : Type 0 where
  pub source : ℕ
  pub nodes : List ℕ

abbrev pub and_then : ℕ → Path → Path
and_then k path = record { source = path.source; nodes = path.nodes ++ k ∷ [] }

-- a source has the path of itself alone, another node those of its inputs, each with itself behind
abbrev pub ways : ℕ → PlanOp → (ℕ → List Path) → List Path
ways k o paths = if is_source o then record { source = k; nodes = [] } ∷ [] else flat_map (λ i. map (and_then k) (paths i)) (inputs_of o)

abbrev pub paths_of : Plan → ℕ → List Path
paths_of plan = result_at (λ k node. ways k node.op) [] plan

-- A boundary node brings rows of all its inputs together.
abbrev pub is_boundary : PlanOp → Bool
is_boundary (p_load path delim columns) = false
is_boundary o = is_source o

-- A path with the number of the input that it enters: inputs are numbered by their places, and each has the paths of its node.
pub record Entering : Type 0 where
  pub input : ℕ
  pub path : Path

abbrev pub entering : (ℕ → List Path) → ℕ → List ℕ → List Entering
entering paths i [] = []
entering paths i (node ∷ nodes) = map (λ path. record { input = i; path = path }) (paths node) ++ entering paths (i + 1) nodes

-- the paths on which rows are read for a node: those of a boundary node's inputs, and of a STORE
abbrev pub read_paths : Plan → ℕ → PlanOp → List Path
read_paths plan k o = if is_boundary o then flat_map (paths_of plan) (inputs_of o) else if is_store o then paths_of plan k else []

-- the task paths of a plan: those on which rows come from a source to a live boundary node or to a STORE
abbrev pub task_paths : Plan → List Path
task_paths plan = flat_map (λ k. option_map_or (read_paths plan k) (op_at plan k) []) (live plan)

-- how often the rows of a source are read: once for each path that starts there and ends at a live boundary node's input or a STORE
abbrev pub reads_of : Plan → ℕ → ℕ
reads_of plan k = length (filter (λ path. path.source == k) (task_paths plan))
