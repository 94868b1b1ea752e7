-- The shape of small plans, and what they mean over inputs, computed.
use Rattle.std.specs.Prelude.{◌≡◌, ℕ, true, false, List, [], ◌∷◌, codes, None, Some, map, refl}
use Rattle.pig_value.specs.declared.inputs.Input.{Input}
use Rattle.pig_value.specs.Trees.{Tree, v_chars, v_null, v_bag, tuples_of, k_chars, k_bag, kinds_of}
use Rattle.pig_typed.specs.Typed.{TypedBlock, x_bool, x_field}
use Rattle.pig_plan.specs.Asserts.{first_unmet, unmet}
use Rattle.pig_plan.specs.Meaning.{meaning}
use Rattle.pig_plan.specs.Nodes.{bare_limits, is_list, is_sorted, Path, entering, live, op_at, paths_of, reads_of, uses}
use Rattle.pig_plan.specs.NodeKinds.{kinds_at}
use Rattle.pig_plan.specs.Plans.{Plan, PlanNode, PlanOp, p_load, p_filter, p_foreach, p_group_all, p_union, p_distinct, p_order, p_limit, p_store, p_assert}
use Rattle.pig_plan.specs.Steps.{none_folds, through}
use Rattle.pig_plan.specs.Valid.{fits}

abbrev node : ℕ → PlanOp → PlanNode
node statement o = record { op = o; statement = statement }

abbrev load : PlanNode
load = node 1 (p_load (codes "in") 9 [])

abbrev stored : ℕ → PlanNode
stored input = node 9 (p_store input (codes "out") 9)

-- `u = UNION a, a;` is stored, and `d = DISTINCT a;` is not
abbrev twice : Plan
twice = load ∷ node 2 (p_union (0 ∷ 0 ∷ [])) ∷ node 3 (p_distinct 0) ∷ stored 1 ∷ []

live_of_twice : live twice ≡ 0 ∷ 1 ∷ 3 ∷ []
live_of_twice = refl

-- the LOAD is named twice by a live node, and by one that is not; its lines are read once for each of two paths
used_twice : uses twice 0 ≡ 2
used_twice = refl

abbrev way : ℕ → List ℕ → Path
way source nodes = record { source = source; nodes = nodes }

two_paths : paths_of twice 1 ≡ way 0 (1 ∷ []) ∷ way 0 (1 ∷ []) ∷ []
two_paths = refl

read_twice : reads_of twice 0 ≡ 2
read_twice = refl

-- ORDER, an ASSERT on it and a LIMIT on that are lists; a DISTINCT is none, and a LIMIT on it is bare
abbrev ordered : Plan
ordered = load ∷ node 2 (p_order 0 []) ∷ node 3 (p_assert 1 (x_bool true) None) ∷ node 4 (p_limit 2 5) ∷ node 5 (p_distinct 3) ∷ node 6 (p_limit 4 5) ∷ stored 3 ∷ stored 5 ∷ []

sorted_nodes : map (is_sorted ordered) (1 ∷ 2 ∷ 3 ∷ 4 ∷ []) ≡ true ∷ true ∷ false ∷ false ∷ []
sorted_nodes = refl

listed_nodes : map (is_list ordered) (0 ∷ 1 ∷ 2 ∷ 3 ∷ 4 ∷ 5 ∷ []) ≡ false ∷ true ∷ true ∷ true ∷ false ∷ false ∷ []
listed_nodes = refl

bare_alone : map (λ n. n.statement) (bare_limits ordered) ≡ 6 ∷ []
bare_alone = refl

-- a boundary node begins paths of its own, and ends those of its input
paths_from_boundaries : paths_of ordered 2 ≡ way 1 (2 ∷ []) ∷ []
paths_from_boundaries = refl

-- each path with the place of the input that it enters: node 1, which has two, and the LOAD
entering_inputs : map (λ e. e.input) (entering (paths_of twice) 0 (1 ∷ 0 ∷ [])) ≡ 0 ∷ 0 ∷ 1 ∷ []
entering_inputs = refl

-- an operator by its number
operators : map (op_at twice) (1 ∷ 4 ∷ []) ≡ Some (p_union (0 ∷ 0 ∷ [])) ∷ None ∷ []
operators = refl

-- lines of no field: two pieces of three lines, each cut by itself, the last of which needs no line end
abbrev inputs : List Input
inputs = record { path = codes "in"; pieces = codes "a" ∷ (codes "b\nc\n") ∷ [] } ∷ []

loaded : meaning twice inputs [] 0 ≡ [] ∷ [] ∷ [] ∷ []
loaded = refl

doubled : meaning twice inputs [] 3 ≡ [] ∷ [] ∷ [] ∷ [] ∷ [] ∷ [] ∷ []
doubled = refl

once : meaning twice inputs [] 2 ≡ [] ∷ []
once = refl

-- a path that no input has means no rows
of_no_input : meaning twice [] [] 3 ≡ []
of_no_input = refl

-- `FILTER a BY false` keeps nothing, and GROUP ALL of nothing has no group
abbrev grouped : Plan
grouped = load ∷ node 2 (p_group_all 0) ∷ node 3 (p_filter 0 (x_bool false)) ∷ node 4 (p_group_all 2) ∷ stored 1 ∷ stored 3 ∷ []

one_group : meaning grouped inputs [] 4 ≡ (v_chars (codes "all") ∷ v_bag (tuples_of ([] ∷ [] ∷ [] ∷ [])) ∷ []) ∷ []
one_group = refl

no_group : meaning grouped inputs [] 5 ≡ []
no_group = refl

-- rows on a path: a FILTER takes them all, and the FOREACH of a GROUP that folds hands them on
filtered : through none_folds grouped (2 ∷ []) ([] ∷ [] ∷ []) ≡ []
filtered = refl

abbrev one_item : TypedBlock
one_item = record { steps = []; items = record { value = x_field 0; flatten = false; width = 1 } ∷ [] }

abbrev generated : Plan
generated = load ∷ node 2 (p_group_all 0) ∷ node 3 (p_foreach 1 one_item) ∷ stored 2 ∷ []

abbrev pair : List Tree
pair = v_chars (codes "all") ∷ v_null ∷ []

put_through : through none_folds generated (2 ∷ 3 ∷ []) (pair ∷ []) ≡ (v_chars (codes "all") ∷ []) ∷ []
put_through = refl

handed_on : through (λ k. Some one_item) generated (2 ∷ 3 ∷ []) (pair ∷ []) ≡ pair ∷ []
handed_on = refl

-- the ASSERT that nothing passes is not met where there are rows
abbrev asserted : Plan
asserted = load ∷ node 2 (p_assert 0 (x_bool false) None) ∷ node 3 (p_assert 1 (x_bool true) None) ∷ node 4 (p_filter 2 (x_bool false)) ∷ node 5 (p_assert 3 (x_bool false) None) ∷ stored 4 ∷ []

one_unmet : unmet asserted inputs [] ≡ 2 ∷ []
one_unmet = refl

first_one : first_unmet asserted inputs [] ≡ Some 2
first_one = refl

all_met : first_unmet asserted [] [] ≡ None
all_met = refl

kinds_of_groups : kinds_at grouped 1 ≡ Some (k_chars ∷ k_bag (kinds_of []) ∷ [])
kinds_of_groups = refl

-- nodes that fit, and that do not: a STORE is no input, nor is a node that does not stand before; each LIMIT has a statement of its own
limit_fits : fits twice (node 4 (p_limit 1 5)) ≡ true
limit_fits = refl

no_store_as_input : fits twice (node 4 (p_limit 3 5)) ≡ false
no_store_as_input = refl

no_later_input : fits twice (node 4 (p_limit 4 5)) ≡ false
no_later_input = refl

no_twin : fits ordered (node 4 (p_limit 1 5)) ≡ false
no_twin = refl
