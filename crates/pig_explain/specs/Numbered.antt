-- Which nodes of a plan are printed, in which order, and the numbers that they are printed by.
use Rattle.std.specs.Prelude.{ℕ, zero, suc, ◌+◌, ◌==◌, Bool, List, [], ◌∷◌, ◌++◌, length, slice_get, if◌then◌else◌}
use Rattle.std.specs.List.{fold, list_any, position}
use Rattle.std.specs.Option.{option_map_or, unwrap_or}
use Rattle.pig_plan.specs.Nodes.{inputs_of, is_store}
use Rattle.pig_plan.specs.Plans.{Plan, PlanOp}

-- the number that a node is printed by: its place in the order of what is printed
abbrev pub place : List ℕ → ℕ → ℕ
place order k = unwrap_or (position (λ n. n == k) order) (length order)

abbrev pub is_listed : List ℕ → ℕ → Bool
is_listed listed k = list_any (λ n. n == k) listed

-- the inputs of the node numbered k
abbrev pub inputs_at : Plan → ℕ → List ℕ
inputs_at plan k = option_map_or (λ node. inputs_of node.op) (slice_get plan k) []

-- A node behind those that are listed, its inputs first to last before it, and none a second time. Inputs are gone down to as deep
-- as `depth`: since nodes name lower ones alone, the number of all nodes is deep enough.
abbrev pub visit : ℕ → Plan → List ℕ → ℕ → List ℕ
visit zero plan listed k = listed
visit (suc depth) plan listed k = if is_listed listed k then listed else fold (visit depth plan) listed (inputs_at plan k) ++ k ∷ []

abbrev pub visit_store : Plan → ℕ → PlanOp → List ℕ → List ℕ
visit_store plan k o listed = if is_store o then visit (length plan) plan listed k else listed

-- the STOREs among these nodes, of which the first is numbered k, in turn
abbrev pub visit_stores : Plan → ℕ → List ℕ → Plan → List ℕ
visit_stores plan k listed [] = listed
visit_stores plan k listed (node ∷ nodes) = visit_stores plan (k + 1) (visit_store plan k node.op listed) nodes

-- the nodes that STOREs reach in post-order, from the STOREs in turn
abbrev pub post_order : Plan → List ℕ
post_order plan = visit_stores plan 0 [] plan
