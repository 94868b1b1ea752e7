-- Which lists of nodes are plans: each node is valid behind those before it.
use Rattle.std.specs.Prelude.{◌≡◌, ◌≤◌, ℕ, ◌==◌, Bool, true, false, not, ◌&&◌, List, [], ◌∷◌, nat_le, take, Some, slice_get}
use Rattle.std.specs.List.{AllByRecursion, list_any}
use Rattle.std.specs.Option.{is_some}
use Rattle.pig_plan.specs.Written.{block_writes_lf, writes_lf}
use Rattle.pig_plan.specs.NodeKinds.{kinds_at, node_gives}
use Rattle.pig_plan.specs.Plans.{Keyed, Plan, PlanNode, PlanOp, p_filter, p_foreach, p_group, p_join, p_limit, p_assert}

-- a text that is written out in the node's expressions holds a line end
abbrev pub keys_write_lf : List Keyed → Bool
keys_write_lf inputs = list_any (λ input. list_any writes_lf input.keys) inputs

abbrev pub op_writes_lf : PlanOp → Bool
op_writes_lf (p_filter input cond) = writes_lf cond
op_writes_lf (p_foreach input block) = block_writes_lf block
op_writes_lf (p_group inputs) = keys_write_lf inputs
op_writes_lf (p_join inputs side replicated) = keys_write_lf inputs
op_writes_lf (p_assert input cond message) = writes_lf cond
op_writes_lf o = false

-- two LIMITs, or two ASSERTs, of which each has a statement of its own
abbrev pub are_twins : PlanOp → PlanOp → Bool
are_twins (p_limit i m) (p_limit j n) = true
are_twins (p_assert i c m) (p_assert j d n) = true
are_twins o p = false

abbrev pub is_twin : PlanNode → PlanNode → Bool
is_twin node other = are_twins node.op other.op && other.statement == node.statement

-- no node has a later statement
abbrev pub AreUpTo : ℕ → Plan → Type 0
AreUpTo latest plan = AllByRecursion (λ node. node.statement ≤ latest) plan

-- the node is valid behind the plan: as to its inputs and kinds, without a line end in a text, with a statement of its own
abbrev pub fits : Plan → PlanNode → Bool
fits plan node = is_some (node_gives (kinds_at plan) node.op) && not (op_writes_lf node.op) && not (list_any (is_twin node) plan)

-- each node fits the nodes before it
abbrev pub IsPlan : Plan → Type 0
IsPlan plan = (k : ℕ) (node : PlanNode) → slice_get plan k ≡ Some node → fits (take k plan) node ≡ true

-- no node has an earlier statement than one before it, as it is in the plan of a script
abbrev pub ascends_from : ℕ → Plan → Bool
ascends_from statement [] = true
ascends_from statement (node ∷ plan) = nat_le statement node.statement && ascends_from node.statement plan

abbrev pub in_order : Plan → Bool
in_order plan = ascends_from 0 plan
