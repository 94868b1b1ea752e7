-- The nodes of a plan at other numbers in another one, as they stand once nodes are taken out or become one.
use Rattle.std.specs.Prelude.{◌≡◌, ℕ, List, map}
use Rattle.pig_value.specs.declared.inputs.Input.{Input}
use Rattle.pig_value.specs.declared.outcomes.Kept.{Kept}
use Rattle.pig_plan.specs.Meaning.{meaning}
use Rattle.pig_plan.specs.NodeKinds.{kinds_at}
use Rattle.pig_plan.specs.Nodes.{is_sorted}
use Rattle.pig_plan.specs.Plans.{Keyed, Plan, PlanNode, PlanOp, p_load, p_filter, p_foreach, p_group_all, p_group, p_join, p_union, p_distinct, p_order, p_limit, p_store, p_assert, p_rank}

abbrev pub rename_keyed : (ℕ → ℕ) → Keyed → Keyed
rename_keyed at k = record { input = at k.input; keys = k.keys; inner = k.inner }

-- an operator over inputs at other numbers
abbrev pub rename : (ℕ → ℕ) → PlanOp → PlanOp
rename at (p_load path delim columns) = p_load path delim columns
rename at (p_filter input cond) = p_filter (at input) cond
rename at (p_foreach input block) = p_foreach (at input) block
rename at (p_group_all input) = p_group_all (at input)
rename at (p_group inputs) = p_group (map (rename_keyed at) inputs)
rename at (p_join inputs side replicated) = p_join (map (rename_keyed at) inputs) side replicated
rename at (p_union inputs) = p_union (map at inputs)
rename at (p_distinct input) = p_distinct (at input)
rename at (p_order input keys) = p_order (at input) keys
rename at (p_limit input count) = p_limit (at input) count
rename at (p_store input path delim) = p_store (at input) path delim
rename at (p_assert input cond message) = p_assert (at input) cond message
rename at (p_rank input keys dense) = p_rank (at input) keys dense

-- the node over inputs at other numbers, with its statement
abbrev pub renamed : (ℕ → ℕ) → PlanNode → PlanNode
renamed at node = record { op = rename at node.op; statement = node.statement }

-- the node numbered k is in q what it is in p: its kinds, whether it is sorted, and its rows
pub record IsSame (p q : Plan) (at : ℕ → ℕ) (inputs : List Input) (kept : List Kept) (k : ℕ) : Type 0 where
  pub kinds : kinds_at q (at k) ≡ kinds_at p k
  pub sorted : is_sorted q (at k) ≡ is_sorted p k
  pub rows : meaning q inputs kept (at k) ≡ meaning p inputs kept k
