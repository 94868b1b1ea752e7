-- Plans as trees, which is what clauses say of them: a list of nodes, each numbered by its place from 0.
use Rattle.std.specs.Prelude.{ℕ, Bool, List, map, Option}
use Rattle.pig_value.specs.declared.inputs.Column.{Column}
use Rattle.pig_value.specs.declared.operators.Side.{Side}
use Rattle.pig_typed.specs.declared.blocks.SortKey.{SortKey}
use Rattle.pig_typed.specs.Typed.{Typed, TypedBlock, block_typed, typed}
use Rattle.pig_plan.specs.declared.nodes.KeyedInput.{KeyedInput}
use Rattle.pig_plan.specs.declared.nodes.Node.{Node}
use Rattle.pig_plan.specs.declared.nodes.NodeOp.{NodeOp}
use Rattle.pig_plan.specs.declared.nodes.NodeOp.TheVariants as op

-- an input of an operator by key: its number, its keys, and whether keys that it has no row of are left out
pub record Keyed : Type 0 where
  pub input : ℕ
  pub keys : List Typed
  pub inner : Bool

-- what a node does with the rows of its inputs, which it names by their numbers
pub data PlanOp : Type 0 where
  p_load : List ℕ → ℕ → List Column → PlanOp
  p_filter : ℕ → Typed → PlanOp
  p_foreach : ℕ → TypedBlock → PlanOp
  p_group_all : ℕ → PlanOp
  p_group : List Keyed → PlanOp
  p_join : List Keyed → Side → Bool → PlanOp
  p_union : List ℕ → PlanOp
  p_distinct : ℕ → PlanOp
  p_order : ℕ → List SortKey → PlanOp
  p_limit : ℕ → ℕ → PlanOp
  p_store : ℕ → List ℕ → ℕ → PlanOp
  p_assert : ℕ → Typed → Option (List ℕ) → PlanOp
  p_rank : ℕ → List SortKey → Bool → PlanOp

-- a node, with the number of its statement
pub record PlanNode : Type 0 where
  pub op : PlanOp
  pub statement : ℕ

abbrev pub keyed_of : KeyedInput → Keyed
keyed_of i = record { input = i.input; keys = map typed i.keys; inner = i.inner }

abbrev pub op_of : NodeOp → PlanOp
op_of (op.Load path delim columns) = p_load path delim columns
op_of (op.Filter input cond) = p_filter input (typed cond)
op_of (op.Foreach input block) = p_foreach input (block_typed block)
op_of (op.GroupAll input) = p_group_all input
op_of (op.Group inputs) = p_group (map keyed_of inputs)
op_of (op.Join inputs side replicated) = p_join (map keyed_of inputs) side replicated
op_of (op.Union inputs) = p_union inputs
op_of (op.Distinct input) = p_distinct input
op_of (op.Order input keys) = p_order input keys
op_of (op.Limit input count) = p_limit input count
op_of (op.Store input path delim) = p_store input path delim
op_of (op.Assert input cond message) = p_assert input (typed cond) message
op_of (op.Rank input keys dense) = p_rank input keys dense

abbrev pub node_of : Node → PlanNode
node_of n = record { op = op_of n.op; statement = n.statement }

-- a list of nodes as a plan
abbrev pub Plan : Type 0
Plan = List PlanNode

abbrev pub plan_of : List Node → Plan
plan_of = map node_of
