-- How many lines come to each node, as they are counted: each node's from those of the nodes before it, modulo 2 to the 64.
use Rattle.std.specs.Prelude.{◌+◌, ◌%◌, ◌^◌, ℕ, List, slice_get, if◌then◌else◌}
use Rattle.std.specs.List.{sum_by}
use Rattle.std.specs.Option.{option_map_or}
use Rattle.pig_value.specs.declared.inputs.Input.{Input}
use Rattle.pig_plan.specs.Nodes.{inputs_of, is_boundary, is_source, is_store}
use Rattle.pig_plan.specs.Plans.{Plan, PlanOp}
use Rattle.pig_plan.specs.Results.{results}
use Rattle.pig_reach.specs.Reach.{lines_of}

-- those that come to a node's inputs
abbrev pub come_from : PlanOp → (ℕ → ℕ) → ℕ
come_from o flow = sum_by flow (inputs_of o) % 2 ^ 64

-- A source has the lines of its input; to another node comes what comes to its inputs.
abbrev pub comes_to : List Input → PlanOp → (ℕ → ℕ) → ℕ
comes_to inputs o flow = if is_source o then lines_of inputs o % 2 ^ 64 else come_from o flow

abbrev pub flows_of : List Input → Plan → List ℕ
flows_of inputs = results (λ k node. comes_to inputs node.op) 0

-- A boundary node reads what comes to its inputs, and a STORE what comes to it.
abbrev pub uses_at : ℕ → PlanOp → (ℕ → ℕ) → ℕ
uses_at k o flow = if is_boundary o then come_from o flow else if is_store o then flow k else 0

abbrev pub uses_in : Plan → ℕ → (ℕ → ℕ) → ℕ
uses_in plan k flow = option_map_or (λ node. uses_at k node.op flow) (slice_get plan k) 0
