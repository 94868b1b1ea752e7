-- How many paths nodes have, counted up to a limit.
use Rattle.std.specs.Prelude.{ℕ, List, map, length, min, if◌then◌else◌}
use Rattle.std.specs.List.{range_with_len, sum_by}
use Rattle.pig_plan.specs.Nodes.{inputs_of, is_source, paths_of}
use Rattle.pig_plan.specs.Plans.{Plan, PlanOp}
use Rattle.pig_plan.specs.Results.{results}

-- of each node, in order
abbrev pub path_counts : ℕ → Plan → List ℕ
path_counts limit plan = map (λ k. min limit (length (paths_of plan k))) (range_with_len 0 (length plan))

-- as they are counted, each node's from those of the nodes before it
abbrev pub ways_up_to : ℕ → PlanOp → (ℕ → ℕ) → ℕ
ways_up_to limit o count = if is_source o then min limit 1 else min limit (sum_by count (inputs_of o))

abbrev pub counts_of : ℕ → Plan → List ℕ
counts_of limit = results (λ k node. ways_up_to limit node.op) 0
