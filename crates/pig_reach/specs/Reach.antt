-- What the STOREs of a plan reach: the inputs whose pieces are read, the directories that are made, and the lines that are read on the way.
-- (Pig Latin Basics: "STORE". That an input is looked for once, and that its lines count once for each way to a use, are choices of
-- this profile.)
use Rattle.std.specs.Prelude.{ℕ, not, List, [], ◌∷◌, length, map, Option, Some, None, bytes_eq, slice_get}
use Rattle.std.specs.List.{filter, filter_map, flat_map, sum_by}
use Rattle.std.specs.Option.{option_map_or}
use Rattle.pig_value.specs.declared.inputs.Input.{Input}
use Rattle.pig_value.specs.Lines.{lines}
use Rattle.pig_reach.specs.declared.storing.Store.{Store}
use Rattle.pig_plan.specs.Nodes.{Path, live, op_at, task_paths}
use Rattle.pig_plan.specs.Operators.{pieces_of}
use Rattle.pig_plan.specs.Plans.{Plan, PlanNode, PlanOp, p_load, p_store}

-- ---- inputs

-- each path once, where it stands first
abbrev pub once : List (List ℕ) → List (List ℕ)
once [] = []
once (path ∷ paths) = path ∷ filter (λ other. not (bytes_eq other path)) (once paths)

-- the path of a LOAD
abbrev pub loaded_path : PlanNode → Option (List ℕ)
loaded_path node = path_in node.op
  where
    path_in : PlanOp → Option (List ℕ)
    path_in (p_load path delim columns) = Some path
    path_in o = None

-- the nodes that a STORE reaches, in order
abbrev pub live_nodes : Plan → List PlanNode
live_nodes plan = filter_map (slice_get plan) (live plan)

-- the paths of the LOADs that a STORE reaches, each once, in order
abbrev pub live_paths : Plan → List (List ℕ)
live_paths plan = once (filter_map loaded_path (live_nodes plan))

-- ---- outputs

-- a STORE as it stands in a plan
abbrev pub store_of : PlanNode → Option Store
store_of node = store_in node.op
  where
    store_in : PlanOp → Option Store
    store_in (p_store input path delim) = Some (record { statement = node.statement; relation = input; dir = path; delim = delim })
    store_in o = None

-- the STOREs of a plan, in order
abbrev pub stores_of : Plan → List Store
stores_of plan = filter_map store_of plan

abbrev pub dirs_of : Plan → List (List ℕ)
dirs_of plan = map (λ store. store.dir) (stores_of plan)

-- ---- lines

-- the number of lines of a LOAD's input; another source reads none
abbrev pub lines_of : List Input → PlanOp → ℕ
lines_of inputs (p_load path delim columns) = length (flat_map lines (pieces_of inputs path))
lines_of inputs o = 0

-- the number of lines of the LOAD at which a path begins
abbrev pub lines_at : Plan → List Input → Path → ℕ
lines_at plan inputs path = option_map_or (lines_of inputs) (op_at plan path.source) 0

-- the lines of each LOAD, once for each task path that begins at it
abbrev pub lines_read : Plan → List Input → ℕ
lines_read plan inputs = sum_by (lines_at plan inputs) (task_paths plan)
