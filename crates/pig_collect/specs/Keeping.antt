-- What bare LIMITs kept, found while the waves of the nodes are passed one after the other.
use Rattle.std.specs.Prelude.{ℕ, Bool, List, [], ◌∷◌, ◌++◌, drop, length, slice_get, if◌then◌else◌}
use Rattle.std.specs.List.{flat_map}
use Rattle.std.specs.Option.{option_map_or}
use Rattle.pig_value.specs.declared.outcomes.Kept.{Kept}
use Rattle.pig_value.specs.Trees.{Tree, rows_tree}
use Rattle.pig_plan.specs.Nodes.{is_bare, is_boundary}
use Rattle.pig_plan.specs.Plans.{Plan, PlanNode, PlanOp}
use Rattle.pig_physical.specs.Outs.{Outs, TaskOut, outs_at, rows_in}
use Rattle.pig_physical.specs.Stages.{waves_of}

-- the rows of a wave's outputs
abbrev pub wave_rows : List TaskOut → List (List Tree)
wave_rows outs = flat_map (λ out. rows_in out.form) outs

-- a statement, and the rows that were kept at it
abbrev pub Chosen : Type 0
Chosen = ℕ × List (List Tree)

abbrev pub chosen_of : Kept → Chosen
chosen_of kept = (kept.statement, rows_tree kept.rows)

-- how many waves a node has
abbrev pub wave_count : PlanOp → ℕ
wave_count o = if is_boundary o then length (waves_of o) else 0

-- what a node kept whose waves stand in front: the outputs of its second wave
abbrev pub chosen_by : (ℕ → Bool) → Outs → PlanNode → List Chosen
chosen_by sorted outs node = if is_bare sorted node.op then (node.statement, wave_rows (outs_at outs 1)) ∷ [] else []

abbrev pub chosen_at : (ℕ → Bool) → Plan → ℕ → Outs → List Chosen
chosen_at sorted plan k outs = option_map_or (chosen_by sorted outs) (slice_get plan k) []

-- the waves behind those of a node
abbrev pub waves_at : Plan → ℕ → ℕ
waves_at plan k = option_map_or (λ node. wave_count node.op) (slice_get plan k) 0

-- what nodes kept, in turn
abbrev pub chosen_in : (ℕ → Bool) → Plan → List ℕ → Outs → List Chosen
chosen_in sorted plan [] outs = []
chosen_in sorted plan (k ∷ ks) outs = chosen_at sorted plan k outs ++ chosen_in sorted plan ks (drop (waves_at plan k) outs)
