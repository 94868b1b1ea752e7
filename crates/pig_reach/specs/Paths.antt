-- How paths are added, each once.
use Rattle.std.specs.Prelude.{ℕ, Bool, List, [], ◌∷◌, ◌++◌, bytes_eq, slice_get, if◌then◌else◌}
use Rattle.std.specs.List.{list_any}
use Rattle.std.specs.Option.{option_map_or}
use Rattle.pig_plan.specs.Plans.{Plan, PlanNode}
use Rattle.pig_reach.specs.Reach.{loaded_path}

abbrev pub is_among : List ℕ → List (List ℕ) → Bool
is_among path paths = list_any (bytes_eq path) paths

-- the paths with one more, unless it is there
abbrev pub with_new : List (List ℕ) → List ℕ → List (List ℕ)
with_new paths path = if is_among path paths then paths else paths ++ path ∷ []

-- the paths with that of a LOAD
abbrev pub with_path : List (List ℕ) → PlanNode → List (List ℕ)
with_path paths node = option_map_or (with_new paths) (loaded_path node) paths

-- the paths with that of the node of a number
abbrev pub with_path_at : Plan → ℕ → List (List ℕ) → List (List ℕ)
with_path_at plan number paths = option_map_or (with_path paths) (slice_get plan number) paths
