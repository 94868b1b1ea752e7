-- A plan without its dead nodes: the live ones in their order, numbered anew.
use Rattle.std.specs.Prelude.{◌≡◌, ℕ, true, List, map, length, Some, slice_get}
use Rattle.std.specs.List.{filter, filter_map, range_with_len}
use Rattle.pig_plan.specs.Nodes.{is_live, live}
use Rattle.pig_plan.specs.Plans.{Plan, PlanNode}
use Rattle.pig_plan.specs.Renumbered.{renamed}
use Rattle.pig_plan.specs.Rewrites.{SameMeaning}
use Rattle.pig_plan.specs.Valid.{IsPlan}
use Rattle.pig_share.specs.Table.{at_of}

-- how many live nodes stand before the one numbered k
abbrev pub rank : Plan → ℕ → ℕ
rank p k = length (filter (is_live p) (range_with_len 0 k))

abbrev pub ranks : Plan → List ℕ
ranks p = map (rank p) (range_with_len 0 (length p))

-- a live node's new number
abbrev pub new_number : Plan → ℕ → ℕ
new_number p = at_of (ranks p)

abbrev pub alive : Plan → Plan
alive p = map (renamed (new_number p)) (filter_map (slice_get p) (live p))

abbrev pub EachLives : Plan → Type 0
EachLives q = (k : ℕ) (v : PlanNode) → slice_get q k ≡ Some v → is_live q k ≡ true

abbrev pub LivePlansMeanTheSame : Type 0
LivePlansMeanTheSame = (p : Plan) → IsPlan p → IsPlan (alive p) → SameMeaning p (alive p)
