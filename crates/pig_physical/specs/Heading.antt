-- The waves of a plan as they are listed: each live node in turn, and whether it combines by what the live nodes name.
use Rattle.std.specs.Prelude.{ℕ, Bool, false, ◌&&◌, List, [], map, take, slice_get, if◌then◌else◌}
use Rattle.std.specs.List.{filter, flat_map}
use Rattle.std.specs.Option.{option_map_or}
use Rattle.pig_plan.specs.Nodes.{inputs_of, is_boundary, is_store, op_at}
use Rattle.pig_plan.specs.Plans.{Plan, PlanOp}
use Rattle.pig_physical.specs.Stages.{head_of, is_map, waves_of}
use Rattle.pig_physical.specs.declared.waves.WaveHead.{WaveHead}
use Rattle.pig_physical.specs.declared.waves.WaveKind.{WaveKind}
use Rattle.pig_physical.specs.declared.waves.WaveKind.TheVariants as kinds

-- the inputs that nodes name, one behind the other
abbrev pub inputs_at : Plan → ℕ → List ℕ
inputs_at plan n = option_map_or (λ node. inputs_of node.op) (slice_get plan n) []

abbrev pub named_by : Plan → List ℕ → List ℕ
named_by plan users = flat_map (inputs_at plan) users

-- a wave of a node, by whether the node combines
abbrev pub head_with : ℕ → Bool → WaveKind → WaveHead
head_with k combine kind = record { kind = kind; node = k; combine = is_map kind && combine }

-- the waves of a node, which has some where it is a boundary node
abbrev pub heads_by : Plan → ℕ → PlanOp → List WaveHead
heads_by plan k o = if is_boundary o then map (head_of plan k) (waves_of o) else []

abbrev pub heads_on : Plan → ℕ → List WaveHead
heads_on plan k = option_map_or (λ node. heads_by plan k node.op) (slice_get plan k) []

-- the wave of the STOREs, which is named after the first of them among nodes
abbrev pub store_head : Plan → List ℕ → List WaveHead
store_head plan numbers =
    map (λ k. head_of plan k kinds.Store) (take 1 (filter (λ k. option_map_or is_store (op_at plan k) false) numbers))
