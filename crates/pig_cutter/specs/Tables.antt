-- What is told of each node before a plan is cut: what its parts are read from, and how much its paths count.
use Rattle.std.specs.Prelude.{ℕ, ◌+◌, ◌-◌, Bool, ◌&&◌, nat_lt, List, [], map, length, min, slice_get, if◌then◌else◌}
use Rattle.std.specs.List.{list_any, range_with_len, sum_by}
use Rattle.std.specs.Option.{option_map_or}
use Rattle.pig_storage.specs.Splits.{splits_of}
use Rattle.pig_plan.specs.Nodes.{inputs_of, is_boundary, is_source, op_at}
use Rattle.pig_plan.specs.Plans.{Plan, PlanOp, p_load}
use Rattle.pig_plan.specs.Results.{at_place, results}
use Rattle.pig_physical.specs.Seen.{lengths_in}
use Rattle.pig_physical.specs.Stages.{Sizing, counted, first_wave, reduce_count, waves_of}
use Rattle.pig_physical.specs.declared.parts.Part.{Part}
use Rattle.pig_physical.specs.declared.parts.Part.TheVariants as parts
use Rattle.pig_physical.specs.declared.staged.Size.{Size}
use Rattle.pig_physical.specs.declared.waves.WaveHead.{WaveHead}
use Rattle.pig_cutter.specs.Feeds.{feeds_of}
use Rattle.pig_cutter.specs.declared.feeding.Feed.{Feed}
use Rattle.pig_cutter.specs.declared.reading.Source.{Source}
use Rattle.pig_cutter.specs.declared.reading.Source.TheVariants as sources

-- ---- parts

-- pieces of these lengths, or so many outputs of a wave
pub data Reading : Type 0 where
  r_splits : List ℕ → Reading
  r_outputs : ℕ → ℕ → Reading

abbrev pub reading_of : Source → Reading
reading_of sources.Nothing = r_splits []
reading_of (sources.Splits lengths) = r_splits lengths.now
reading_of (sources.Outputs wave count) = r_outputs wave count

abbrev pub parts_read : ℕ → Reading → List Part
parts_read split (r_splits lengths) = map parts.Split (splits_of split lengths)
parts_read split (r_outputs wave count) = map (parts.Output wave) (range_with_len 0 count)

-- what the parts of a node are read from, by how many there are and by the number of its first wave
abbrev pub reads : List Size → ℕ → ℕ → PlanOp → Reading
reads sizes count first (p_load path delim columns) = r_splits (lengths_in sizes path)
reads sizes count first o = r_outputs (first + (length (waves_of o) - 1)) count

-- the number of the wave behind those of a node, which has some where it is a live boundary node
abbrev pub waves_behind : Bool → PlanOp → ℕ → ℕ
waves_behind lives o wave = if lives && is_boundary o then wave + length (waves_of o) else wave

-- of each node, in order, by the counts of all
abbrev pub reads_at : Plan → List Size → List ℕ → ℕ → Reading
reads_at plan sizes counts k =
    option_map_or (reads sizes (at_place 0 counts k) (first_wave plan k)) (op_at plan k) (r_splits [])

abbrev pub readings : Plan → List Size → List ℕ → List Reading
readings plan sizes counts = map (reads_at plan sizes counts) (range_with_len 0 (length plan))

-- the parts of a node, by what is told of all
abbrev pub parts_for : ℕ → List Source → ℕ → List Part
parts_for split table k = option_map_or (λ source. parts_read split (reading_of source)) (slice_get table k) []

-- ---- counts up to a limit

abbrev pub sizing_of : List Size → ℕ → ℕ → Sizing
sizing_of sizes reducers split = record { lengths = lengths_in sizes; reducers = reducers; split = split }

-- in how many parts the rows of a node come, by what was counted of the nodes before it
abbrev pub count_to : ℕ → Sizing → PlanOp → (ℕ → ℕ) → ℕ
count_to limit sizing o count = min limit (counted sizing o count)

-- those of a node that is no LOAD and no replicated JOIN
abbrev pub count_plainly : ℕ → ℕ → PlanOp → (ℕ → ℕ) → ℕ
count_plainly limit reducers o count =
    if is_source o then min limit (reduce_count reducers o) else min limit (sum_by count (inputs_of o))

abbrev pub counts_of : ℕ → Sizing → Plan → List ℕ
counts_of limit sizing = results (λ k node. count_to limit sizing node.op) 0

-- A source counts one, and one for each of its parts; another node what its inputs count.
abbrev pub weigh : ℕ → ℕ → PlanOp → (ℕ → ℕ) → ℕ
weigh limit count o weight = if is_source o then min limit (count + 1) else min limit (sum_by weight (inputs_of o))

abbrev pub weights_of : ℕ → (ℕ → ℕ) → Plan → List ℕ
weights_of limit count = results (λ k node. weigh limit (count k) node.op) 0

-- whether what a wave reads counts more than the most
abbrev pub weight_of : ℕ → (ℕ → ℕ) → List Feed → ℕ
weight_of limit weight feeds = min limit (sum_by (λ feed. weight feed.from) feeds)

abbrev pub is_over : ℕ → Plan → List ℕ → (ℕ → ℕ) → WaveHead → Bool
is_over most plan stores weight head = nat_lt most (weight_of (most + 1) weight (feeds_of plan stores head))

abbrev pub is_any_over : ℕ → Plan → List ℕ → (ℕ → ℕ) → List WaveHead → Bool
is_any_over most plan stores count heads =
    list_any (is_over most plan stores (at_place 0 (weights_of (most + 1) count plan))) heads
