-- Stages of small plans, and what their tasks hand on, computed.
use Rattle.std.specs.Prelude.{◌≡◌, ℕ, pos, Bool, true, false, List, [], ◌∷◌, codes, length, map, None, Some, refl}
use Rattle.pig_value.specs.declared.functions.Function.TheVariants as f
use Rattle.pig_value.specs.declared.inputs.Input.{Input}
use Rattle.pig_value.specs.declared.operators.Dir.TheVariants as dir
use Rattle.pig_value.specs.declared.operators.Side.TheVariants as side
use Rattle.pig_value.specs.Functions.{long_of}
use Rattle.pig_value.specs.Gathering.{Entry}
use Rattle.pig_value.specs.Trees.{Tree, v_chars, v_int, v_null}
use Rattle.pig_typed.specs.Typed.{Typed, TypedBlock, TypedItem, more_args, no_args, x_bool, x_call, x_field, x_project}
use Rattle.pig_storage.specs.Splits.{splits_of}
use Rattle.pig_plan.specs.Asserts.{unmet_on}
use Rattle.pig_plan.specs.Plans.{Keyed, Plan, PlanNode, PlanOp, p_load, p_filter, p_foreach, p_group, p_group_all, p_join, p_union, p_distinct, p_limit, p_store, p_assert, p_rank}
use Rattle.pig_physical.specs.Combining.{folds}
use Rattle.pig_physical.specs.Outs.{TaskOut, o_rows}
use Rattle.pig_physical.specs.Running.{AreCuts}
use Rattle.pig_physical.specs.Stages.{Stages, heads, tasks_in, wave_size}
use Rattle.pig_physical.specs.Values.{all_rows, handed_on, marked, ranked, rows_of_part, split_lines}
use Rattle.pig_physical.specs.declared.waves.WaveHead.{WaveHead}
use Rattle.pig_physical.specs.declared.waves.WaveKind.{WaveKind}
use Rattle.pig_physical.specs.declared.waves.WaveKind.TheVariants as kinds

abbrev node : ℕ → PlanOp → PlanNode
node statement o = record { op = o; statement = statement }

abbrev load : PlanNode
load = node 1 (p_load (codes "in") 9 [])

abbrev stored : ℕ → PlanNode
stored input = node 9 (p_store input (codes "out") 9)

abbrev by : ℕ → Typed → Keyed
by input key = record { input = input; keys = key ∷ []; inner = false }

abbrev head : WaveKind → ℕ → Bool → WaveHead
head kind k combine = record { kind = kind; node = k; combine = combine }

-- ---- splits

-- nine bytes in splits of 1, 2, 7 and more; a piece without bytes has one split
nine_by_one : length (splits_of 1 (9 ∷ [])) ≡ 9
nine_by_one = refl

nine_by_two : map (λ s. s.from) (splits_of 2 (9 ∷ [])) ≡ 0 ∷ 2 ∷ 4 ∷ 6 ∷ 8 ∷ []
nine_by_two = refl

nine_by_seven : map (λ s. s.to) (splits_of 7 (9 ∷ [])) ≡ 7 ∷ 9 ∷ []
nine_by_seven = refl

nine_at_once : length (splits_of 1000000 (9 ∷ [])) ≡ 1
nine_at_once = refl

empty_piece : map (λ s. s.piece) (splits_of 4 (0 ∷ 5 ∷ [])) ≡ 0 ∷ 1 ∷ 1 ∷ []
empty_piece = refl

-- a line belongs to the split in which it starts: a line that ends with CR and LF, an empty one, and one without an end
abbrev line_ends : List Input
line_ends = record { path = codes "in"; pieces = (49 ∷ 9 ∷ 50 ∷ 13 ∷ 10 ∷ 10 ∷ 51 ∷ 9 ∷ 52 ∷ []) ∷ [] } ∷ []

lines_by_two : map (split_lines line_ends (codes "in")) (splits_of 2 (9 ∷ []))
    ≡ ((49 ∷ 9 ∷ 50 ∷ []) ∷ []) ∷ [] ∷ ([] ∷ []) ∷ ((51 ∷ 9 ∷ 52 ∷ []) ∷ []) ∷ [] ∷ []
lines_by_two = refl

-- ---- waves

-- a left join of two LOADs, a FILTER and a STORE
abbrev joined : Plan
joined = load ∷ node 2 (p_load (codes "b") 9 []) ∷ node 3 (p_join (by 0 (x_field 0) ∷ by 1 (x_field 0) ∷ []) side.Left false)
    ∷ node 4 (p_filter 2 (x_bool true)) ∷ stored 3 ∷ []

heads_of_join : heads joined ≡ head kinds.Map 2 false ∷ head kinds.Reduce 2 false ∷ head kinds.Store 4 false ∷ []
heads_of_join = refl

-- a replicated one, and a RANK
abbrev probed : Plan
probed = load ∷ node 2 (p_load (codes "b") 9 []) ∷ node 3 (p_join (by 0 (x_field 0) ∷ by 1 (x_field 0) ∷ []) side.Inner true) ∷ stored 2 ∷ []

heads_of_probe : map (λ h. h.kind) (heads probed) ≡ kinds.Copy ∷ kinds.Probe ∷ kinds.Store ∷ []
heads_of_probe = refl

abbrev with_ranks : Plan
with_ranks = load ∷ node 2 (p_rank 0 [] false) ∷ stored 1 ∷ []

heads_of_rank : map (λ h. h.kind) (heads with_ranks) ≡ kinds.Map ∷ kinds.Reduce ∷ kinds.Rank ∷ kinds.Store ∷ []
heads_of_rank = refl

-- the rows 4, 4 in the first partition and 4, 7 in the second: the ranks of the second one's go on from those of the first
abbrev row : ℕ → List Tree
row n = v_int (pos n) ∷ []

abbrev by_first : Bool → PlanOp
by_first dense = p_rank 0 (record { position = 0; dir = dir.Asc } ∷ []) dense

abbrev partitions_of_rows : List TaskOut
partitions_of_rows =
    record { form = o_rows (row 4 ∷ row 4 ∷ []); lines = 0; unmet = [] } ∷ record { form = o_rows (row 4 ∷ row 7 ∷ []); lines = 0; unmet = [] } ∷ []

second_ranked : ranked (by_first false) (all_rows partitions_of_rows) (rows_of_part partitions_of_rows 1)
    ≡ (long_of (pos 1) ∷ v_int (pos 4) ∷ []) ∷ (long_of (pos 4) ∷ v_int (pos 7) ∷ []) ∷ []
second_ranked = refl

second_dense : ranked (by_first true) (all_rows partitions_of_rows) (rows_of_part partitions_of_rows 1)
    ≡ (long_of (pos 1) ∷ v_int (pos 4) ∷ []) ∷ (long_of (pos 2) ∷ v_int (pos 7) ∷ []) ∷ []
second_dense = refl

-- no STORE, no wave
no_heads : heads (load ∷ node 2 (p_distinct 0) ∷ []) ≡ []
no_heads = refl

-- ---- nodes that combine

abbrev item : Typed → TypedItem
item value = record { value = value; flatten = false; width = 1 }

abbrev of_bag : Typed → Typed
of_bag e = x_call f.Count (more_args e no_args)

-- `GENERATE group, COUNT(t), SUM(t.$2)`
abbrev counted : TypedBlock
counted = record { steps = []; items = item (x_field 0) ∷ item (of_bag (x_field 1)) ∷ item (x_call f.Sum (more_args (x_project (x_field 1) (2 ∷ []) true) no_args)) ∷ [] }

abbrev grouped : Plan
grouped = load ∷ node 2 (p_group (by 0 (x_field 1) ∷ [])) ∷ node 3 (p_foreach 1 counted) ∷ stored 2 ∷ []

heads_of_group : heads grouped ≡ head kinds.Map 1 true ∷ head kinds.Reduce 1 false ∷ head kinds.Store 3 false ∷ []
heads_of_group = refl

-- a second use of the GROUP, and it does not fold
used_again : folds (load ∷ node 2 (p_group (by 0 (x_field 1) ∷ [])) ∷ node 3 (p_foreach 1 counted) ∷ stored 2 ∷ stored 1 ∷ []) 1 ≡ None
used_again = refl

-- a COGROUP does not, a DISTINCT always combines
distinct_combines : heads (load ∷ node 2 (p_distinct 0) ∷ stored 1 ∷ []) ≡ head kinds.Map 1 true ∷ head kinds.Reduce 1 false ∷ head kinds.Store 2 false ∷ []
distinct_combines = refl

-- a task with two rows of one key hands on one entry
abbrev entry : Tree → List Tree → Entry
entry key row = record { key = key; input = 0; row = row }

abbrev both_rows : List Entry
both_rows = entry (v_chars (codes "g")) (v_null ∷ []) ∷ entry (v_chars (codes "g")) (v_null ∷ []) ∷ []

one_entry : length (handed_on grouped 1 (p_group (by 0 (x_field 1) ∷ [])) both_rows) ≡ 1
one_entry = refl

every_entry : length (handed_on joined 2 (p_join (by 0 (x_field 0) ∷ by 1 (x_field 0) ∷ []) side.Left false) both_rows) ≡ 2
every_entry = refl

-- ---- tasks

-- three pieces in two splits, by two paths of a UNION into a GROUP with three reducers, and a LIMIT on it: 4, 3, 3, 1 and 1 tasks
abbrev sized : Plan → Stages
sized plan = record { plan = plan; sizing = record { lengths = λ path. 7 ∷ []; reducers = 3; split = 4 } }

abbrev long_way : Plan
long_way = load ∷ node 2 (p_union (0 ∷ 0 ∷ [])) ∷ node 3 (p_group_all 1) ∷ node 4 (p_limit 2 5) ∷ stored 3 ∷ []

tasks_of_waves : map (λ w. length (tasks_in (sized long_way) w)) (0 ∷ 1 ∷ 2 ∷ 3 ∷ 4 ∷ []) ≡ 4 ∷ 3 ∷ 3 ∷ 1 ∷ 1 ∷ []
tasks_of_waves = refl

-- a RANK: two splits, three partitions that are brought together, then ranked, then stored
tasks_of_ranks : map (λ w. length (tasks_in (sized with_ranks) w)) (0 ∷ 1 ∷ 2 ∷ 3 ∷ []) ≡ 2 ∷ 3 ∷ 3 ∷ 3 ∷ []
tasks_of_ranks = refl

-- against the limit count a wave's tasks that are no reduce tasks, and its ways
sizes_of_waves : map (wave_size (sized long_way)) (0 ∷ 1 ∷ 2 ∷ 3 ∷ 4 ∷ []) ≡ 6 ∷ 0 ∷ 4 ∷ 0 ∷ 2 ∷ []
sizes_of_waves = refl

-- ---- the cuts of an ORDER, and what a LIMIT keeps

abbrev numbered : ℕ → Entry
numbered n = entry (v_int (pos n)) []

-- four entries in three slices: the points stand at the places 1 and 2 of these sorted
cut_in_three : AreCuts 3 [] (map numbered (4 ∷ 1 ∷ 3 ∷ 2 ∷ [])) (map (λ n. Some (numbered n)) (2 ∷ 3 ∷ []))
cut_in_three = record { count = refl; ascend = (refl, (tt, tt)); are = refl }

-- no entry: each point is the end
cut_nowhere : AreCuts 3 [] [] (None ∷ None ∷ [])
cut_nowhere = record { count = refl; ascend = (refl, (tt, tt)); are = refl }

-- the second of three elements is kept
second_alone : marked {X = ℕ} (false ∷ true ∷ []) (1 ∷ 2 ∷ 3 ∷ []) ≡ 2 ∷ []
second_alone = refl

-- ---- ASSERTs

-- an ASSERT that no row meets, a FILTER that lets none through, and an ASSERT behind it
abbrev asserted : Plan
asserted = load ∷ node 2 (p_assert 0 (x_bool false) None) ∷ node 3 (p_filter 1 (x_bool false)) ∷ node 4 (p_assert 2 (x_bool false) None) ∷ stored 3 ∷ []

first_alone : unmet_on (folds asserted) asserted (1 ∷ 2 ∷ 3 ∷ 4 ∷ []) ((v_null ∷ []) ∷ []) ≡ 2 ∷ []
first_alone = refl
