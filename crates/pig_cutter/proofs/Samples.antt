-- A run of stages, computed: DISTINCT of two empty lines, with two reducers, stored. So what the law of stages asks for can be had.
use Rattle.std.specs.Prelude.{◌≡◌, ℕ, zero, suc, false, true, List, [], ◌∷◌, codes, length, map, Option, None, Some, slice_get, refl}
use Rattle.std.proofs.Common.{ap, sym, ◌∙◌, subst}
use Rattle.pig_value.specs.declared.inputs.Input.{Input}
use Rattle.pig_value.specs.declared.operators.Side.TheVariants as side
use Rattle.pig_value.specs.Elementwise.{Each}
use Rattle.pig_value.specs.Gathering.{Entry}
use Rattle.pig_value.specs.Trees.{Tree, fields_of, v_tuple}
use Rattle.pig_value.proofs.list_laws.Listing.{some_same}
use Rattle.pig_typed.specs.declared.blocks.SortKey.{SortKey}
use Rattle.pig_typed.specs.Typed.{x_field}
use Rattle.pig_plan.specs.Entries.{dirs_of, sort_keys}
use Rattle.pig_plan.specs.Meaning.{meaning}
use Rattle.pig_plan.specs.Nodes.{Entering, is_live, op_at}
use Rattle.pig_plan.specs.Operators.{pieces_of}
use Rattle.pig_plan.specs.Plans.{Keyed, Plan, PlanNode, PlanOp, p_distinct, p_join, p_limit, p_load, p_store, p_union}
use Rattle.pig_runs.specs.Cutting.{Point}
use Rattle.pig_physical.specs.declared.parts.Part.TheVariants as parts
use Rattle.pig_physical.specs.declared.parts.ReduceTask.{ReduceTask}
use Rattle.pig_physical.specs.Outs.{Outs, TaskOut, entries_held, o_bytes, o_rows, o_runs, outs_at}
use Rattle.pig_physical.specs.Running.{AreCuts, AreOutputs, AreSizes, IsRun, bytes_given, rows_given}
use Rattle.pig_physical.specs.Stages.{MapTask, Stages, first_wave, t_map, t_reduce, tasks_in, wave_size}
use Rattle.pig_physical.specs.Values.{IsMapValue, IsReduceValue, IsValue}
use Rattle.pig_cutter.specs.Tables.{counts_of}

abbrev plan : Plan
plan =
    record { op = p_load (codes "in") 9 []; statement = 1 }
    ∷ record { op = p_distinct 0; statement = 2 }
    ∷ record { op = p_store 1 (codes "out") 9; statement = 3 }
    ∷ []

abbrev stages : Stages
stages = record { plan = plan; sizing = record { lengths = λ path. 2 ∷ []; reducers = 2; split = 4 } }

abbrev inputs : List Input
inputs = record { path = codes "in"; pieces = (10 ∷ 10 ∷ []) ∷ [] } ∷ []

abbrev no_points : ℕ → List Point
no_points w = []

-- the one row has no field; as a key its text is `()`, which goes to the second of two partitions
abbrev entry : Entry
entry = record { key = v_tuple (fields_of []); input = 0; row = v_tuple (fields_of []) ∷ [] }

abbrev mapped : TaskOut
mapped = record { form = o_runs (record { dirs = []; entries = [] } ∷ record { dirs = []; entries = entry ∷ [] } ∷ []); lines = 2; unmet = [] }

abbrev reduced_to : List (List Tree) → TaskOut
reduced_to rows = record { form = o_rows rows; lines = 0; unmet = [] }

abbrev stored : List ℕ → TaskOut
stored bytes = record { form = o_bytes bytes; lines = 0; unmet = [] }

abbrev outs : Outs
outs = (mapped ∷ []) ∷ (reduced_to [] ∷ reduced_to ([] ∷ []) ∷ []) ∷ (stored [] ∷ stored (10 ∷ []) ∷ []) ∷ []

-- what is claimed of a node's operator is claimed of the operator that it has
of_op : (P : PlanOp → Type 0) (p o : PlanOp) → Some p ≡ Some o → P p → P o
of_op P p o is h = subst P (some_same p o is) h

sizes : AreSizes stages inputs
sizes zero statement delim path columns at alive = ap (λ found. map length (pieces_of inputs found)) (path_is at)
  where
    path_of : PlanOp → List ℕ
    path_of (p_load found d c) = found
    path_of o = []

    path_in : Option PlanNode → List ℕ
    path_in None = []
    path_in (Some v) = path_of v.op

    path_is : ◌≡◌ {A = Option PlanNode} (Some (record { op = p_load (codes "in") 9 []; statement = 1 })) (Some (record { op = p_load path delim columns; statement = statement }))
        → path ≡ codes "in"
    path_is e = sym (ap path_in e)
sizes (suc zero) statement delim path columns at alive =
    let other : p_distinct 0 ≡ p_load path delim columns = ap (λ n. n.op) (some_same (record { op = p_distinct 0; statement = 2 }) (record { op = p_load path delim columns; statement = statement }) at) in
    absurd (cc)
sizes (suc (suc zero)) statement delim path columns at alive =
    let other : p_store 1 (codes "out") 9 ≡ p_load path delim columns =
    ap (λ n. n.op) (some_same (record { op = p_store 1 (codes "out") 9; statement = 3 }) (record { op = p_load path delim columns; statement = statement }) at) in
    absurd (cc)
sizes (suc (suc (suc k))) statement delim path columns at alive = absurd (cc)

-- no node sorts
abbrev sorts_none : (keys : List SortKey) (p o : PlanOp) → Some p ≡ Some o → sort_keys p ≡ None → sort_keys o ≡ Some keys → None ≡ Some keys
sorts_none keys p o is none sorts = sym none ∙ (ap sort_keys (some_same p o is) ∙ sorts)

no_sort : (k : ℕ) (o : PlanOp) (keys : List SortKey) → op_at plan k ≡ Some o → is_live plan k ≡ true → sort_keys o ≡ Some keys → AreCuts 2 (dirs_of keys) (entries_held (outs_at outs (first_wave plan k))) (no_points (first_wave plan k))
no_sort zero o keys at alive sorts = let none = sorts_none keys (p_load (codes "in") 9 []) o at refl sorts in absurd (cc)
no_sort (suc zero) o keys at alive sorts = let none = sorts_none keys (p_distinct 0) o at refl sorts in absurd (cc)
no_sort (suc (suc zero)) o keys at alive sorts = let none = sorts_none keys (p_store 1 (codes "out") 9) o at refl sorts in absurd (cc)
no_sort (suc (suc (suc k))) o keys at alive sorts = absurd (cc)

-- ---- tasks, and that the outputs are their values

abbrev way_in : Entering
way_in = record { input = 0; path = record { source = 0; nodes = [] } }

abbrev way_out : Entering
way_out = record { input = 0; path = record { source = 1; nodes = 2 ∷ [] } }

abbrev map_task : MapTask
map_task = record { node = 1; way = way_in; part = parts.Split (record { piece = 0; from = 0; to = 2 }) }

abbrev store_task : ℕ → MapTask
store_task p = record { node = 2; way = way_out; part = parts.Output 1 p }

abbrev reduce_task : ℕ → ReduceTask
reduce_task p = record { node = 1; wave = 0; part = p }

tasks_are : map (tasks_in stages) (0 ∷ 1 ∷ 2 ∷ 3 ∷ [])
    ≡ (t_map map_task ∷ []) ∷ (t_reduce (reduce_task 0) ∷ t_reduce (reduce_task 1) ∷ []) ∷ (t_map (store_task 0) ∷ t_map (store_task 1) ∷ []) ∷ [] ∷ []
tasks_are = refl

values : (w : ℕ) → Each (IsValue stages inputs (Some (no_points w)) outs) (tasks_in stages w) (outs_at outs w)
values zero = (
  λ o at. of_op (λ q. IsMapValue stages inputs (Some []) outs map_task q mapped) (p_distinct 0) o at (record { form = refl; lines = refl; unmet = refl }),
  tt,
)
values (suc zero) = (
  λ o at. of_op (λ q. IsReduceValue stages outs (reduce_task 0) q (reduced_to [])) (p_distinct 0) o at (record { form = refl; lines = refl; unmet = refl }),
  (λ o at. of_op (λ q. IsReduceValue stages outs (reduce_task 1) q (reduced_to ([] ∷ []))) (p_distinct 0) o at (record { form = refl; lines = refl; unmet = refl }), tt),
)
values (suc (suc zero)) = (
  λ o at. of_op (λ q. IsMapValue stages inputs (Some []) outs (store_task 0) q (stored [])) (p_store 1 (codes "out") 9) o at (record { form = refl; lines = refl; unmet = refl }),
  (λ o at. of_op (λ q. IsMapValue stages inputs (Some []) outs (store_task 1) q (stored (10 ∷ []))) (p_store 1 (codes "out") 9) o at (record { form = refl; lines = refl; unmet = refl }), tt),
)
values (suc (suc (suc w))) = tt

a_run : IsRun stages inputs no_points outs
a_run = record { sizes = sizes; cuts = no_sort; values = values }

nothing_kept : AreOutputs plan outs []
nothing_kept = record { statements = refl; each = λ k statement input count at alive bare. no_limit k (record { op = p_limit input count; statement = statement }) input count refl at }
  where
    no_limit : (k : ℕ) (v : PlanNode) (input count : ℕ) → v.op ≡ p_limit input count → slice_get plan k ≡ Some v → {G : Type 0} → G
    no_limit zero v input count is at = let e = some_same (record { op = p_load (codes "in") 9 []; statement = 1 }) v at in let other : p_load (codes "in") 9 [] ≡ p_limit input count = ap (λ n. n.op) e ∙ is in absurd (cc)
    no_limit (suc zero) v input count is at = let e = some_same (record { op = p_distinct 0; statement = 2 }) v at in let other : p_distinct 0 ≡ p_limit input count = ap (λ n. n.op) e ∙ is in absurd (cc)
    no_limit (suc (suc zero)) v input count is at = let e = some_same (record { op = p_store 1 (codes "out") 9; statement = 3 }) v at in let other : p_store 1 (codes "out") 9 ≡ p_limit input count = ap (λ n. n.op) e ∙ is in absurd (cc)
    no_limit (suc (suc (suc k))) v input count is at = absurd (cc)

-- ---- what it gives, and what the plan means

given_rows : rows_given plan outs 1 (p_distinct 0) ≡ meaning plan inputs [] 1
given_rows = refl

given_bytes : bytes_given stages outs 2 ≡ 10 ∷ []
given_bytes = refl

-- ---- a replicated JOIN, each of whose LOADs has two splits

abbrev stored_part : ℕ → MapTask
stored_part p = record { node = 3; way = record { input = 0; path = record { source = 2; nodes = 3 ∷ [] } }; part = parts.Output 1 p }

abbrev by : ℕ → Keyed
by input = record { input = input; keys = x_field 0 ∷ []; inner = false }

abbrev probed : Plan
probed =
    record { op = p_load (codes "in") 9 []; statement = 1 }
    ∷ record { op = p_load (codes "b") 9 []; statement = 2 }
    ∷ record { op = p_join (by 0 ∷ by 1 ∷ []) side.Inner true; statement = 3 }
    ∷ record { op = p_store 2 (codes "out") 9; statement = 4 }
    ∷ []

abbrev sized : Plan → ℕ → Stages
sized plan reducers = record { plan = plan; sizing = record { lengths = λ path. 7 ∷ []; reducers = reducers; split = 4 } }

-- two tasks copy and two probe, and a STORE has two parts, however many reducers there are
two_probes : (reducers : ℕ) → map (λ w. length (tasks_in (sized probed reducers) w)) (0 ∷ 1 ∷ 2 ∷ []) ≡ 2 ∷ 2 ∷ 2 ∷ []
two_probes reducers = refl

stored_parts : (reducers : ℕ) → tasks_in (sized probed reducers) 2 ≡ t_map (stored_part 0) ∷ t_map (stored_part 1) ∷ []
stored_parts reducers = refl

-- ---- counts up to a limit

-- UNIONs of a node with itself double its parts, and a replicated JOIN on them has as many: counted up to five, there are five
abbrev doubled : Plan
doubled =
    record { op = p_load (codes "in") 9 []; statement = 1 }
    ∷ record { op = p_union (0 ∷ 0 ∷ []); statement = 2 }
    ∷ record { op = p_union (1 ∷ 1 ∷ []); statement = 3 }
    ∷ record { op = p_union (2 ∷ 2 ∷ []); statement = 4 }
    ∷ record { op = p_join (by 3 ∷ by 0 ∷ []) side.Inner true; statement = 5 }
    ∷ record { op = p_store 4 (codes "out") 9; statement = 6 }
    ∷ []

counted_to_five : counts_of 5 (sized doubled 3).sizing doubled ≡ 2 ∷ 4 ∷ 5 ∷ 5 ∷ 5 ∷ 5 ∷ []
counted_to_five = refl

-- all sixteen parts, and their paths, count against the limit
all_sixteen : map (wave_size (sized doubled 3)) (0 ∷ 1 ∷ 2 ∷ []) ≡ 3 ∷ 24 ∷ 17 ∷ []
all_sixteen = refl
