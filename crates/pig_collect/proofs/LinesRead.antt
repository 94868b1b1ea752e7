-- The tasks of a run read the lines of each LOAD once for each task path that begins at it.
use Rattle.std.specs.Prelude.{◌≡◌, ◌<◌, ◌≤◌, ◌+◌, ◌-◌, ℕ, zero, suc, Bool, true, false, not, List, [], ◌∷◌, ◌++◌, length, map, take, Option, Some, None, slice_get, refl, if◌then◌else◌}
use Rattle.std.proofs.lemmas.Bool.{cases_Bool}
use Rattle.std.proofs.Common.{inl, inr, ap, sym, ◌∙◌, arith, cond, true≢false}
use Rattle.std.specs.List.{AllByRecursion, filter, flat_map, range_with_len, sum_by}
use Rattle.std.specs.Option.{option_map, option_map_or, unwrap_or}
use Rattle.std.proofs.lemmas.List.{length-map}
use Rattle.std.proofs.lemmas.List.Concat.{length-flat_map}
use Rattle.std.proofs.lemmas.List.Sums.{sum_by-append, sum_by-cons, sum_by_push}
use Rattle.std.proofs.lemmas.Option.{slice_get_past}
use Rattle.pig_job.proofs.States.{sum_by-flat_map}
use Rattle.pig_value.specs.declared.inputs.Column.{Column}
use Rattle.pig_value.specs.declared.inputs.Input.{Input}
use Rattle.pig_value.specs.Elementwise.{Each}
use Rattle.pig_value.specs.Lines.{lines}
use Rattle.pig_value.specs.Trees.{Tree}
use Rattle.pig_value.proofs.list_laws.Listing.{each_filtered, each_of_all, each_weaker}
use Rattle.pig_storage.specs.Splits.{splits_of}
use Rattle.pig_plan.proofs.Marking.{range_more}
use Rattle.pig_plan.proofs.Meanings.{each_both}
use Rattle.pig_plan.proofs.Paths.{entering_paths}
use Rattle.pig_plan.specs.Nodes.{Entering, Path, entering, inputs_of, is_boundary, is_live, is_store, live, op_at, paths_of, read_paths}
use Rattle.pig_plan.specs.Operators.{pieces_of}
use Rattle.pig_plan.specs.Plans.{PlanOp, p_load, p_filter, p_foreach, p_group_all, p_group, p_join, p_union, p_distinct, p_order, p_limit, p_store, p_assert, p_rank}
use Rattle.pig_plan.specs.Results.{at_place}
use Rattle.pig_plan.specs.Valid.{IsPlan}
use Rattle.pig_runs.specs.Cutting.{Point}
use Rattle.pig_physical.specs.declared.parts.Part.TheVariants as parts
use Rattle.pig_physical.specs.declared.parts.ReduceTask.{ReduceTask}
use Rattle.pig_physical.specs.declared.waves.WaveHead.{WaveHead}
use Rattle.pig_physical.specs.declared.waves.WaveKind.{WaveKind}
use Rattle.pig_physical.specs.declared.waves.WaveKind.TheVariants as kinds
use Rattle.pig_physical.specs.Outs.{Outs, TaskOut, outs_at}
use Rattle.pig_physical.specs.Running.{IsRun}
use Rattle.pig_physical.specs.Stages.{MapTask, Stages, Task, boundaries, enters_first, head_of, heads, heads_at, is_replicated, last_wave, map_tasks, output_count, partition_tasks, parts_at, parts_of, path_tasks, store_tasks, stores, t_map, t_rank, t_reduce, tasks_by, tasks_in, tasks_of, tasks_on, waves_of, ways_into, ways_to}
use Rattle.pig_physical.specs.Values.{IsValue, lines_of, part_lines, split_lines}
use Rattle.pig_reach.specs.Reach as reach
use Rattle.pig_reach.specs.Reach.{lines_at, lines_read}
use Rattle.pig_reach.proofs.Enough.{live_node}
use Rattle.pig_waves.proofs.Heads.{further, probing, two_waves}
use Rattle.pig_waves.proofs.Places.{each_known}
use Rattle.pig_waves.proofs.Sources.{of_all}
use Rattle.pig_waves.specs.Laws.{copy_tasks, probe_tasks, ranks}
use Rattle.pig_collect.specs.Collecting.{lines_in}
use Rattle.pig_collect.specs.Laws.{RunsReadLines}
use Rattle.pig_collect.proofs.Alive.{TaskLives, WayLives, boundaries_live, into_lives, stores_live, tasks_live, to_lives}

-- ---- sums

sum_map : {X Y : Type 0} (f : Y → ℕ) (g : X → Y) (xs : List X) → sum_by f (map g xs) ≡ sum_by (λ x. f (g x)) xs
sum_map f g [] = refl
sum_map f g (x ∷ xs) =
    let a = sum_by-cons f (g x) (map g xs) in
    let b = sum_by-cons (λ x. f (g x)) x xs in
    let more = sum_map f g xs in
    omega (arith, a, b, more)

sum_same : {X : Type 0} (f g : X → ℕ) (xs : List X) → AllByRecursion (λ x. f x ≡ g x) xs → sum_by f xs ≡ sum_by g xs
sum_same f g [] h = refl
sum_same f g (x ∷ xs) h =
    let a = sum_by-cons f x xs in
    let b = sum_by-cons g x xs in
    let one = h.0 in
    let more = sum_same f g xs h.1 in
    omega (arith, a, b, one, more)

sum_none : {X : Type 0} (f : X → ℕ) → ((x : X) → f x ≡ 0) → (xs : List X) → sum_by f xs ≡ 0
sum_none f none [] = refl
sum_none f none (x ∷ xs) =
    let a = sum_by-cons f x xs in
    let one = none x in
    let more = sum_none f none xs in
    omega (arith, a, one, more)

sum_each : {X Y : Type 0} (f : X → ℕ) (g : Y → ℕ) (xs : List X) (ys : List Y) → Each (λ x y. f x ≡ g y) xs ys → sum_by g ys ≡ sum_by f xs
sum_each f g [] [] h = refl
sum_each f g [] (y ∷ ys) h = absurd h
sum_each f g (x ∷ xs) [] h = absurd h
sum_each f g (x ∷ xs) (y ∷ ys) h =
    let a = sum_by-cons f x xs in
    let b = sum_by-cons g y ys in
    let one = h.0 in
    let more = sum_each f g xs ys h.1 in
    omega (arith, a, b, one, more)

-- of a list by its places, also past its end
sum_places : {X : Type 0} (f : X → ℕ) (nothing : X) (all xs : List X) (a : ℕ) → ((i : ℕ) → at_place nothing all (a + i) ≡ at_place nothing xs i)
    → sum_by (λ i. f (at_place nothing all i)) (range_with_len a (length xs)) ≡ sum_by f xs
sum_places f nothing all [] a at = refl
sum_places f nothing all (x ∷ xs) a at =
    let zeroth : a ≡ a + 0 = omega arith in
    let here : f (at_place nothing all a) ≡ f x = ap f (ap (at_place nothing all) zeroth ∙ at 0) in
    let first = sum_by-cons (λ i. f (at_place nothing all i)) a (range_with_len (a + 1) (length xs)) in
    let second = sum_by-cons f x xs in
    let more = sum_places f nothing all xs (a + 1) (λ i. (let e : a + 1 + i ≡ a + suc i = omega arith in ap (at_place nothing all) e) ∙ at (suc i)) in
    omega (arith, here, first, second, more)

sum_padded : (f : ℕ → ℕ) (n m : ℕ) → ((w : ℕ) → n ≤ w → f w ≡ 0) → sum_by f (range_with_len 0 (n + m)) ≡ sum_by f (range_with_len 0 n)
sum_padded f n zero none = let e : n + 0 ≡ n = omega arith in ap (λ k. sum_by f (range_with_len 0 k)) e
sum_padded f n (suc m) none =
    let e : n + suc m ≡ n + m + 1 = omega arith in
    let last = sum_by_push f (range_with_len 0 (n + m)) (0 + (n + m)) in
    let past = none (0 + (n + m)) (omega arith) in
    let more = sum_padded f n m none in
    let step : sum_by f (range_with_len 0 (n + m) ++ (0 + (n + m)) ∷ []) ≡ sum_by f (range_with_len 0 n) = omega (arith, last, past, more) in
    ap (λ k. sum_by f (range_with_len 0 k)) e ∙ ap (sum_by f) (range_more 0 (n + m)) ∙ step

-- a sum up to two ends, behind each of which there is nothing
sum_ends : (f : ℕ → ℕ) (n m : ℕ) → ((w : ℕ) → n ≤ w → f w ≡ 0) → ((w : ℕ) → m ≤ w → f w ≡ 0) → sum_by f (range_with_len 0 n) ≡ sum_by f (range_with_len 0 m)
sum_ends f n m first second =
    sym (sum_padded f n m first) ∙ (let e : n + m ≡ m + n = omega arith in ap (λ k. sum_by f (range_with_len 0 k)) e) ∙ sum_padded f m n second

-- a sum over those that pass either of two tests, of which none passes both
module _ (p q : ℕ → Bool) (f : ℕ → ℕ) where
  abbrev Apart : ℕ → Type 0
  Apart k = (b c : Bool) → p k ≡ b → q k ≡ c → f k ≡ cond b (f k) 0 + cond c (f k) 0

  sum_parted : (ks : List ℕ) → AllByRecursion Apart ks → sum_by f ks ≡ sum_by f (filter p ks) + sum_by f (filter q ks)
  sum_parted [] h = refl
  sum_parted (k ∷ ks) h =
      let whole = sum_by-cons f k ks in
      let one = h.0 (p k) (q k) refl refl in
      let first = picked p (p k) in
      let second = picked q (q k) in
      let more = sum_parted ks h.1 in
      omega (arith, whole, one, first, second, more)
    where
      picked : (r : ℕ → Bool) (b : Bool) → sum_by f (cond b (k ∷ filter r ks) (filter r ks)) ≡ cond b (f k) 0 + sum_by f (filter r ks)
      picked r true = sum_by-cons f k (filter r ks)
      picked r false = omega arith

module _ (s : Stages) (inputs : List Input) (points : ℕ → List Point) (outs : Outs)
    (valid : IsPlan s.plan) (some : 0 < s.sizing.split) (run : IsRun s inputs points outs) where
  -- ---- tasks

  abbrev map_lines : MapTask → ℕ
  map_lines t = length (lines_of s.plan inputs t)

  abbrev task_lines : Task → ℕ
  task_lines (t_map t) = map_lines t
  task_lines (t_reduce t) = 0
  task_lines (t_rank t) = 0

  abbrev wave_lines : ℕ → ℕ
  wave_lines w = sum_by task_lines (tasks_in s w)

  told : (w : ℕ) (task : Task) (out : TaskOut) → TaskLives s valid task → IsValue s inputs (Some (points w)) outs task out → task_lines task ≡ out.lines
  told w (t_map t) out lives value = sym (value lives.o lives.at).lines
  told w (t_reduce t) out lives value = sym (value lives.0 lives.1).lines
  told w (t_rank t) out lives value = sym (value lives.0 lives.1).lines

  of_wave : (w : ℕ) → sum_by (λ out. out.lines) (outs_at outs w) ≡ wave_lines w
  of_wave w =
      sum_each task_lines (λ out. out.lines) (tasks_in s w) (outs_at outs w)
      (each_known (IsValue s inputs (Some (points w)) outs) (λ task out. task_lines task ≡ out.lines) (TaskLives s valid) (told w) (tasks_in s w) (outs_at outs w)
      (tasks_live s valid w) (run.values w))

  by_waves : lines_in outs ≡ sum_by wave_lines (range_with_len 0 (length outs))
  by_waves =
      sym (sum_places (sum_by (λ out. out.lines)) [] outs outs 0 (λ i. let e : 0 + i ≡ i = omega arith in ap (at_place [] outs) e))
      ∙ sum_same (λ w. sum_by (λ out. out.lines) (outs_at outs w)) wave_lines (range_with_len 0 (length outs))
      (each_of_all (λ w. sum_by (λ out. out.lines) (outs_at outs w) ≡ wave_lines w) of_wave (range_with_len 0 (length outs)))

  -- ---- waves by their heads

  abbrev lines_on : List MapTask → ℕ
  lines_on = sum_by map_lines

  abbrev kind_lines : WaveKind → ℕ → PlanOp → ℕ
  kind_lines kinds.Map k o = lines_on (map_tasks s k o)
  kind_lines kinds.Reduce k o = 0
  kind_lines kinds.Copy k o = lines_on (filter (λ t. not (enters_first t)) (map_tasks s k o))
  kind_lines kinds.Probe k o = lines_on (filter enters_first (map_tasks s k o))
  kind_lines kinds.Rank k o = 0
  kind_lines kinds.Store k o = lines_on (flat_map (store_tasks s) (stores s.plan))

  abbrev head_lines : WaveHead → ℕ
  head_lines head = option_map_or (kind_lines head.kind head.node) (op_at s.plan head.node) 0

  maps_sum : (ts : List MapTask) → sum_by task_lines (map t_map ts) ≡ lines_on ts
  maps_sum ts = sum_map task_lines t_map ts

  reduces_sum : (ts : List ReduceTask) → sum_by task_lines (map t_reduce ts) ≡ 0
  reduces_sum ts = sum_map task_lines t_reduce ts ∙ sum_none (λ t. 0) (λ t. refl) ts

  ranks_sum : (ts : List ReduceTask) → sum_by task_lines (map t_rank ts) ≡ 0
  ranks_sum ts = sum_map task_lines t_rank ts ∙ sum_none (λ t. 0) (λ t. refl) ts

  kind_sum : (w : ℕ) (kind : WaveKind) (k : ℕ) (o : PlanOp) → sum_by task_lines (tasks_by s w kind k o) ≡ kind_lines kind k o
  kind_sum w kinds.Map k o = maps_sum (map_tasks s k o)
  kind_sum w kinds.Reduce k o = reduces_sum (partition_tasks s (w - 1) k o)
  kind_sum w kinds.Copy k o = maps_sum (filter (λ t. not (enters_first t)) (map_tasks s k o))
  kind_sum w kinds.Probe k o = maps_sum (filter enters_first (map_tasks s k o))
  kind_sum w kinds.Rank k o = ranks_sum (partition_tasks s (w - 1) k o)
  kind_sum w kinds.Store k o = maps_sum (flat_map (store_tasks s) (stores s.plan))

  head_sum : (w : ℕ) (head : WaveHead) → sum_by task_lines (tasks_of s w head) ≡ head_lines head
  head_sum w head = by_op (op_at s.plan head.node)
    where
      by_op : (found : Option PlanOp) → sum_by task_lines (option_map_or (tasks_by s w head.kind head.node) found []) ≡ option_map_or (kind_lines head.kind head.node) found 0
      by_op None = refl
      by_op (Some o) = kind_sum w head.kind head.node o

  wave_is : (w : ℕ) → wave_lines w ≡ option_map_or head_lines (slice_get (heads s.plan) w) 0
  wave_is w = by_head (slice_get (heads s.plan) w)
    where
      by_head : (found : Option WaveHead) → sum_by task_lines (option_map_or (tasks_of s w) found []) ≡ option_map_or head_lines found 0
      by_head None = refl
      by_head (Some head) = head_sum w head

  no_outputs : (w : ℕ) → length outs ≤ w → wave_lines w ≡ 0
  no_outputs w past = sym (of_wave w) ∙ ap (λ found. sum_by (λ out. out.lines) (unwrap_or found [])) (slice_get_past outs w past)

  no_wave : (w : ℕ) → length (heads s.plan) ≤ w → wave_lines w ≡ 0
  no_wave w past = wave_is w ∙ ap (λ found. option_map_or head_lines found 0) (slice_get_past (heads s.plan) w past)

  heads_sum : (all hs : List WaveHead) (a : ℕ) → ((i : ℕ) → slice_get all (a + i) ≡ slice_get hs i)
      → sum_by (λ w. option_map_or head_lines (slice_get all w) 0) (range_with_len a (length hs)) ≡ sum_by head_lines hs
  heads_sum all [] a at = refl
  heads_sum all (h ∷ hs) a at =
      let zeroth : a ≡ a + 0 = omega arith in
      let here : option_map_or head_lines (slice_get all a) 0 ≡ head_lines h = ap (λ o. option_map_or head_lines o 0) (ap (slice_get all) zeroth ∙ at 0) in
      let first = sum_by-cons (λ w. option_map_or head_lines (slice_get all w) 0) a (range_with_len (a + 1) (length hs)) in
      let second = sum_by-cons head_lines h hs in
      let more = heads_sum all hs (a + 1) (λ i. (let e : a + 1 + i ≡ a + suc i = omega arith in ap (slice_get all) e) ∙ at (suc i)) in
      omega (arith, here, first, second, more)

  by_heads : lines_in outs ≡ sum_by head_lines (heads s.plan)
  by_heads =
      by_waves
      ∙ sum_ends wave_lines (length outs) (length (heads s.plan)) no_outputs no_wave
      ∙ sum_same wave_lines (λ w. option_map_or head_lines (slice_get (heads s.plan) w) 0) (range_with_len 0 (length (heads s.plan)))
      (each_of_all (λ w. wave_lines w ≡ option_map_or head_lines (slice_get (heads s.plan) w) 0) wave_is (range_with_len 0 (length (heads s.plan))))
      ∙ heads_sum (heads s.plan) (heads s.plan) 0 (λ i. let e : 0 + i ≡ i = omega arith in ap (slice_get (heads s.plan)) e)

  -- ---- ways

  -- the parts of another source are outputs, which have no lines
  none_read : (k : ℕ) (o : PlanOp) → parts_of s k o ≡ map (parts.Output (last_wave s.plan k o)) (range_with_len 0 (output_count s o))
      → sum_by (λ part. length (part_lines inputs part o)) (parts_of s k o) ≡ 0
  none_read k o are =
      ap (sum_by (λ part. length (part_lines inputs part o))) are
      ∙ sum_map (λ part. length (part_lines inputs part o)) (parts.Output (last_wave s.plan k o)) (range_with_len 0 (output_count s o))
      ∙ sum_none (λ n. 0) (λ n. refl) (range_with_len 0 (output_count s o))

  loaded : (path : List ℕ) (delim : ℕ) (columns : List Column) → map length (pieces_of inputs path) ≡ s.sizing.lengths path
      → sum_by (λ part. length (part_lines inputs part (p_load path delim columns))) (map parts.Split (splits_of s.sizing.split (s.sizing.lengths path))) ≡ length (flat_map lines (pieces_of inputs path))
  loaded path delim columns sizes =
      let row : List ℕ → List Tree = λ line. [] in
      let pieces = pieces_of inputs path in
      let splits = splits_of s.sizing.split (map length pieces) in
      ap (λ ls. sum_by (λ part. length (part_lines inputs part (p_load path delim columns))) (map parts.Split (splits_of s.sizing.split ls))) (sym sizes)
      ∙ sum_map (λ part. length (part_lines inputs part (p_load path delim columns))) parts.Split splits
      ∙ sum_same (λ sp. length (split_lines inputs path sp)) (λ sp. length (map row (split_lines inputs path sp))) splits
      (each_of_all (λ sp. length (split_lines inputs path sp) ≡ length (map row (split_lines inputs path sp))) (λ sp. sym (length-map (split_lines inputs path sp) row)) splits)
      ∙ sym (length-flat_map (λ sp. map row (split_lines inputs path sp)) splits)
      ∙ ap length (of_all s.sizing.split some row pieces)
      ∙ length-flat_map (λ piece. map row (lines piece)) pieces
      ∙ sum_same (λ piece. length (map row (lines piece))) (λ piece. length (lines piece)) pieces
      (each_of_all (λ piece. length (map row (lines piece)) ≡ length (lines piece)) (λ piece. length-map (lines piece) row) pieces)
      ∙ sym (length-flat_map lines pieces)

  -- the parts of a live source hold its lines
  of_source : (k statement : ℕ) (o : PlanOp) → slice_get s.plan k ≡ Some (record { op = o; statement = statement }) → is_live s.plan k ≡ true
      → sum_by (λ part. length (part_lines inputs part o)) (parts_of s k o) ≡ reach.lines_of inputs o
  of_source k statement (p_load path delim columns) at alive = loaded path delim columns (run.sizes k statement delim path columns at alive)
  of_source k statement (p_filter input test) at alive = none_read k (p_filter input test) refl
  of_source k statement (p_foreach input block) at alive = none_read k (p_foreach input block) refl
  of_source k statement (p_group_all input) at alive = none_read k (p_group_all input) refl
  of_source k statement (p_group keyed) at alive = none_read k (p_group keyed) refl
  of_source k statement (p_join keyed side replicated) at alive = none_read k (p_join keyed side replicated) refl
  of_source k statement (p_union numbers) at alive = none_read k (p_union numbers) refl
  of_source k statement (p_distinct input) at alive = none_read k (p_distinct input) refl
  of_source k statement (p_order input keys) at alive = none_read k (p_order input keys) refl
  of_source k statement (p_limit input count) at alive = none_read k (p_limit input count) refl
  of_source k statement (p_store input path delim) at alive = none_read k (p_store input path delim) refl
  of_source k statement (p_assert input test message) at alive = none_read k (p_assert input test message) refl
  of_source k statement (p_rank input keys dense) at alive = none_read k (p_rank input keys dense) refl

  on_path : (k : ℕ) (way : Entering) → WayLives s.plan valid way → lines_on (path_tasks s k way) ≡ lines_at s.plan inputs way.path
  on_path k way lives =
      let source = way.path.source in
      let found = live_node s.plan source lives.source in
      let v = found.0 in
      let op : op_at s.plan source ≡ Some v.op = ap (option_map (λ n. n.op)) found.1 in
      sum_map map_lines (λ part. record { node = k; way = way; part = part }) (parts_at s source)
      ∙ ap (λ o. sum_by (λ part. length (option_map_or (part_lines inputs part) o [])) (option_map_or (parts_of s source) o [])) op
      ∙ of_source source v.statement v.op found.1 lives.source
      ∙ ap (λ o. option_map_or (reach.lines_of inputs) o 0) (sym op)

  on_ways : (k : ℕ) (ways : List Entering) → AllByRecursion (WayLives s.plan valid) ways → lines_on (tasks_on s k ways) ≡ sum_by (λ way. lines_at s.plan inputs way.path) ways
  on_ways k ways live =
      sum_by-flat_map map_lines (path_tasks s k) ways
      ∙ sum_same (λ way. lines_on (path_tasks s k way)) (λ way. lines_at s.plan inputs way.path) ways
      (each_weaker (WayLives s.plan valid) (λ way. lines_on (path_tasks s k way) ≡ lines_at s.plan inputs way.path) (on_path k) ways live)

  on_inputs : (i : ℕ) (ns : List ℕ) → sum_by (λ way. lines_at s.plan inputs way.path) (entering (paths_of s.plan) i ns) ≡ sum_by (lines_at s.plan inputs) (flat_map (paths_of s.plan) ns)
  on_inputs i ns =
      sym (sum_map (lines_at s.plan inputs) (λ way. way.path) (entering (paths_of s.plan) i ns)) ∙ ap (sum_by (lines_at s.plan inputs)) (entering_paths (paths_of s.plan) i ns)

  -- ---- nodes

  -- the lines that are read for a node
  abbrev read_at : ℕ → ℕ
  read_at k = sum_by (lines_at s.plan inputs) (option_map_or (read_paths s.plan k) (op_at s.plan k) [])

  abbrev is_here : ℕ → Bool
  is_here k = option_map_or is_boundary (op_at s.plan k) false

  abbrev is_storing : ℕ → Bool
  is_storing k = option_map_or is_store (op_at s.plan k) false

  -- the tasks of the first input, and those of the others
  either_input : (ts : List MapTask) → lines_on (filter (λ t. not (enters_first t)) ts) + lines_on (filter enters_first ts) ≡ lines_on ts
  either_input [] = omega arith
  either_input (t ∷ ts) = by_test (either_input ts) (enters_first t)
    where
      by_test : lines_on (filter (λ u. not (enters_first u)) ts) + lines_on (filter enters_first ts) ≡ lines_on ts → (b : Bool)
          → lines_on (cond (not b) (t ∷ filter (λ u. not (enters_first u)) ts) (filter (λ u. not (enters_first u)) ts)) + lines_on (cond b (t ∷ filter enters_first ts) (filter enters_first ts))
          ≡ lines_on (t ∷ ts)
      by_test rest true =
          let whole = sum_by-cons map_lines t ts in let one = sum_by-cons map_lines t (filter enters_first ts) in omega (arith, rest, whole, one)
      by_test rest false =
          let whole = sum_by-cons map_lines t ts in let one = sum_by-cons map_lines t (filter (λ u. not (enters_first u)) ts) in omega (arith, rest, whole, one)

  boundary_sum : (k : ℕ) → is_live s.plan k ≡ true → is_here k ≡ true → sum_by head_lines (heads_at s.plan k) ≡ read_at k
  boundary_sum k alive here =
      let found = live_node s.plan k alive in
      let v = found.0 in
      let op : op_at s.plan k ≡ Some v.op = ap (option_map (λ n. n.op)) found.1 in
      let boundary : is_boundary v.op ≡ true = sym (ap (λ o. option_map_or is_boundary o false) op) ∙ here in
      let copy_head : head_lines (head_of s.plan k kinds.Copy) ≡ lines_on (copy_tasks s k v.op) = ap (λ o. option_map_or (kind_lines kinds.Copy k) o 0) op in
      let probe_head : head_lines (head_of s.plan k kinds.Probe) ≡ lines_on (probe_tasks s k v.op) = ap (λ o. option_map_or (kind_lines kinds.Probe k) o 0) op in
      let last = sum_by-cons head_lines (head_of s.plan k kinds.Probe) [] in
      let both = sum_by-cons head_lines (head_of s.plan k kinds.Copy) (head_of s.plan k kinds.Probe ∷ []) in
      let all = either_input (map_tasks s k v.op) in
      let joined : sum_by head_lines (head_of s.plan k kinds.Copy ∷ head_of s.plan k kinds.Probe ∷ []) ≡ lines_on (map_tasks s k v.op) = omega (arith, copy_head, probe_head, last, both, all) in
      let map_head : head_lines (head_of s.plan k kinds.Map) ≡ lines_on (map_tasks s k v.op) = ap (λ o. option_map_or (kind_lines kinds.Map k) o 0) op in
      let reduce_head : head_lines (head_of s.plan k kinds.Reduce) ≡ 0 = ap (λ o. option_map_or (kind_lines kinds.Reduce k) o 0) op in
      let rank_head : head_lines (head_of s.plan k kinds.Rank) ≡ 0 = ap (λ o. option_map_or (kind_lines kinds.Rank k) o 0) op in
      let more = map (head_of s.plan k) (further v.op) in
      let none : sum_by head_lines (map (head_of s.plan k) (further v.op)) ≡ 0 = no_further (ranks v.op) rank_head in
      let two = sum_by-cons head_lines (head_of s.plan k kinds.Map) (head_of s.plan k kinds.Reduce ∷ more) in
      let one = sum_by-cons head_lines (head_of s.plan k kinds.Reduce) more in
      let sum : sum_by head_lines (head_of s.plan k kinds.Map ∷ head_of s.plan k kinds.Reduce ∷ more) ≡ lines_on (map_tasks s k v.op) = omega (arith, map_head, reduce_head, none, two, one) in
      ap (λ o. sum_by head_lines (option_map_or (λ p. map (head_of s.plan k) (waves_of p)) o [])) op
      ∙ elim (cases_Bool (is_replicated v.op)) [
        | inl replicated ↦ ap (λ ws. sum_by head_lines (map (head_of s.plan k) ws)) (probing v.op replicated).waves ∙ joined
        | inr other ↦ ap (λ ws. sum_by head_lines (map (head_of s.plan k) ws)) (two_waves v.op other) ∙ sum
      ]
      ∙ on_ways k (ways_into s.plan v.op) (into_lives s.plan valid k v found.1 alive)
      ∙ on_inputs 0 (inputs_of v.op)
      ∙ ap (λ b. sum_by (lines_at s.plan inputs) (cond b (flat_map (paths_of s.plan) (inputs_of v.op)) (cond (is_store v.op) (paths_of s.plan k) []))) (sym boundary)
      ∙ ap (λ o. sum_by (lines_at s.plan inputs) (option_map_or (read_paths s.plan k) o [])) (sym op)
    where
      no_further : (b : Bool) → head_lines (head_of s.plan k kinds.Rank) ≡ 0 → sum_by head_lines (map (head_of s.plan k) (if b then kinds.Rank ∷ [] else [])) ≡ 0
      no_further true none = let one = sum_by-cons head_lines (head_of s.plan k kinds.Rank) [] in omega (arith, none, one)
      no_further false none = refl

  boundaries_sum : sum_by head_lines (flat_map (heads_at s.plan) (boundaries s.plan)) ≡ sum_by read_at (boundaries s.plan)
  boundaries_sum =
      sum_by-flat_map head_lines (heads_at s.plan) (boundaries s.plan)
      ∙ sum_same (λ k. sum_by head_lines (heads_at s.plan k)) read_at (boundaries s.plan)
      (each_both (λ k. is_live s.plan k ≡ true) (λ k. is_here k ≡ true) (λ k. sum_by head_lines (heads_at s.plan k) ≡ read_at k) boundary_sum (boundaries s.plan)
      (boundaries_live s valid) (each_filtered is_here (live s.plan)))

  no_boundary : (o : PlanOp) → is_store o ≡ true → is_boundary o ≡ false
  no_boundary (p_load path delim columns) h = absurd (true≢false (sym h))
  no_boundary (p_filter input test) h = absurd (true≢false (sym h))
  no_boundary (p_foreach input block) h = absurd (true≢false (sym h))
  no_boundary (p_group_all input) h = absurd (true≢false (sym h))
  no_boundary (p_group keyed) h = absurd (true≢false (sym h))
  no_boundary (p_join keyed side replicated) h = absurd (true≢false (sym h))
  no_boundary (p_union numbers) h = absurd (true≢false (sym h))
  no_boundary (p_distinct input) h = absurd (true≢false (sym h))
  no_boundary (p_order input keys) h = absurd (true≢false (sym h))
  no_boundary (p_limit input count) h = absurd (true≢false (sym h))
  no_boundary (p_store input path delim) h = refl
  no_boundary (p_assert input test message) h = absurd (true≢false (sym h))
  no_boundary (p_rank input keys dense) h = absurd (true≢false (sym h))

  store_sum : (k : ℕ) → is_live s.plan k ≡ true → is_storing k ≡ true → lines_on (store_tasks s k) ≡ read_at k
  store_sum k alive here =
      let found = live_node s.plan k alive in
      let v = found.0 in
      let op : op_at s.plan k ≡ Some v.op = ap (option_map (λ n. n.op)) found.1 in
      let store : is_store v.op ≡ true = sym (ap (λ o. option_map_or is_store o false) op) ∙ here in
      let one = sum_by-append (lines_at s.plan inputs) (paths_of s.plan k) [] in
      let alone : sum_by (lines_at s.plan inputs) (flat_map (paths_of s.plan) (k ∷ [])) ≡ sum_by (lines_at s.plan inputs) (paths_of s.plan k) = omega (arith, one) in
      on_ways k (ways_to s.plan k) (to_lives s.plan valid k alive)
      ∙ on_inputs 0 (k ∷ [])
      ∙ alone
      ∙ ap (λ b. sum_by (lines_at s.plan inputs) (cond b (paths_of s.plan k) [])) (sym store)
      ∙ ap (λ b. sum_by (lines_at s.plan inputs) (cond b (flat_map (paths_of s.plan) (inputs_of v.op)) (cond (is_store v.op) (paths_of s.plan k) []))) (sym (no_boundary v.op store))
      ∙ ap (λ o. sum_by (lines_at s.plan inputs) (option_map_or (read_paths s.plan k) o [])) (sym op)

  all_stores_sum : lines_on (flat_map (store_tasks s) (stores s.plan)) ≡ sum_by read_at (stores s.plan)
  all_stores_sum =
      sum_by-flat_map map_lines (store_tasks s) (stores s.plan)
      ∙ sum_same (λ k. lines_on (store_tasks s k)) read_at (stores s.plan)
      (each_both (λ k. is_live s.plan k ≡ true) (λ k. is_storing k ≡ true) (λ k. lines_on (store_tasks s k) ≡ read_at k) store_sum (stores s.plan)
      (stores_live s valid) (each_filtered is_storing (live s.plan)))

  store_heads_sum : sum_by head_lines (map (λ k. head_of s.plan k kinds.Store) (take 1 (stores s.plan))) ≡ sum_by read_at (stores s.plan)
  store_heads_sum = by_stores (stores s.plan) refl
    where
      first_is : (ks : List ℕ) (k : ℕ) (more : List ℕ) → ks ≡ k ∷ more → AllByRecursion (λ n. is_storing n ≡ true) ks → is_storing k ≡ true
      first_is [] k more e h = absurd (cc)
      first_is (n ∷ ns) k more e h = let same : n ≡ k = cc in ap is_storing (sym same) ∙ h.0

      by_op : (k : ℕ) (found : Option PlanOp) → option_map_or is_store found false ≡ true
          → option_map_or (kind_lines kinds.Store k) found 0 ≡ lines_on (flat_map (store_tasks s) (stores s.plan))
      by_op k None h = absurd (true≢false (sym h))
      by_op k (Some o) h = refl

      by_stores : (ks : List ℕ) → stores s.plan ≡ ks → sum_by head_lines (map (λ k. head_of s.plan k kinds.Store) (take 1 ks)) ≡ sum_by read_at (stores s.plan)
      by_stores [] e = ap (sum_by read_at) (sym e)
      by_stores (k ∷ ks) e =
          let one = sum_by-cons head_lines (head_of s.plan k kinds.Store) [] in
          let own = by_op k (op_at s.plan k) (first_is (stores s.plan) k ks e (each_filtered is_storing (live s.plan))) in
          let all = all_stores_sum in
          omega (arith, one, own, all)

  apart : (k : ℕ) → Apart is_here is_storing read_at k
  apart k b c here store = by_op (op_at s.plan k) here store
    where
      by_tests : (o : PlanOp) (d e : Bool) → is_boundary o ≡ d → is_store o ≡ e → d ≡ b → e ≡ c → (ps qs : List Path)
          → sum_by (lines_at s.plan inputs) (cond d ps (cond e qs []))
          ≡ cond b (sum_by (lines_at s.plan inputs) (cond d ps (cond e qs []))) 0 + cond c (sum_by (lines_at s.plan inputs) (cond d ps (cond e qs []))) 0
      by_tests o true true is_b is_s f g ps qs = absurd (true≢false (sym is_b ∙ no_boundary o is_s))
      by_tests o true false is_b is_s f g ps qs = (let e : sum_by (lines_at s.plan inputs) ps ≡ sum_by (lines_at s.plan inputs) ps + 0 = omega arith in e) ∙ (λ i. cond (f i) (sum_by (lines_at s.plan inputs) ps) 0 + cond (g i) (sum_by (lines_at s.plan inputs) ps) 0)
      by_tests o false true is_b is_s f g ps qs = (let e : sum_by (lines_at s.plan inputs) qs ≡ 0 + sum_by (lines_at s.plan inputs) qs = omega arith in e) ∙ (λ i. cond (f i) (sum_by (lines_at s.plan inputs) qs) 0 + cond (g i) (sum_by (lines_at s.plan inputs) qs) 0)
      by_tests o false false is_b is_s f g ps qs = λ i. cond {A = ℕ} (f i) 0 0 + cond {A = ℕ} (g i) 0 0

      nothing : ◌≡◌ {A = ℕ} 0 (cond b 0 0 + cond c 0 0)
      nothing = by_both b c
        where
          by_both : (b c : Bool) → ◌≡◌ {A = ℕ} 0 (cond b 0 0 + cond c 0 0)
          by_both true true = refl
          by_both true false = refl
          by_both false true = refl
          by_both false false = refl

      by_op : (found : Option PlanOp) → option_map_or is_boundary found false ≡ b → option_map_or is_store found false ≡ c
          → sum_by (lines_at s.plan inputs) (option_map_or (read_paths s.plan k) found [])
          ≡ cond b (sum_by (lines_at s.plan inputs) (option_map_or (read_paths s.plan k) found [])) 0 + cond c (sum_by (lines_at s.plan inputs) (option_map_or (read_paths s.plan k) found [])) 0
      by_op None f g = nothing
      by_op (Some o) f g = by_tests o (is_boundary o) (is_store o) refl refl f g (flat_map (paths_of s.plan) (inputs_of o)) (paths_of s.plan k)

  pub all_lines : lines_in outs ≡ lines_read s.plan inputs
  all_lines =
      let cut = sum_by-append head_lines (flat_map (heads_at s.plan) (boundaries s.plan)) (map (λ k. head_of s.plan k kinds.Store) (take 1 (stores s.plan))) in
      let first = boundaries_sum in
      let second = store_heads_sum in
      let whole = sum_parted is_here is_storing read_at (live s.plan) (each_of_all (Apart is_here is_storing read_at) apart (live s.plan)) in
      let sum : sum_by head_lines (heads s.plan) ≡ sum_by read_at (live s.plan) = omega (arith, cut, first, second, whole) in
      by_heads ∙ sum ∙ sym (sum_by-flat_map (lines_at s.plan inputs) (λ k. option_map_or (read_paths s.plan k) (op_at s.plan k) []) (live s.plan))

pub read_lines : RunsReadLines
read_lines s inputs points outs valid some run = all_lines s inputs points outs valid some run
