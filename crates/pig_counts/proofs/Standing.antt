-- Each task of a wave is one of a node that there is, and where this node sorts, the points of the wave ascend.
use Rattle.std.specs.Prelude.{◌≡◌, ◌<◌, ◌+◌, ◌-◌, ℕ, zero, suc, Bool, true, false, nat_lt, not, List, [], ◌∷◌, ◌++◌, map, take, length, Option, Some, None, slice_get, ⊤, refl}
use Rattle.std.proofs.Common.{ap, sym, ◌∙◌, arith, append_assoc, append-nil, cond, subst, true≢false}
use Rattle.std.specs.List.{AllByRecursion, filter, flat_map, range_with_len}
use Rattle.std.specs.Option.{option_map_or}
use Rattle.std.proofs.lemmas.Bool.Decides.{nat_tests}
use Rattle.std.proofs.lemmas.Grind.{flat_map-append}
use Rattle.std.proofs.lemmas.List.{length-append}
use Rattle.pig_value.specs.declared.inputs.Input.{Input}
use Rattle.pig_value.specs.Elementwise.{Rising}
use Rattle.pig_value.proofs.list_laws.Elementwise.{filter_rises, range_rises}
use Rattle.pig_value.proofs.list_laws.Listing.{each-filter, each-map, each_filtered, each_of_all, each_weaker, filter_none, some_same}
use Rattle.pig_plan.specs.Entries.{sort_keys}
use Rattle.pig_plan.specs.Nodes.{Entering, is_boundary, is_live, is_store, live, op_at}
use Rattle.pig_plan.specs.Plans.{PlanOp, p_load, p_filter, p_foreach, p_group_all, p_group, p_join, p_union, p_distinct, p_order, p_limit, p_store, p_assert, p_rank}
use Rattle.pig_runs.specs.Cutting.{Point}
use Rattle.pig_physical.specs.declared.waves.WaveHead.{WaveHead}
use Rattle.pig_physical.specs.declared.waves.WaveKind.{WaveKind}
use Rattle.pig_physical.specs.declared.waves.WaveKind.TheVariants as kinds
use Rattle.pig_physical.specs.Outs.{Outs}
use Rattle.pig_physical.specs.Running.{IsRun}
use Rattle.pig_physical.specs.Stages.{MapTask, Stages, Task, boundaries, enters_first, first_wave, head_of, heads, heads_at, map_tasks, partition_tasks, parts_at, path_tasks, store_tasks, stores, t_map, t_rank, t_reduce, tasks_by, tasks_in, tasks_of, tasks_on, waves_of, ways_into, ways_to}
use Rattle.pig_waves.proofs.Places.{all_flat, all_flat_where}
use Rattle.pig_counts.proofs.TaskCounts.{AreAscending}

-- of rising numbers, those below one are the ones in front of it
below_first : (k : ℕ) (ks : List ℕ) → Rising (k ∷ ks) → filter (λ j. nat_lt j k) (k ∷ ks) ≡ []
below_first k ks h =
    filter_none (λ j. nat_lt j k) (k ∷ ks)
    (grind (arith, nat_tests), each_weaker (λ j. k < j) (λ j. nat_lt j k ≡ false) (λ j m. grind (arith, nat_tests, m)) ks h.0)

stands_behind : (f : ℕ) (front : List ℕ) (k : ℕ) (ks : List ℕ) → AllByRecursion (λ j. f < j) (front ++ k ∷ ks) → f < k
stands_behind f [] k ks h = h.0
stands_behind f (g ∷ front) k ks h = stands_behind f front k ks h.1

in_front : (front : List ℕ) (k : ℕ) (ks : List ℕ) → Rising (front ++ k ∷ ks) → filter (λ j. nat_lt j k) (front ++ k ∷ ks) ≡ front
in_front [] k ks h = below_first k ks h
in_front (f ∷ front) k ks h =
    let less : f < k = stands_behind f front k ks h.0 in
    let kept : nat_lt f k ≡ true = grind (arith, nat_tests, less) in
    ap (λ b. cond b (f ∷ filter (λ j. nat_lt j k) (front ++ k ∷ ks)) (filter (λ j. nat_lt j k) (front ++ k ∷ ks))) kept
    ∙ ap (λ js. f ∷ js) (in_front front k ks h.1)

-- a STORE sorts nothing
unsorted : (o : PlanOp) → is_store o ≡ true → sort_keys o ≡ None
unsorted (p_load path delim columns) h = refl
unsorted (p_filter input test) h = refl
unsorted (p_foreach input block) h = refl
unsorted (p_group_all input) h = refl
unsorted (p_group keyed) h = refl
unsorted (p_join keyed side replicated) h = refl
unsorted (p_union numbers) h = refl
unsorted (p_distinct input) h = refl
unsorted (p_order input keys) h = absurd (true≢false (sym h))
unsorted (p_limit input count) h = refl
unsorted (p_store input path delim) h = refl
unsorted (p_assert input test message) h = refl
unsorted (p_rank input keys dense) h = absurd (true≢false (sym h))

any_points : (o : PlanOp) → sort_keys o ≡ None → (points : List Point) → AreAscending o points
any_points o none points keys is = absurd (cc)

-- the waves whose tasks are map tasks of their own node
abbrev hands_on : WaveKind → Bool
hands_on kinds.Map = true
hands_on kinds.Reduce = false
hands_on kinds.Copy = true
hands_on kinds.Probe = true
hands_on kinds.Rank = false
hands_on kinds.Store = false

module _ (s : Stages) (inputs : List Input) (points : ℕ → List Point) (outs : Outs) (run : IsRun s inputs points outs) where
  -- ---- tasks

  pub record MapStands (w : ℕ) (t : MapTask) : Type 0 where
    pub o : PlanOp
    pub at : op_at s.plan t.node ≡ Some o
    pub rise : AreAscending o (points w)

  abbrev pub TaskStands : ℕ → Task → Type 0
  TaskStands w (t_map t) = MapStands w t
  TaskStands w (t_reduce t) = ⊤
  TaskStands w (t_rank t) = ⊤

  on_ways : (w k : ℕ) (o : PlanOp) → op_at s.plan k ≡ Some o → AreAscending o (points w) → (ways : List Entering) → AllByRecursion (MapStands w) (tasks_on s k ways)
  on_ways w k o at rise =
      all_flat (MapStands w) (path_tasks s k)
      (λ way. each-map (MapStands w) (λ part. record { node = k; way = way; part = part }) (parts_at s way.path.source)
      (each_of_all (λ part. MapStands w (record { node = k; way = way; part = part })) (λ part. record { o = o; at = at; rise = rise }) (parts_at s way.path.source)))

  abbrev is_storing : ℕ → Bool
  is_storing k = option_map_or is_store (op_at s.plan k) false

  store_stands : (w k : ℕ) → is_storing k ≡ true → AllByRecursion (MapStands w) (store_tasks s k)
  store_stands w k here = by_op (op_at s.plan k) refl here
    where
      by_op : (found : Option PlanOp) → op_at s.plan k ≡ found → option_map_or is_store found false ≡ true → AllByRecursion (MapStands w) (store_tasks s k)
      by_op None at h = absurd (true≢false (sym h))
      by_op (Some o) at h = on_ways w k o at (any_points o (unsorted o h) (points w)) (ways_to s.plan k)

  reduces_stand : (w before k : ℕ) (o : PlanOp) → AllByRecursion (TaskStands w) (map t_reduce (partition_tasks s before k o))
  reduces_stand w before k o =
      each-map (TaskStands w) t_reduce (partition_tasks s before k o) (each_of_all (λ t. TaskStands w (t_reduce t)) (λ t. tt) (partition_tasks s before k o))

  ranks_stand : (w before k : ℕ) (o : PlanOp) → AllByRecursion (TaskStands w) (map t_rank (partition_tasks s before k o))
  ranks_stand w before k o =
      each-map (TaskStands w) t_rank (partition_tasks s before k o) (each_of_all (λ t. TaskStands w (t_rank t)) (λ t. tt) (partition_tasks s before k o))

  by_kind : (w : ℕ) (kind : WaveKind) (k : ℕ) (o : PlanOp) → op_at s.plan k ≡ Some o → (hands_on kind ≡ true → AreAscending o (points w))
      → AllByRecursion (TaskStands w) (tasks_by s w kind k o)
  by_kind w kinds.Map k o at rise = each-map (TaskStands w) t_map (map_tasks s k o) (on_ways w k o at (rise refl) (ways_into s.plan o))
  by_kind w kinds.Reduce k o at rise = reduces_stand w (w - 1) k o
  by_kind w kinds.Copy k o at rise =
      each-map (TaskStands w) t_map (filter (λ t. not (enters_first t)) (map_tasks s k o))
      (each-filter (λ t. not (enters_first t)) (MapStands w) (map_tasks s k o) (on_ways w k o at (rise refl) (ways_into s.plan o)))
  by_kind w kinds.Probe k o at rise =
      each-map (TaskStands w) t_map (filter enters_first (map_tasks s k o))
      (each-filter enters_first (MapStands w) (map_tasks s k o) (on_ways w k o at (rise refl) (ways_into s.plan o)))
  by_kind w kinds.Rank k o at rise = ranks_stand w (w - 1) k o
  by_kind w kinds.Store k o at rise =
      each-map (TaskStands w) t_map (flat_map (store_tasks s) (stores s.plan))
      (all_flat_where (MapStands w) (λ j. is_storing j ≡ true) (store_tasks s) (store_stands w) (stores s.plan) (each_filtered is_storing (live s.plan)))

  -- ---- waves

  -- the points of a wave ascend where it has map tasks of a node that sorts
  abbrev Fits : ℕ → WaveHead → Type 0
  Fits w head = (o : PlanOp) → op_at s.plan head.node ≡ Some o → hands_on head.kind ≡ true → AreAscending o (points w)

  -- of waves in turn, from a number on
  abbrev AllFit : ℕ → List WaveHead → Type 0
  AllFit w [] = ⊤
  AllFit w (head ∷ hs) = Fits w head × AllFit (w + 1) hs

  fits_at : (a : ℕ) (hs : List WaveHead) (i : ℕ) (head : WaveHead) → AllFit a hs → slice_get hs i ≡ Some head → Fits (a + i) head
  fits_at a [] i head all at = absurd (cc)
  fits_at a (h ∷ hs) zero head all at =
      let is : h ≡ head = some_same h head at in
      let zeroth : a ≡ a + 0 = omega arith in
      subst (λ w. Fits w head) zeroth (subst (Fits a) is all.0)
  fits_at a (h ∷ hs) (suc i) head all at =
      let next : a + 1 + i ≡ a + suc i = omega arith in
      subst (λ w. Fits w head) next (fits_at (a + 1) hs i head all.1 at)

  all-append : (a : ℕ) (hs js : List WaveHead) → AllFit a hs → AllFit (a + length hs) js → AllFit a (hs ++ js)
  all-append a [] js first second = let zeroth : a + 0 ≡ a = omega arith in subst (λ w. AllFit w js) zeroth second
  all-append a (h ∷ hs) js first second =
      let next : a + suc (length hs) ≡ a + 1 + length hs = omega arith in
      (first.0, all-append (a + 1) hs js first.1 (subst (λ w. AllFit w js) next second))

  -- those of one node: only the first has map tasks, or the node sorts nothing
  abbrev KindsFit : ℕ → PlanOp → List WaveKind → Type 0
  KindsFit w o [] = ⊤
  KindsFit w o (kind ∷ more) = (hands_on kind ≡ true → AreAscending o (points w)) × KindsFit (w + 1) o more

  reduce_fits : (w : ℕ) (o : PlanOp) → hands_on kinds.Reduce ≡ true → AreAscending o (points w)
  reduce_fits w o h = absurd (true≢false (sym h))

  kinds_fit : (w : ℕ) (o : PlanOp) → AreAscending o (points w) → KindsFit w o (waves_of o)
  kinds_fit w (p_join keyed side true) rise = (λ h. rise, (λ h. any_points (p_join keyed side true) refl (points (w + 1)), tt))
  kinds_fit w (p_join keyed side false) rise = (λ h. rise, (reduce_fits (w + 1) (p_join keyed side false), tt))
  kinds_fit w (p_rank input keys dense) rise =
      (λ h. rise, (reduce_fits (w + 1) (p_rank input keys dense), (λ h. absurd (true≢false (sym h)), tt)))
  kinds_fit w (p_load path delim columns) rise = (λ h. rise, (reduce_fits (w + 1) (p_load path delim columns), tt))
  kinds_fit w (p_filter input test) rise = (λ h. rise, (reduce_fits (w + 1) (p_filter input test), tt))
  kinds_fit w (p_foreach input block) rise = (λ h. rise, (reduce_fits (w + 1) (p_foreach input block), tt))
  kinds_fit w (p_group_all input) rise = (λ h. rise, (reduce_fits (w + 1) (p_group_all input), tt))
  kinds_fit w (p_group keyed) rise = (λ h. rise, (reduce_fits (w + 1) (p_group keyed), tt))
  kinds_fit w (p_union numbers) rise = (λ h. rise, (reduce_fits (w + 1) (p_union numbers), tt))
  kinds_fit w (p_distinct input) rise = (λ h. rise, (reduce_fits (w + 1) (p_distinct input), tt))
  kinds_fit w (p_order input keys) rise = (λ h. rise, (reduce_fits (w + 1) (p_order input keys), tt))
  kinds_fit w (p_limit input count) rise = (λ h. rise, (reduce_fits (w + 1) (p_limit input count), tt))
  kinds_fit w (p_store input path delim) rise = (λ h. rise, (reduce_fits (w + 1) (p_store input path delim), tt))
  kinds_fit w (p_assert input test message) rise = (λ h. rise, (reduce_fits (w + 1) (p_assert input test message), tt))

  heads_fit : (w k : ℕ) (o : PlanOp) → op_at s.plan k ≡ Some o → (ws : List WaveKind) → KindsFit w o ws → AllFit w (map (head_of s.plan k) ws)
  heads_fit w k o at [] h = tt
  heads_fit w k o at (kind ∷ ws) h =
      (λ p found hands. subst (λ q. AreAscending q (points w)) (some_same o p (sym at ∙ found)) (h.0 hands), heads_fit (w + 1) k o at ws h.1)

  node_fits : (k : ℕ) → is_live s.plan k ≡ true → AllFit (first_wave s.plan k) (heads_at s.plan k)
  node_fits k alive = by_op (op_at s.plan k) refl
    where
      by_op : (found : Option PlanOp) → op_at s.plan k ≡ found → AllFit (first_wave s.plan k) (option_map_or (λ o. map (head_of s.plan k) (waves_of o)) found [])
      by_op None at = tt
      by_op (Some o) at =
          heads_fit (first_wave s.plan k) k o at (waves_of o) (kinds_fit (first_wave s.plan k) o (λ keys is. (run.cuts k o keys at alive is).ascend))

  -- ---- all waves

  abbrev width : List ℕ → ℕ
  width ks = length (flat_map (heads_at s.plan) ks)

  width_more : (front : List ℕ) (k : ℕ) → width (front ++ k ∷ []) ≡ width front + length (heads_at s.plan k)
  width_more front k =
      ap length (flat_map-append (heads_at s.plan) front (k ∷ []))
      ∙ length-append (flat_map (heads_at s.plan) front) (flat_map (heads_at s.plan) (k ∷ []))
      ∙ ap (λ hs. width front + length hs) (append-nil (heads_at s.plan k))

  abbrev is_here : ℕ → Bool
  is_here k = option_map_or is_boundary (op_at s.plan k) false

  boundaries_rise : Rising (boundaries s.plan)
  boundaries_rise = filter_rises is_here (live s.plan) (filter_rises (is_live s.plan) (range_with_len 0 (length s.plan)) (range_rises 0 (length s.plan)))

  boundaries_live : AllByRecursion (λ k. is_live s.plan k ≡ true) (boundaries s.plan)
  boundaries_live = each-filter is_here (λ k. is_live s.plan k ≡ true) (live s.plan) (each_filtered (is_live s.plan) (range_with_len 0 (length s.plan)))

  boundaries_fit : (front ks : List ℕ) → boundaries s.plan ≡ front ++ ks → AllByRecursion (λ k. is_live s.plan k ≡ true) ks → AllFit (width front) (flat_map (heads_at s.plan) ks)
  boundaries_fit front [] is alive = tt
  boundaries_fit front (k ∷ ks) is alive =
      let first : first_wave s.plan k ≡ width front = ap width (ap (filter (λ j. nat_lt j k)) is ∙ in_front front k ks (subst Rising is boundaries_rise)) in
      all-append (width front) (heads_at s.plan k) (flat_map (heads_at s.plan) ks)
      (subst (λ w. AllFit w (heads_at s.plan k)) first (node_fits k alive.0))
      (subst (λ w. AllFit w (flat_map (heads_at s.plan) ks)) (width_more front k)
      (boundaries_fit (front ++ k ∷ []) ks (is ∙ sym (append_assoc front (k ∷ []) ks)) alive.1))

  stores_fit : (w : ℕ) (ks : List ℕ) → AllFit w (map (λ k. head_of s.plan k kinds.Store) ks)
  stores_fit w [] = tt
  stores_fit w (k ∷ ks) = (λ o at hands. absurd (true≢false (sym hands)), stores_fit (w + 1) ks)

  all_fit : AllFit 0 (heads s.plan)
  all_fit =
      all-append 0 (flat_map (heads_at s.plan) (boundaries s.plan)) (map (λ k. head_of s.plan k kinds.Store) (take 1 (stores s.plan)))
      (boundaries_fit [] (boundaries s.plan) refl boundaries_live) (stores_fit _ (take 1 (stores s.plan)))

  pub tasks_stand : (w : ℕ) → AllByRecursion (TaskStands w) (tasks_in s w)
  tasks_stand w = by_head (slice_get (heads s.plan) w) refl
    where
      by_op : (head : WaveHead) → Fits w head → (found : Option PlanOp) → op_at s.plan head.node ≡ found
          → AllByRecursion (TaskStands w) (option_map_or (tasks_by s w head.kind head.node) found [])
      by_op head fits None at = tt
      by_op head fits (Some o) at = by_kind w head.kind head.node o at (fits o at)

      by_head : (found : Option WaveHead) → slice_get (heads s.plan) w ≡ found → AllByRecursion (TaskStands w) (option_map_or (tasks_of s w) found [])
      by_head None at = tt
      by_head (Some head) at =
          let zeroth : 0 + w ≡ w = omega arith in
          by_op head (subst (λ v. Fits v head) zeroth (fits_at 0 (heads s.plan) w head all_fit at)) (op_at s.plan head.node) refl
