-- Where the wave of a replicated JOIN's probes stands, and of whom its tasks are.
use Rattle.std.specs.Prelude.{◌≡◌, ◌<◌, ◌+◌, ◌-◌, ℕ, zero, suc, true, false, not, nat_lt, List, [], ◌∷◌, ◌++◌, length, map, take, Option, None, Some, slice_get, ◌⊎◌, refl}
use Rattle.std.proofs.Common.{inl, inr, ap, sym, ◌∙◌, arith, subst, true≢false}
use Rattle.std.specs.List.{AllByRecursion, filter, flat_map}
use Rattle.std.specs.Option.{option_map_or}
use Rattle.std.proofs.lemmas.Bool.Decides.{nat_tests}
use Rattle.std.proofs.lemmas.Bool.{cases_lt, eq-eqb}
use Rattle.pig_value.proofs.list_laws.Elementwise.{get-behind}
use Rattle.pig_value.proofs.list_laws.Indexing.{some_at}
use Rattle.pig_value.proofs.list_laws.Listing.{each-append, each-map, each_at, each_filtered, each_of_all, each_weaker, some_same}
use Rattle.pig_plan.proofs.Carries.{each-flat_map}
use Rattle.pig_plan.specs.Nodes.{is_boundary, is_live, is_store, op_at}
use Rattle.pig_plan.specs.Plans.{Plan, PlanOp, p_load, p_filter, p_foreach, p_group_all, p_group, p_join, p_union, p_distinct, p_order, p_limit, p_store, p_assert, p_rank}
use Rattle.pig_physical.specs.Stages.{MapTask, Stages, boundaries, enters_first, first_wave, head_of, heads, heads_at, is_replicated, map_tasks, partition_tasks, store_tasks, stores, t_map, tasks_by, tasks_in, waves_of, ways_into, ways_to}
use Rattle.pig_physical.specs.declared.waves.WaveHead.{WaveHead}
use Rattle.pig_physical.specs.declared.waves.WaveKind.{WaveKind}
use Rattle.pig_physical.specs.declared.waves.WaveKind.TheVariants as kinds
use Rattle.pig_waves.proofs.Among.{Among, made_of}
use Rattle.pig_waves.proofs.Heads.{heads_cut, probing}
use Rattle.pig_waves.proofs.Places.{get_front}
use Rattle.pig_fitting.proofs.Standing.{HeadOf, among_filtered, among_live, among_maps, head_is, headed, no_map, no_map_ranks, of_node, of_stores, on_ways, passes_there}

-- ---- its number

module _ (plan : Plan) where
  own_node : (j : ℕ) → AllByRecursion (λ h. h.node ≡ j) (heads_at plan j)
  own_node j = by_op (op_at plan j)
    where
      by_op : (found : Option PlanOp) → AllByRecursion (λ h. h.node ≡ j) (option_map_or (λ o. map (head_of plan j) (waves_of o)) found [])
      by_op None = tt
      by_op (Some o) = each-map (λ h. h.node ≡ j) (head_of plan j) (waves_of o) (each_of_all (λ kind. j ≡ j) (λ kind. refl) (waves_of o))

  module _ (k : ℕ) (o : PlanOp) (at : op_at plan k ≡ Some o) (alive : is_live plan k ≡ true) (replicated : is_replicated o ≡ true) where
    abbrev before : List WaveHead
    before = flat_map (heads_at plan) (filter (λ j. nat_lt j k) (boundaries plan))

    abbrev behind : List WaveHead
    behind = flat_map (heads_at plan) (filter (λ j. nat_lt k j) (boundaries plan)) ++ map (λ j. head_of plan j kinds.Store) (take 1 (stores plan))

    lower : AllByRecursion (λ h. h.node < k) before
    lower =
        each-flat_map (λ h. h.node < k) (heads_at plan) (filter (λ j. nat_lt j k) (boundaries plan))
        (each_weaker (λ j. nat_lt j k ≡ true) (λ j. AllByRecursion (λ h. h.node < k) (heads_at plan j))
        (λ j less. each_weaker (λ h. h.node ≡ j) (λ h. h.node < k) (λ h is. grind (arith, nat_tests, less, is)) (heads_at plan j) (own_node j))
        (filter (λ j. nat_lt j k) (boundaries plan)) (each_filtered (λ j. nat_lt j k) (boundaries plan)))

    abbrev Other : WaveHead → Type 0
    Other h = (k < h.node) ⊎ (h.kind ≡ kinds.Store)

    others : AllByRecursion Other behind
    others =
        each-append Other (flat_map (heads_at plan) (filter (λ j. nat_lt k j) (boundaries plan))) (map (λ j. head_of plan j kinds.Store) (take 1 (stores plan)))
        (each-flat_map Other (heads_at plan) (filter (λ j. nat_lt k j) (boundaries plan))
        (each_weaker (λ j. nat_lt k j ≡ true) (λ j. AllByRecursion Other (heads_at plan j))
        (λ j less. each_weaker (λ h. h.node ≡ j) Other (λ h is. inl (grind (arith, nat_tests, less, is))) (heads_at plan j) (own_node j))
        (filter (λ j. nat_lt k j) (boundaries plan)) (each_filtered (λ j. nat_lt k j) (boundaries plan))))
        (each-map Other (λ j. head_of plan j kinds.Store) (take 1 (stores plan)) (each_of_all (λ j. Other (head_of plan j kinds.Store)) (λ j. inr refl) (take 1 (stores plan))))

    all_are : heads plan ≡ before ++ (head_of plan k kinds.Copy ∷ head_of plan k kinds.Probe ∷ behind)
    all_are =
        heads_cut plan k alive (ap (λ found. option_map_or is_boundary found false) at ∙ (probing o replicated).bounds)
        ∙ ap (λ own. before ++ (own ++ behind))
        (ap (λ found. option_map_or (λ p. map (head_of plan k) (waves_of p)) found []) at ∙ ap (map (head_of plan k)) (probing o replicated).waves)

    pub probe_place : (w : ℕ) (head : WaveHead) → slice_get (heads plan) w ≡ Some head → head.node ≡ k → head.kind ≡ kinds.Probe → w ≡ first_wave plan k + 1
    probe_place w head stands node kind = elim (cases_lt w (length before)) [
      | inl front ↦
          let found = some_at before w front in
          let same : found.0 ≡ head = some_same found.0 head (sym (ap (λ hs. slice_get hs w) all_are ∙ get_front before _ w found.0 found.1) ∙ stands) in
          let less : found.0.node < k = each_at (λ h. h.node < k) before w found.0 found.1 lower in
          let is : found.0.node ≡ k = ap (λ h. h.node) same ∙ node in
          absurd (omega (arith, less, is))
      | inr over ↦
          (let e : w ≡ length before + (w - length before) = omega arith in
          by_rest (w - length before) e (sym (get-behind before (head_of plan k kinds.Copy ∷ head_of plan k kinds.Probe ∷ behind) (w - length before))
          ∙ ap (slice_get (before ++ (head_of plan k kinds.Copy ∷ head_of plan k kinds.Probe ∷ behind))) (sym e) ∙ ap (λ hs. slice_get hs w) (sym all_are) ∙ stands))
    ]
      where
        by_rest : (n : ℕ) → w ≡ length before + n → slice_get (head_of plan k kinds.Copy ∷ head_of plan k kinds.Probe ∷ behind) n ≡ Some head → w ≡ first_wave plan k + 1
        by_rest zero e here = let wrong : kinds.Copy ≡ kinds.Probe = ap (λ h. h.kind) (some_same (head_of plan k kinds.Copy) head here) ∙ kind in absurd (cc)
        by_rest (suc zero) e here = e
        by_rest (suc (suc n)) e here = elim (each_at Other behind n head here others) [
          | inl more ↦ absurd (let is = node in omega (arith, more, is))
          | inr store ↦ (let wrong : kinds.Probe ≡ kinds.Store = sym kind ∙ store in absurd (cc))
        ]

-- ---- its tasks

-- the wave of a probing task: its kind, its node, and the copies before it
pub record ProbeIn (s : Stages) (w : ℕ) (t : MapTask) : Type 0 where
  pub head : WaveHead
  pub stands : slice_get (heads s.plan) w ≡ Some head
  pub kind : head.kind ≡ kinds.Probe
  pub node : t.node ≡ head.node

stores_join_none : (o : PlanOp) → is_store o ≡ true → is_replicated o ≡ false
stores_join_none (p_store input path delim) h = refl
stores_join_none (p_load path delim columns) h = absurd (true≢false (sym h))
stores_join_none (p_filter input test) h = absurd (true≢false (sym h))
stores_join_none (p_foreach input block) h = absurd (true≢false (sym h))
stores_join_none (p_group_all input) h = absurd (true≢false (sym h))
stores_join_none (p_group inputs) h = absurd (true≢false (sym h))
stores_join_none (p_join inputs side replicated) h = absurd (true≢false (sym h))
stores_join_none (p_union inputs) h = absurd (true≢false (sym h))
stores_join_none (p_distinct input) h = absurd (true≢false (sym h))
stores_join_none (p_order input keys) h = absurd (true≢false (sym h))
stores_join_none (p_limit input count) h = absurd (true≢false (sym h))
stores_join_none (p_assert input test message) h = absurd (true≢false (sym h))
stores_join_none (p_rank input keys dense) h = absurd (true≢false (sym h))

not_of_probes : (kind : WaveKind) → kind ≡ kinds.Map → Among kind (kinds.Copy ∷ kinds.Probe ∷ []) → ⊥
not_of_probes kind is h = by_place h.at h.is
  where
    by_place : (i : ℕ) → slice_get (kinds.Copy ∷ kinds.Probe ∷ []) i ≡ Some kind → ⊥
    by_place zero e = let wrong : kinds.Copy ≡ kinds.Map = some_same kinds.Copy kind e ∙ is in absurd (cc)
    by_place (suc zero) e = let wrong : kinds.Probe ≡ kinds.Map = some_same kinds.Probe kind e ∙ is in absurd (cc)
    by_place (suc (suc i)) e = absurd (cc)

-- a task of the first input of a replicated JOIN stands in a wave of probes, of its node
pub probe_in : (s : Stages) (w place : ℕ) (t : MapTask) → slice_get (tasks_in s w) place ≡ Some (t_map t)
    → (o : PlanOp) → op_at s.plan t.node ≡ Some o → is_replicated o ≡ true → t.way.input ≡ 0 → ProbeIn s w t
probe_in s w place t h o at replicated first =
    let in_wave = headed s w place (t_map t) h in
    by_kind in_wave.head in_wave.stands in_wave.op in_wave.at (head_is s.plan in_wave.head (record { at = w; is = in_wave.stands })) in_wave.head.kind refl in_wave.among
  where
    by_kind : (head : WaveHead) → slice_get (heads s.plan) w ≡ Some head → (p : PlanOp) → op_at s.plan head.node ≡ Some p → HeadOf s.plan head
        → (kind : WaveKind) → head.kind ≡ kind → Among (t_map t) (tasks_by s w kind head.node p) → ProbeIn s w t
    by_kind head stands p own (of_stores store) kinds.Map e g = let wrong = sym e ∙ store in absurd (cc)
    by_kind head stands p own (of_node live among) kinds.Map e g =
        let on = on_ways s head.node (ways_into s.plan p) t (among_maps (map_tasks s head.node p) t g) in
        let same : live.op ≡ o = some_same live.op o (sym live.at ∙ ap (op_at s.plan) (sym on.node) ∙ at) in
        absurd (not_of_probes head.kind e (subst (Among head.kind) (ap waves_of same ∙ (probing o replicated).waves) among))
    by_kind head stands p own is kinds.Copy e g =
        let later = passes_there (λ u. not (enters_first u)) (map_tasks s head.node p) t (among_maps (filter (λ u. not (enters_first u)) (map_tasks s head.node p)) t g) in
        absurd (true≢false (sym later ∙ ap not (eq-eqb t.way.input 0 first)))
    by_kind head stands p own is kinds.Probe e g =
        let among = among_filtered enters_first (map_tasks s head.node p) t (among_maps (filter enters_first (map_tasks s head.node p)) t g) in
        record { head = head; stands = stands; kind = e; node = (on_ways s head.node (ways_into s.plan p) t among).node }
    by_kind head stands p own is kinds.Reduce e g = absurd (no_map (partition_tasks s (w - 1) head.node p) t g)
    by_kind head stands p own is kinds.Rank e g = absurd (no_map_ranks (partition_tasks s (w - 1) head.node p) t g)
    by_kind head stands p own is kinds.Store e g =
        let made = made_of (store_tasks s) (stores s.plan) t (among_maps (flat_map (store_tasks s) (stores s.plan)) t g) in
        let store = among_live s.plan is_store made.x made.among in
        let on = on_ways s made.x (ways_to s.plan made.x) t made.made in
        let same : store.op ≡ o = some_same store.op o (sym store.at ∙ ap (op_at s.plan) (sym on.node) ∙ at) in
        absurd (true≢false (sym replicated ∙ stores_join_none o (ap is_store (sym same) ∙ store.is)))
