-- Where the waves of a boundary node stand among all.
use Rattle.std.specs.Prelude.{◌≡◌, ◌+◌, ◌-◌, ℕ, Bool, true, false, nat_lt, List, [], ◌∷◌, ◌++◌, length, map, take, Some, slice_get, refl, if◌then◌else◌}
use Rattle.std.proofs.Common.{ap, sym, ◌∙◌, arith, append_assoc, true≢false}
use Rattle.std.specs.List.{filter, flat_map, range_with_len}
use Rattle.std.specs.Option.{option_map_or}
use Rattle.std.proofs.lemmas.Grind.{flat_map-append}
use Rattle.pig_value.proofs.list_laws.Elementwise.{filter_rises, get-behind, range_rises, split_off}
use Rattle.pig_value.specs.Elementwise.{Rising}
use Rattle.pig_plan.proofs.Meanings.{live_within}
use Rattle.pig_plan.specs.Nodes.{is_boundary, is_live, live, op_at}
use Rattle.pig_plan.specs.Plans.{Plan, PlanOp, p_load, p_filter, p_foreach, p_group_all, p_group, p_join, p_union, p_distinct, p_order, p_limit, p_store, p_assert, p_rank}
use Rattle.pig_physical.specs.declared.waves.WaveHead.{WaveHead}
use Rattle.pig_physical.specs.declared.waves.WaveKind.{WaveKind}
use Rattle.pig_physical.specs.declared.waves.WaveKind.TheVariants as kinds
use Rattle.pig_physical.specs.Stages.{Stages, boundaries, first_wave, head_of, heads, heads_at, is_replicated, partition_tasks, stores, t_rank, t_reduce, tasks_by, tasks_in, tasks_of, waves_of}
use Rattle.pig_waves.proofs.Places.{filtered_at, get_front, range_at}
use Rattle.pig_waves.specs.Laws.{ProbesAt, StandsAt, ranks}

module _ (plan : Plan) where
  abbrev is_here : ℕ → Bool
  is_here k = option_map_or is_boundary (op_at plan k) false

  boundaries_rise : Rising (boundaries plan)
  boundaries_rise = filter_rises is_here (live plan) (filter_rises (is_live plan) (range_with_len 0 (length plan)) (range_rises 0 (length plan)))

  -- a live node stands among the live ones, and a live boundary node among these
  pub live_at : (k : ℕ) → is_live plan k ≡ true → (i : ℕ) × (slice_get (live plan) i ≡ Some k)
  live_at k alive =
      let zeroth : 0 + k ≡ k = omega arith in
      filtered_at (is_live plan) (range_with_len 0 (length plan)) k k (range_at 0 (length plan) k (live_within plan k alive) ∙ ap Some zeroth) alive

  boundary_at : (k : ℕ) → is_live plan k ≡ true → is_here k ≡ true → (i : ℕ) × (slice_get (boundaries plan) i ≡ Some k)
  boundary_at k alive here = let found = live_at k alive in filtered_at is_here (live plan) found.0 k found.1 here

  abbrev last_heads : List WaveHead
  last_heads = map (λ k. head_of plan k kinds.Store) (take 1 (stores plan))

  -- the heads before a node's, its own, and those behind them
  pub heads_cut : (k : ℕ) → is_live plan k ≡ true → is_here k ≡ true
      → heads plan ≡ flat_map (heads_at plan) (filter (λ j. nat_lt j k) (boundaries plan)) ++ (heads_at plan k ++ (flat_map (heads_at plan) (filter (λ j. nat_lt k j) (boundaries plan)) ++ last_heads))
  heads_cut k alive here =
      let place = boundary_at k alive here in
      let before = filter (λ j. nat_lt j k) (boundaries plan) in
      let behind = filter (λ j. nat_lt k j) (boundaries plan) in
      ap (λ ks. flat_map (heads_at plan) ks ++ last_heads) (split_off (boundaries plan) place.0 k boundaries_rise place.1)
      ∙ ap (λ hs. hs ++ last_heads) (flat_map-append (heads_at plan) before (k ∷ behind))
      ∙ append_assoc (flat_map (heads_at plan) before) (heads_at plan k ++ flat_map (heads_at plan) behind) last_heads
      ∙ ap (λ hs. flat_map (heads_at plan) before ++ hs) (append_assoc (heads_at plan k) (flat_map (heads_at plan) behind) last_heads)

  pub head_at : (k j : ℕ) (h : WaveHead) → is_live plan k ≡ true → is_here k ≡ true → slice_get (heads_at plan k) j ≡ Some h → slice_get (heads plan) (first_wave plan k + j) ≡ Some h
  head_at k j h alive here at =
      let before = flat_map (heads_at plan) (filter (λ i. nat_lt i k) (boundaries plan)) in
      let own = heads_at plan k ++ (flat_map (heads_at plan) (filter (λ i. nat_lt k i) (boundaries plan)) ++ last_heads) in
      ap (λ hs. slice_get hs (first_wave plan k + j)) (heads_cut k alive here)
      ∙ get-behind before own j
      ∙ get_front (heads_at plan k) (flat_map (heads_at plan) (filter (λ i. nat_lt k i) (boundaries plan)) ++ last_heads) j h at

-- the waves behind the first two: that of a RANK
abbrev pub further : PlanOp → List WaveKind
further o = if ranks o then kinds.Rank ∷ [] else []

pub two_waves : (o : PlanOp) → is_replicated o ≡ false → waves_of o ≡ kinds.Map ∷ kinds.Reduce ∷ further o
two_waves (p_join inputs side true) h = absurd (true≢false h)
two_waves (p_join inputs side false) h = refl
two_waves (p_rank input keys dense) h = refl
two_waves (p_load path delim columns) h = refl
two_waves (p_filter input test) h = refl
two_waves (p_foreach input block) h = refl
two_waves (p_group_all input) h = refl
two_waves (p_group inputs) h = refl
two_waves (p_union inputs) h = refl
two_waves (p_distinct input) h = refl
two_waves (p_order input keys) h = refl
two_waves (p_limit input count) h = refl
two_waves (p_store input path delim) h = refl
two_waves (p_assert input test message) h = refl

-- a replicated JOIN is a boundary node with waves of its own
pub record IsProbing (o : PlanOp) : Type 0 where
  pub bounds : is_boundary o ≡ true
  pub waves : waves_of o ≡ kinds.Copy ∷ kinds.Probe ∷ []

pub probing : (o : PlanOp) → is_replicated o ≡ true → IsProbing o
probing (p_join inputs side true) h = record { bounds = refl; waves = refl }
probing (p_join inputs side false) h = absurd (true≢false (sym h))
probing (p_rank input keys dense) h = absurd (true≢false (sym h))
probing (p_load path delim columns) h = absurd (true≢false (sym h))
probing (p_filter input test) h = absurd (true≢false (sym h))
probing (p_foreach input block) h = absurd (true≢false (sym h))
probing (p_group_all input) h = absurd (true≢false (sym h))
probing (p_group inputs) h = absurd (true≢false (sym h))
probing (p_union inputs) h = absurd (true≢false (sym h))
probing (p_distinct input) h = absurd (true≢false (sym h))
probing (p_order input keys) h = absurd (true≢false (sym h))
probing (p_limit input count) h = absurd (true≢false (sym h))
probing (p_store input path delim) h = absurd (true≢false (sym h))
probing (p_assert input test message) h = absurd (true≢false (sym h))

module _ (s : Stages) (k : ℕ) (o : PlanOp) (at : op_at s.plan k ≡ Some o) (alive : is_live s.plan k ≡ true) where
  abbrev first : ℕ
  first = first_wave s.plan k

  module _ (ks : List WaveKind) (waves : waves_of o ≡ ks) (here : is_boundary o ≡ true) where
    own_heads : heads_at s.plan k ≡ map (head_of s.plan k) ks
    own_heads = ap (λ found. option_map_or (λ p. map (head_of s.plan k) (waves_of p)) found []) at ∙ ap (map (head_of s.plan k)) waves

    -- the tasks of one of the node's waves
    tasks_at : (j : ℕ) (kind : WaveKind) → slice_get (map (head_of s.plan k) ks) j ≡ Some (head_of s.plan k kind)
        → tasks_in s (first + j) ≡ tasks_by s (first + j) kind k o
    tasks_at j kind own =
        ap (λ found. option_map_or (tasks_of s (first + j)) found [])
        (head_at s.plan k j (head_of s.plan k kind) alive (ap (λ found. option_map_or is_boundary found false) at ∙ here) (ap (λ hs. slice_get hs j) own_heads ∙ own))
        ∙ ap (λ found. option_map_or (tasks_by s (first + j) kind k) found []) at

  zeroth : first ≡ first + 0
  zeroth = omega arith

  pub stands_at : is_boundary o ≡ true → is_replicated o ≡ false → StandsAt s k o
  stands_at here staged =
      let waves = two_waves o staged in
      record {
        maps = ap (tasks_in s) zeroth ∙ tasks_at (kinds.Map ∷ kinds.Reduce ∷ further o) waves here 0 kinds.Map refl;
        reduces =
            tasks_at (kinds.Map ∷ kinds.Reduce ∷ further o) waves here 1 kinds.Reduce refl
            ∙ (let e : first + 1 - 1 ≡ first = omega arith in ap (λ w. map t_reduce (partition_tasks s w k o)) e);
        ranks = λ is.
            tasks_at (kinds.Map ∷ kinds.Reduce ∷ further o) waves here 2 kinds.Rank
            (ap (λ b. slice_get (map (head_of s.plan k) (kinds.Map ∷ kinds.Reduce ∷ (if b then kinds.Rank ∷ [] else []))) 2) is)
            ∙ (let e : first + 2 - 1 ≡ first + 1 = omega arith in ap (λ w. map t_rank (partition_tasks s w k o)) e);
      }

  pub probes_at : is_replicated o ≡ true → ProbesAt s k o
  probes_at replicated =
      let is = probing o replicated in
      record {
        copies = ap (tasks_in s) zeroth ∙ tasks_at (kinds.Copy ∷ kinds.Probe ∷ []) is.waves is.bounds 0 kinds.Copy refl;
        probes = tasks_at (kinds.Copy ∷ kinds.Probe ∷ []) is.waves is.bounds 1 kinds.Probe refl;
      }
