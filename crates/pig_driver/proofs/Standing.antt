-- The tasks of a wave name outputs of waves before it.
use Rattle.std.specs.Prelude.{◌≡◌, ◌<◌, ◌≤◌, ◌+◌, ◌-◌, ◌==◌, ⊤, ℕ, Bool, true, false, not, nat_lt, List, [], ◌∷◌, ◌++◌, length, map, take, Option, Some, None, slice_get, zero, suc, refl, if◌then◌else◌}
use Rattle.std.proofs.Common.{ap, sym, ◌∙◌, arith, cond, inl, inr, subst, append_assoc, true≢false}
use Rattle.std.specs.List.{AllByRecursion, filter, flat_map, range_with_len}
use Rattle.std.specs.Option.{option_map, option_map_or}
use Rattle.std.proofs.lemmas.Bool.{cases_lt, eq-eqb}
use Rattle.std.proofs.lemmas.Bool.Decides.{nat_tests}
use Rattle.std.proofs.lemmas.Grind.{flat_map-append}
use Rattle.std.proofs.lemmas.List.{length-append, length-map}
use Rattle.std.proofs.lemmas.List.FromFn.{length-range_with_len}
use Rattle.std.proofs.lemmas.List.Elements.{filter-append}
use Rattle.std.proofs.lemmas.Option.{slice_get_within}
use Rattle.pig_value.proofs.list_laws.Elementwise.{filter_rises, get-behind, range_below, range_rises, split_off}
use Rattle.pig_value.proofs.list_laws.Listing.{each-filter, each-map, each_at, each_filtered, each_of_all, each_weaker, filter_all, filter_none, some_same}
use Rattle.pig_value.specs.declared.inputs.Column.{Column}
use Rattle.pig_value.specs.declared.inputs.Input.{Input}
use Rattle.pig_value.specs.Elementwise.{Rising}
use Rattle.pig_plan.proofs.Meanings.{each_both, live_within}
use Rattle.pig_plan.specs.Nodes.{Entering, inputs_of, is_boundary, is_live, is_source, is_store, live, op_at}
use Rattle.pig_plan.specs.Plans.{PlanNode, PlanOp, p_load, p_filter, p_foreach, p_group_all, p_group, p_join, p_union, p_distinct, p_order, p_limit, p_store, p_assert, p_rank}
use Rattle.pig_plan.specs.Operators.{pieces_of}
use Rattle.pig_plan.specs.Valid.{IsPlan}
use Rattle.pig_storage.specs.Splits.{splits_of}
use Rattle.pig_physical.specs.Fitting.{HasNamed, HasPart}
use Rattle.pig_physical.specs.Outs.{Outs}
use Rattle.pig_physical.specs.Running.{AreSizes}
use Rattle.pig_physical.specs.Seen.{HasSource}
use Rattle.pig_physical.specs.Stages.{MapTask, Stages, Task, boundaries, enters_first, first_wave, head_of, heads, heads_at, is_replicated, last_wave, map_tasks, output_count, partition_tasks, parts_at, parts_of, path_tasks, reduce_count, store_tasks, stores, t_map, t_rank, t_reduce, tasks_by, tasks_in, tasks_of, tasks_on, waves_of, ways_into, ways_to}
use Rattle.pig_physical.specs.declared.parts.Part.{Part}
use Rattle.pig_physical.specs.declared.parts.Part.TheVariants as parts
use Rattle.pig_physical.specs.declared.waves.WaveKind.{WaveKind}
use Rattle.pig_physical.specs.declared.waves.WaveKind.TheVariants as kinds
use Rattle.pig_waves.proofs.Counted.{probes_counted}
use Rattle.pig_waves.proofs.Heads.{further, head_at, live_at, probes_at, probing, stands_at, two_waves}
use Rattle.pig_waves.proofs.Places.{all_flat_where, filtered_at}
use Rattle.pig_waves.proofs.Tasks.{name_node}
use Rattle.pig_waves.specs.Laws.{ProbesAt, StandsAt, copy_tasks, probe_tasks, ranks}
use Rattle.pig_driver.specs.Standing.{AreStanding, WavesFindWhatTheyName, WavesReadToldInputs}
use Rattle.pig_driver.proofs.Sources.{IsSourceOf, inputs_live, ways_from}

-- ---- replicated JOINs

-- a boundary node that is none has as many partitions as it has reduce tasks
outputs_are : (s : Stages) (o : PlanOp) → is_boundary o ≡ true → is_replicated o ≡ false → output_count s o ≡ reduce_count s.sizing.reducers o
outputs_are s (p_join inputs side true) h by_key = absurd (true≢false by_key)
outputs_are s (p_join inputs side false) h by_key = refl
outputs_are s (p_group_all input) h by_key = refl
outputs_are s (p_group inputs) h by_key = refl
outputs_are s (p_distinct input) h by_key = refl
outputs_are s (p_order input keys) h by_key = refl
outputs_are s (p_limit input count) h by_key = refl
outputs_are s (p_rank input keys dense) h by_key = refl
outputs_are s (p_load path delim columns) h by_key = absurd (true≢false (sym h))
outputs_are s (p_filter input test) h by_key = absurd (true≢false (sym h))
outputs_are s (p_foreach input block) h by_key = absurd (true≢false (sym h))
outputs_are s (p_union inputs) h by_key = absurd (true≢false (sym h))
outputs_are s (p_store input path delim) h by_key = absurd (true≢false (sym h))
outputs_are s (p_assert input test message) h by_key = absurd (true≢false (sym h))

-- nor is a STORE one
store_by_key : (o : PlanOp) → is_store o ≡ true → is_replicated o ≡ false
store_by_key (p_store input path delim) h = refl
store_by_key (p_load path delim columns) h = refl
store_by_key (p_filter input test) h = refl
store_by_key (p_foreach input block) h = refl
store_by_key (p_group_all input) h = refl
store_by_key (p_group inputs) h = refl
store_by_key (p_join inputs side replicated) h = absurd (true≢false (sym h))
store_by_key (p_union inputs) h = refl
store_by_key (p_distinct input) h = refl
store_by_key (p_order input keys) h = refl
store_by_key (p_limit input count) h = refl
store_by_key (p_assert input test message) h = refl
store_by_key (p_rank input keys dense) h = refl

module _ (s : Stages) (valid : IsPlan s.plan) where
  -- ---- boundary nodes in order

  abbrev is_here : ℕ → Bool
  is_here k = option_map_or is_boundary (op_at s.plan k) false

  abbrev all : List ℕ
  all = boundaries s.plan

  rise : Rising all
  rise = filter_rises is_here (live s.plan) (filter_rises (is_live s.plan) (range_with_len 0 (length s.plan)) (range_rises 0 (length s.plan)))

  -- a live boundary node
  pub record IsBoundaryAt (k : ℕ) : Type 0 where
    pub node : PlanNode
    pub at : slice_get s.plan k ≡ Some node
    pub alive : is_live s.plan k ≡ true
    pub is : is_boundary node.op ≡ true

  boundary_by : (k : ℕ) (found : Option PlanNode) → slice_get s.plan k ≡ found → is_live s.plan k ≡ true → option_map_or is_boundary (option_map (λ node. node.op) found) false ≡ true → IsBoundaryAt k
  boundary_by k None e alive h = absurd (true≢false (sym h))
  boundary_by k (Some node) e alive h = record { node = node; at = e; alive = alive; is = h }

  all_boundaries : AllByRecursion IsBoundaryAt all
  all_boundaries =
      each_both (λ k. is_live s.plan k ≡ true) (λ k. is_here k ≡ true) IsBoundaryAt (λ k alive here. boundary_by k (slice_get s.plan k) refl alive here) all
      (each-filter is_here (λ k. is_live s.plan k ≡ true) (live s.plan) (each_filtered (is_live s.plan) (range_with_len 0 (length s.plan))))
      (each_filtered is_here (live s.plan))

  pub op_here : (k : ℕ) (node : PlanNode) → slice_get s.plan k ≡ Some node → op_at s.plan k ≡ Some node.op
  op_here k node at = ap (option_map (λ n. n.op)) at

  -- a node whose rows go by key, and one that is a replicated JOIN
  abbrev pub ByKey : (k : ℕ) → IsBoundaryAt k → Type 0
  ByKey k is = is_replicated is.node.op ≡ false

  abbrev pub Replicated : (k : ℕ) → IsBoundaryAt k → Type 0
  Replicated k is = is_replicated is.node.op ≡ true

  heads_are : (k : ℕ) (is : IsBoundaryAt k) (ks : List WaveKind) → waves_of is.node.op ≡ ks → heads_at s.plan k ≡ map (head_of s.plan k) ks
  heads_are k is ks same =
      ap (λ found. option_map_or (λ p. map (head_of s.plan k) (waves_of p)) found []) (op_here k is.node is.at) ∙ ap (map (head_of s.plan k)) same

  pub its_waves : (k : ℕ) (is : IsBoundaryAt k) → ByKey k is → StandsAt s k is.node.op
  its_waves k is by_key = stands_at s k is.node.op (op_here k is.node is.at) is.alive is.is by_key

  pub its_probes : (k : ℕ) (is : IsBoundaryAt k) → Replicated k is → ProbesAt s k is.node.op
  its_probes k is replicated = probes_at s k is.node.op (op_here k is.node is.at) is.alive replicated

  -- the number of its waves
  abbrev pub count_of : (k : ℕ) → IsBoundaryAt k → ℕ
  count_of k is = length (waves_of is.node.op)

  -- a RANK has three waves, any other node two
  pub data Counted (k : ℕ) (is : IsBoundaryAt k) : Type 0 where
    two : ByKey k is → count_of k is ≡ 2 → Counted k is
    three : ByKey k is → ranks is.node.op ≡ true → count_of k is ≡ 3 → Counted k is
    probed : Replicated k is → count_of k is ≡ 2 → Counted k is

  pub counted : (k : ℕ) (is : IsBoundaryAt k) → Counted k is
  counted k is = by_test (is_replicated is.node.op) refl
    where
      by_rank : ByKey k is → (b : Bool) → ranks is.node.op ≡ b → Counted k is
      by_rank h false e = two h (ap length (two_waves is.node.op h) ∙ ap (λ b. length (kinds.Map ∷ kinds.Reduce ∷ (if b then kinds.Rank ∷ [] else []))) e)
      by_rank h true e = three h e (ap length (two_waves is.node.op h) ∙ ap (λ b. length (kinds.Map ∷ kinds.Reduce ∷ (if b then kinds.Rank ∷ [] else []))) e)

      by_test : (b : Bool) → is_replicated is.node.op ≡ b → Counted k is
      by_test false e = by_rank e (ranks is.node.op) refl
      by_test true e = probed e (ap length (probing is.node.op e).waves)

  -- the head of the wave at a place among the node's own
  own_head : (k : ℕ) (is : IsBoundaryAt k) (j : ℕ) (kind : WaveKind) → slice_get (heads_at s.plan k) j ≡ Some (head_of s.plan k kind)
      → slice_get (heads s.plan) (first_wave s.plan k + j) ≡ Some (head_of s.plan k kind)
  own_head k is j kind own =
      head_at s.plan k j (head_of s.plan k kind) is.alive (ap (λ found. option_map_or is_boundary found false) (op_here k is.node is.at) ∙ is.is) own

  first_is : (k : ℕ) → first_wave s.plan k ≡ first_wave s.plan k + 0
  first_is k = omega arith

  pub its_head : (k : ℕ) (is : IsBoundaryAt k) → ByKey k is → slice_get (heads s.plan) (first_wave s.plan k) ≡ Some (head_of s.plan k kinds.Map)
  its_head k is by_key =
      ap (slice_get (heads s.plan)) (first_is k)
      ∙ own_head k is 0 kinds.Map (ap (λ hs. slice_get hs 0) (heads_are k is (kinds.Map ∷ kinds.Reduce ∷ further is.node.op) (two_waves is.node.op by_key)))

  pub its_last_head : (k : ℕ) (is : IsBoundaryAt k) → ByKey k is → slice_get (heads s.plan) (first_wave s.plan k + 1) ≡ Some (head_of s.plan k kinds.Reduce)
  its_last_head k is by_key =
      own_head k is 1 kinds.Reduce (ap (λ hs. slice_get hs 1) (heads_are k is (kinds.Map ∷ kinds.Reduce ∷ further is.node.op) (two_waves is.node.op by_key)))

  pub its_rank_head : (k : ℕ) (is : IsBoundaryAt k) → ByKey k is → ranks is.node.op ≡ true
      → slice_get (heads s.plan) (first_wave s.plan k + 2) ≡ Some (head_of s.plan k kinds.Rank)
  its_rank_head k is by_key e =
      own_head k is 2 kinds.Rank
      (ap (λ hs. slice_get hs 2) (heads_are k is (kinds.Map ∷ kinds.Reduce ∷ further is.node.op) (two_waves is.node.op by_key))
      ∙ ap (λ b. slice_get (map (head_of s.plan k) (kinds.Map ∷ kinds.Reduce ∷ (if b then kinds.Rank ∷ [] else []))) 2) e)

  pub its_copy_head : (k : ℕ) (is : IsBoundaryAt k) → Replicated k is → slice_get (heads s.plan) (first_wave s.plan k) ≡ Some (head_of s.plan k kinds.Copy)
  its_copy_head k is replicated =
      ap (slice_get (heads s.plan)) (first_is k)
      ∙ own_head k is 0 kinds.Copy (ap (λ hs. slice_get hs 0) (heads_are k is (kinds.Copy ∷ kinds.Probe ∷ []) (probing is.node.op replicated).waves))

  pub its_probe_head : (k : ℕ) (is : IsBoundaryAt k) → Replicated k is → slice_get (heads s.plan) (first_wave s.plan k + 1) ≡ Some (head_of s.plan k kinds.Probe)
  its_probe_head k is replicated =
      own_head k is 1 kinds.Probe (ap (λ hs. slice_get hs 1) (heads_are k is (kinds.Copy ∷ kinds.Probe ∷ []) (probing is.node.op replicated).waves))

  abbrev width : List ℕ → ℕ
  width ks = length (flat_map (heads_at s.plan) ks)

  width-cons : (k : ℕ) (ks : List ℕ) (is : IsBoundaryAt k) → width (k ∷ ks) ≡ count_of k is + width ks
  width-cons k ks is =
      length-append (heads_at s.plan k) (flat_map (heads_at s.plan) ks)
      ∙ ap (λ n. n + width ks)
      (ap (λ found. length (option_map_or (λ p. map (head_of s.plan k) (waves_of p)) found [])) (op_here k is.node is.at) ∙ length-map (waves_of is.node.op) (head_of s.plan k))

  width-append : (ks ls : List ℕ) → width (ks ++ ls) ≡ width ks + width ls
  width-append ks ls = ap length (flat_map-append (heads_at s.plan) ks ls) ∙ length-append (flat_map (heads_at s.plan) ks) (flat_map (heads_at s.plan) ls)

  -- of rising numbers, those below one are the ones in front of it
  front_below : (front : List ℕ) (k : ℕ) (ks : List ℕ) → Rising (front ++ k ∷ ks) → filter (λ j. nat_lt j k) (front ++ k ∷ ks) ≡ front
  front_below [] k ks h =
      let itself : nat_lt k k ≡ false = grind (arith, nat_tests) in
      ap (λ b. cond b (k ∷ filter (λ j. nat_lt j k) ks) (filter (λ j. nat_lt j k) ks)) itself
      ∙ filter_none (λ j. nat_lt j k) ks (each_weaker (λ j. k < j) (λ j. nat_lt j k ≡ false) (λ j m. grind (arith, nat_tests, m)) ks h.0)
  front_below (f ∷ front) k ks h =
      let less : f < k = last_of front h.0 in
      let kept : nat_lt f k ≡ true = grind (arith, nat_tests, less) in
      ap (λ b. cond b (f ∷ filter (λ j. nat_lt j k) (front ++ k ∷ ks)) (filter (λ j. nat_lt j k) (front ++ k ∷ ks))) kept
      ∙ ap (λ js. f ∷ js) (front_below front k ks h.1)
    where
      last_of : (front : List ℕ) → AllByRecursion (λ j. f < j) (front ++ k ∷ ks) → f < k
      last_of [] h = h.0
      last_of (g ∷ front) h = last_of front h.1

  -- ---- where a wave stands

  -- the tasks of one that is matching probe copies
  pub data WaveAt (w : ℕ) : Type 0 where
    maps : (k : ℕ) (is : IsBoundaryAt k) → ByKey k is → w ≡ first_wave s.plan k → WaveAt w
    reduces : (k : ℕ) (is : IsBoundaryAt k) → ByKey k is → w ≡ first_wave s.plan k + 1 → WaveAt w
    ranking : (k : ℕ) (is : IsBoundaryAt k) → ByKey k is → ranks is.node.op ≡ true → w ≡ first_wave s.plan k + 2 → WaveAt w
    copying : (k : ℕ) (is : IsBoundaryAt k) → Replicated k is → w ≡ first_wave s.plan k → WaveAt w
    matching : (k : ℕ) (is : IsBoundaryAt k) → Replicated k is → w ≡ first_wave s.plan k + 1 → WaveAt w
    storing : w ≡ width all → WaveAt w

  -- the first wave of a node, and its second one
  first_of : (w k : ℕ) (is : IsBoundaryAt k) → w ≡ first_wave s.plan k → (b : Bool) → is_replicated is.node.op ≡ b → WaveAt w
  first_of w k is at false e = maps k is e at
  first_of w k is at true e = copying k is e at

  second_of : (w k : ℕ) (is : IsBoundaryAt k) → w ≡ first_wave s.plan k + 1 → (b : Bool) → is_replicated is.node.op ≡ b → WaveAt w
  second_of w k is at false e = reduces k is e at
  second_of w k is at true e = matching k is e at

  among_boundaries : (w n : ℕ) (front ks : List ℕ) → all ≡ front ++ ks → AllByRecursion IsBoundaryAt ks → w ≡ width front + n → n < width ks → WaveAt w
  among_boundaries w n front [] is each at less = absurd (omega (arith, less))
  among_boundaries w zero front (k ∷ ks) is each at less =
      first_of w k each.0
      (at ∙ (let e : width front + 0 ≡ width front = omega arith in e) ∙ sym (ap width (ap (filter (λ j. nat_lt j k)) is ∙ front_below front k ks (subst Rising is rise))))
      (is_replicated (each.0.node).op) refl
  among_boundaries w (suc zero) front (k ∷ ks) is each at less =
      second_of w k each.0 (at ∙ sym (ap (λ ks. width ks + 1) (ap (filter (λ j. nat_lt j k)) is ∙ front_below front k ks (subst Rising is rise))))
      (is_replicated (each.0.node).op) refl
  among_boundaries w (suc (suc n)) front (k ∷ ks) is each at less =
      by_count n at less (counted k each.0) (λ m behind within. among_boundaries w m (front ++ k ∷ []) ks (is ∙ sym (append_assoc front (k ∷ []) ks)) each.1 behind within)
    where
      size : width (k ∷ ks) ≡ count_of k each.0 + width ks
      size = width-cons k ks each.0

      more : width (front ++ k ∷ []) ≡ width front + count_of k each.0
      more =
          let own : width (k ∷ []) ≡ count_of k each.0 + width [] = width-cons k [] each.0 in
          width-append front (k ∷ []) ∙ ap (λ m. width front + m) own ∙ (let e : width front + (count_of k each.0 + 0) ≡ width front + count_of k each.0 = omega arith in e)

      begins : first_wave s.plan k ≡ width front
      begins = ap width (ap (filter (λ j. nat_lt j k)) is ∙ front_below front k ks (subst Rising is rise))

      by_count : (n : ℕ) → w ≡ width front + suc (suc n) → suc (suc n) < width (k ∷ ks) → Counted k each.0
          → ((m : ℕ) → w ≡ width (front ++ k ∷ []) + m → m < width ks → WaveAt w) → WaveAt w
      by_count n at less (two h count) rest = rest n (omega (arith, at, more, count)) (omega (arith, size, less, count))
      by_count n at less (probed h count) rest = rest n (omega (arith, at, more, count)) (omega (arith, size, less, count))
      by_count zero at less (three h e count) rest = ranking k each.0 h e (omega (arith, at, begins))
      by_count (suc n) at less (three h e count) rest = rest n (omega (arith, at, more, count)) (omega (arith, size, less, count))

  pub wave_at : (w : ℕ) → w < length (heads s.plan) → WaveAt w
  wave_at w less = elim (cases_lt w (width all)) [
    | inl within ↦ among_boundaries w w [] all refl all_boundaries (omega arith) within
    | inr over ↦ storing (let size = length-append (flat_map (heads_at s.plan) all) (map (λ k. head_of s.plan k kinds.Store) (take 1 (stores s.plan))) in
        let few : length (map (λ k. head_of s.plan k kinds.Store) (take 1 (stores s.plan))) ≤ 1 = at_most_one (stores s.plan) in
        omega (arith, over, less, size, few))
  ]
    where
      at_most_one : (ks : List ℕ) → length (map (λ k. head_of s.plan k kinds.Store) (take 1 ks)) ≤ 1
      at_most_one [] = omega arith
      at_most_one (k ∷ ks) = omega arith

  -- ---- the waves of a node stand before those of a later one

  split_at : (k : ℕ) → IsBoundaryAt k → all ≡ filter (λ j. nat_lt j k) all ++ k ∷ filter (λ j. nat_lt k j) all
  split_at k is =
      let found = live_at s.plan k is.alive in
      let place = filtered_at is_here (live s.plan) found.0 k found.1 (ap (λ o. option_map_or is_boundary o false) (op_here k is.node is.at) ∙ is.is) in
      split_off all place.0 k rise place.1

  pub inside : (k : ℕ) (is : IsBoundaryAt k) → first_wave s.plan k + count_of k is ≤ width all
  inside k is =
      let before = filter (λ j. nat_lt j k) all in
      let behind = filter (λ j. nat_lt k j) all in
      let size = ap width (split_at k is) ∙ width-append before (k ∷ behind) in
      let own = width-cons k behind is in
      omega (arith, size, own)

  pub earlier : (i k : ℕ) (is : IsBoundaryAt i) → i < k → first_wave s.plan i + count_of i is ≤ first_wave s.plan k
  earlier i k is less =
      let before = filter (λ j. nat_lt j i) all in
      let behind = filter (λ j. nat_lt i j) all in
      let here : nat_lt i k ≡ true = grind (arith, nat_tests, less) in
      let front : filter (λ j. nat_lt j k) before ≡ before =
      filter_all (λ j. nat_lt j k) before (each_weaker (λ j. nat_lt j i ≡ true) (λ j. nat_lt j k ≡ true) (λ j m. grind (arith, nat_tests, less, m)) before (each_filtered (λ j. nat_lt j i) all)) in
      let rest = filter (λ j. nat_lt j k) behind in
      let cut : filter (λ j. nat_lt j k) all ≡ before ++ i ∷ rest =
      ap (filter (λ j. nat_lt j k)) (split_at i is)
      ∙ filter-append (λ j. nat_lt j k) before (i ∷ behind)
      ∙ (λ t. front t ++ cond (here t) (i ∷ rest) rest) in
      let size = ap width cut ∙ width-append before (i ∷ rest) in
      let own = width-cons i rest is in
      omega (arith, size, own)

  -- ---- parts

  -- an output is one of a task of a wave before
  abbrev pub PartStands : ℕ → Part → Type 0
  PartStands w (parts.Split split) = ⊤
  PartStands w (parts.Output v j) = (v < w) × (j < length (tasks_in s v))

  pub partitions : (k : ℕ) (is : IsBoundaryAt k) → ByKey k is → length (tasks_in s (first_wave s.plan k + 1)) ≡ reduce_count s.sizing.reducers is.node.op
  partitions k is by_key =
      let count = reduce_count s.sizing.reducers is.node.op in
      ap length (its_waves k is by_key).reduces
      ∙ length-map (partition_tasks s (first_wave s.plan k) k is.node.op) t_reduce
      ∙ length-map (range_with_len 0 count) (λ p. record { node = k; wave = first_wave s.plan k; part = p })
      ∙ length-range_with_len 0 count

  pub ranked_partitions : (k : ℕ) (is : IsBoundaryAt k) → ByKey k is → ranks is.node.op ≡ true
      → length (tasks_in s (first_wave s.plan k + 2)) ≡ reduce_count s.sizing.reducers is.node.op
  ranked_partitions k is by_key e =
      let count = reduce_count s.sizing.reducers is.node.op in
      ap length ((its_waves k is by_key).ranks e)
      ∙ length-map (partition_tasks s (first_wave s.plan k + 1) k is.node.op) t_rank
      ∙ length-map (range_with_len 0 count) (λ p. record { node = k; wave = first_wave s.plan k + 1; part = p })
      ∙ length-range_with_len 0 count

  -- those of its last wave
  last_partitions : (k : ℕ) (is : IsBoundaryAt k) → Counted k is
      → (last_wave s.plan k is.node.op + 1 ≡ first_wave s.plan k + count_of k is) × (length (tasks_in s (last_wave s.plan k is.node.op)) ≡ output_count s is.node.op)
  last_partitions k is (two h count) =
      let last : last_wave s.plan k is.node.op ≡ first_wave s.plan k + 1 = ap (λ n. first_wave s.plan k + (n - 1)) count in
      (omega (arith, last, count), ap (λ v. length (tasks_in s v)) last ∙ partitions k is h ∙ sym (outputs_are s is.node.op is.is h))
  last_partitions k is (three h e count) =
      let last : last_wave s.plan k is.node.op ≡ first_wave s.plan k + 2 = ap (λ n. first_wave s.plan k + (n - 1)) count in
      (omega (arith, last, count), ap (λ v. length (tasks_in s v)) last ∙ ranked_partitions k is h e ∙ sym (outputs_are s is.node.op is.is h))
  last_partitions k is (probed h count) =
      let last : last_wave s.plan k is.node.op ≡ first_wave s.plan k + 1 = ap (λ n. first_wave s.plan k + (n - 1)) count in (
        omega (arith, last, count),
        ap (λ v. length (tasks_in s v)) last
            ∙ ap length (its_probes k is h).probes
            ∙ length-map (probe_tasks s k is.node.op) t_map
            ∙ probes_counted s k valid is.node.op h,
      )

  outputs_stand : (w k : ℕ) (is : IsBoundaryAt k) → first_wave s.plan k + count_of k is ≤ w
      → AllByRecursion (PartStands w) (map (parts.Output (last_wave s.plan k is.node.op)) (range_with_len 0 (output_count s is.node.op)))
  outputs_stand w k is bound =
      let count = output_count s is.node.op in
      let found = last_partitions k is (counted k is) in
      let last = found.0 in
      let size = found.1 in
      each-map (PartStands w) (parts.Output (last_wave s.plan k is.node.op)) (range_with_len 0 count)
      (each_weaker (λ j. j < 0 + count) (λ j. (last_wave s.plan k is.node.op < w) × (j < length (tasks_in s (last_wave s.plan k is.node.op))))
      (λ j less. (omega (arith, last, bound), omega (arith, less, size))) (range_with_len 0 count) (range_below 0 count))

  abbrev Bounded : ℕ → ℕ → Type 0
  Bounded w k = (is : IsBoundaryAt k) → first_wave s.plan k + count_of k is ≤ w

  module _ (w b k : ℕ) (is : IsSourceOf s.plan valid b k) (bound : Bounded w k) where
    abbrev as_boundary : is_boundary is.node.op ≡ true → IsBoundaryAt k
    as_boundary h = record { node = is.node; at = is.at; alive = is.alive; is = h }

    given : is_boundary is.node.op ≡ true → AllByRecursion (PartStands w) (map (parts.Output (last_wave s.plan k is.node.op)) (range_with_len 0 (output_count s is.node.op)))
    given h = outputs_stand w k (as_boundary h) (bound (as_boundary h))

    by_op : (o : PlanOp) → is_source o ≡ true
        → (is_boundary o ≡ true → AllByRecursion (PartStands w) (map (parts.Output (last_wave s.plan k o)) (range_with_len 0 (output_count s o))))
        → AllByRecursion (PartStands w) (parts_of s k o)
    by_op (p_load path delim columns) h g =
        each-map (PartStands w) parts.Split (splits_of s.sizing.split (s.sizing.lengths path)) (each_of_all (λ split. ⊤) (λ split. tt) (splits_of s.sizing.split (s.sizing.lengths path)))
    by_op (p_filter input test) h g = absurd (true≢false (sym h))
    by_op (p_foreach input block) h g = absurd (true≢false (sym h))
    by_op (p_group_all input) h g = g refl
    by_op (p_group inputs) h g = g refl
    by_op (p_join inputs side replicated) h g = g refl
    by_op (p_union inputs) h g = absurd (true≢false (sym h))
    by_op (p_distinct input) h g = g refl
    by_op (p_order input keys) h g = g refl
    by_op (p_limit input count) h g = g refl
    by_op (p_store input path delim) h g = absurd (true≢false (sym h))
    by_op (p_assert input test message) h g = absurd (true≢false (sym h))
    by_op (p_rank input keys dense) h g = g refl

    parts_stand : AllByRecursion (PartStands w) (parts_at s k)
    parts_stand = subst (λ found. AllByRecursion (PartStands w) (option_map_or (parts_of s k) found [])) (sym (op_here k is.node is.at)) (by_op is.node.op is.is given)

  -- ---- tasks

  -- a task's part stands, and its source is live
  abbrev Reads : ℕ → MapTask → Type 0
  Reads w t = PartStands w t.part × (is_live s.plan t.way.path.source ≡ true)

  -- one that probes stands in a wave behind that of the copies
  abbrev pub CopiesStand : ℕ → MapTask → Type 0
  CopiesStand w t = (o : PlanOp) → op_at s.plan t.node ≡ Some o → is_replicated o ≡ true → t.way.input ≡ 0
      → (first_wave s.plan t.node + 1 ≡ w) × (slice_get (heads s.plan) w ≡ Some (head_of s.plan t.node kinds.Probe))

  abbrev pub MapStands : ℕ → MapTask → Type 0
  MapStands w t = PartStands w t.part × (is_live s.plan t.way.path.source ≡ true) × CopiesStand w t

  abbrev pub TaskStands : ℕ → Task → Type 0
  TaskStands w (t_map t) = MapStands w t
  TaskStands w (t_reduce t) = (t.wave + 1 ≡ w) × (slice_get (heads s.plan) t.wave ≡ Some (head_of s.plan t.node kinds.Map))
  TaskStands w (t_rank t) = t.wave + 1 ≡ w

  tasks_on_ways : (w b k : ℕ) (ways : List Entering) → ((i : ℕ) → i < b → Bounded w i) → AllByRecursion (λ way. IsSourceOf s.plan valid b way.path.source) ways
      → AllByRecursion (Reads w) (tasks_on s k ways)
  tasks_on_ways w b k ways bound h =
      all_flat_where (Reads w) (λ way. IsSourceOf s.plan valid b way.path.source) (path_tasks s k)
      (λ way is. each-map (Reads w) (λ part. record { node = k; way = way; part = part }) (parts_at s way.path.source)
      (each_weaker (PartStands w) (λ part. PartStands w part × (is_live s.plan way.path.source ≡ true)) (λ part stands. (stands, is.alive)) (parts_at s way.path.source)
      (parts_stand w b way.path.source is (bound way.path.source is.below)))) ways h

  -- the tasks on all ways into a node, in one of its waves
  own_reads : (w k : ℕ) (is : IsBoundaryAt k) → first_wave s.plan k ≤ w → AllByRecursion (Reads w) (map_tasks s k is.node.op)
  own_reads w k is behind =
      let short : k < length s.plan = slice_get_within s.plan k is.node is.at in
      tasks_on_ways w k k (ways_into s.plan is.node.op) (λ i less here. (let early = earlier i k here less in omega (arith, early, behind)))
      (ways_from s.plan valid k 0 (inputs_of is.node.op)
      (each_weaker (λ i. (i < k) × (is_live s.plan i ≡ true)) (λ i. (i < k) × (is_live s.plan i ≡ true) × (i < length s.plan)) (λ i lower. (let less = lower.0 in (lower.0, lower.1, omega (arith, less, short))))
      (inputs_of is.node.op) (inputs_live s.plan valid k is.node is.at is.alive)))

  own_named : (k : ℕ) (is : IsBoundaryAt k) → AllByRecursion (λ t. t.node ≡ k) (map_tasks s k is.node.op)
  own_named k is = name_node s k (ways_into s.plan is.node.op)

  maps_stand : (w k : ℕ) (is : IsBoundaryAt k) → ByKey k is → w ≡ first_wave s.plan k → AllByRecursion (TaskStands w) (map t_map (map_tasks s k is.node.op))
  maps_stand w k is by_key e =
      each-map (TaskStands w) t_map (map_tasks s k is.node.op)
      (each_both (Reads w) (λ t. t.node ≡ k) (MapStands w) (λ t reads own. (reads.0, reads.1, λ o at replicated first. absurd (other t o own at replicated)))
      (map_tasks s k is.node.op) (own_reads w k is (omega (arith, e))) (own_named k is))
    where
      other : (t : MapTask) (o : PlanOp) → t.node ≡ k → op_at s.plan t.node ≡ Some o → is_replicated o ≡ true → ⊥
      other t o own at replicated =
          let same : o ≡ is.node.op = some_same o is.node.op (sym at ∙ ap (op_at s.plan) own ∙ op_here k is.node is.at) in
          true≢false (sym replicated ∙ ap is_replicated same ∙ by_key)

  copies_stand : (w k : ℕ) (is : IsBoundaryAt k) → w ≡ first_wave s.plan k → AllByRecursion (TaskStands w) (map t_map (copy_tasks s k is.node.op))
  copies_stand w k is e =
      each-map (TaskStands w) t_map (copy_tasks s k is.node.op)
      (each_both (Reads w) (λ t. not (enters_first t) ≡ true) (MapStands w)
      (λ t reads further. (reads.0, reads.1, λ o at replicated first. absurd (other t.way.input first further))) (copy_tasks s k is.node.op)
      (each-filter (λ t. not (enters_first t)) (Reads w) (map_tasks s k is.node.op) (own_reads w k is (omega (arith, e))))
      (each_filtered (λ t. not (enters_first t)) (map_tasks s k is.node.op)))
    where
      other : (i : ℕ) → i ≡ 0 → not (i == 0) ≡ true → ⊥
      other i first further = true≢false (sym further ∙ ap not (eq-eqb i 0 first))

  probes_stand : (w k : ℕ) (is : IsBoundaryAt k) → Replicated k is → w ≡ first_wave s.plan k + 1 → AllByRecursion (TaskStands w) (map t_map (probe_tasks s k is.node.op))
  probes_stand w k is replicated e =
      each-map (TaskStands w) t_map (probe_tasks s k is.node.op)
      (each_both (Reads w) (λ t. t.node ≡ k) (MapStands w) (λ t reads own. (reads.0, reads.1, λ o at same first. behind t own)) (probe_tasks s k is.node.op)
      (each-filter enters_first (Reads w) (map_tasks s k is.node.op) (own_reads w k is (omega (arith, e))))
      (each-filter enters_first (λ t. t.node ≡ k) (map_tasks s k is.node.op) (own_named k is)))
    where
      behind : (t : MapTask) → t.node ≡ k → (first_wave s.plan t.node + 1 ≡ w) × (slice_get (heads s.plan) w ≡ Some (head_of s.plan t.node kinds.Probe))
      behind t own = (
        ap (λ n. first_wave s.plan n + 1) own ∙ sym e,
        ap (slice_get (heads s.plan)) e ∙ its_probe_head k is replicated ∙ ap (λ n. Some (head_of s.plan n kinds.Probe)) (sym own),
      )

  reduces_stand : (w k : ℕ) (is : IsBoundaryAt k) → ByKey k is → w ≡ first_wave s.plan k + 1 → AllByRecursion (TaskStands w) (map t_reduce (partition_tasks s (first_wave s.plan k) k is.node.op))
  reduces_stand w k is by_key e =
      let count = reduce_count s.sizing.reducers is.node.op in
      each-map (TaskStands w) t_reduce (partition_tasks s (first_wave s.plan k) k is.node.op)
      (each-map (λ t. TaskStands w (t_reduce t)) (λ p. record { node = k; wave = first_wave s.plan k; part = p }) (range_with_len 0 count)
      (each_of_all (λ p. (first_wave s.plan k + 1 ≡ w) × (slice_get (heads s.plan) (first_wave s.plan k) ≡ Some (head_of s.plan k kinds.Map))) (λ p. (sym e, its_head k is by_key)) (range_with_len 0 count)))

  ranks_stand : (w k : ℕ) (is : IsBoundaryAt k) → w ≡ first_wave s.plan k + 2 → AllByRecursion (TaskStands w) (map t_rank (partition_tasks s (first_wave s.plan k + 1) k is.node.op))
  ranks_stand w k is e =
      let count = reduce_count s.sizing.reducers is.node.op in
      each-map (TaskStands w) t_rank (partition_tasks s (first_wave s.plan k + 1) k is.node.op)
      (each-map (λ t. TaskStands w (t_rank t)) (λ p. record { node = k; wave = first_wave s.plan k + 1; part = p }) (range_with_len 0 count)
      (each_of_all (λ p. first_wave s.plan k + 1 + 1 ≡ w) (λ p. omega (arith, e)) (range_with_len 0 count)))

  abbrev is_storing : ℕ → Bool
  is_storing k = option_map_or is_store (op_at s.plan k) false

  abbrev IsStoreAt : ℕ → Type 0
  IsStoreAt k = (is_live s.plan k ≡ true) × (is_storing k ≡ true)

  stores_stand : (w : ℕ) → w ≡ width all → AllByRecursion (TaskStands w) (map t_map (flat_map (store_tasks s) (stores s.plan)))
  stores_stand w e =
      each-map (TaskStands w) t_map (flat_map (store_tasks s) (stores s.plan))
      (all_flat_where (MapStands w) IsStoreAt (store_tasks s) of_store (stores s.plan)
      (each_both (λ k. is_live s.plan k ≡ true) (λ k. is_storing k ≡ true) IsStoreAt (λ k alive here. (alive, here)) (stores s.plan)
      (each-filter is_storing (λ k. is_live s.plan k ≡ true) (live s.plan) (each_filtered (is_live s.plan) (range_with_len 0 (length s.plan))))
      (each_filtered is_storing (live s.plan))))
    where
      other : (k : ℕ) (found : Option PlanOp) → op_at s.plan k ≡ found → option_map_or is_store found false ≡ true → (o : PlanOp) → op_at s.plan k ≡ Some o
          → is_replicated o ≡ true → ⊥
      other k None e here o at replicated = true≢false (sym here)
      other k (Some p) e here o at replicated =
          true≢false (sym replicated ∙ ap is_replicated (some_same o p (sym at ∙ e)) ∙ store_by_key p here)

      of_store : (k : ℕ) → IsStoreAt k → AllByRecursion (MapStands w) (store_tasks s k)
      of_store k is =
          each_both (Reads w) (λ t. t.node ≡ k) (MapStands w)
          (λ t reads own. (reads.0, reads.1, λ o at replicated first. absurd (other k (op_at s.plan k) refl is.1 o (ap (op_at s.plan) (sym own) ∙ at) replicated)))
          (store_tasks s k)
          (tasks_on_ways w (k + 1) k (ways_to s.plan k) (λ i less here. (let within = inside i here in omega (arith, within, e)))
          (ways_from s.plan valid (k + 1) 0 (k ∷ []) ((omega (arith), is.0, live_within s.plan k is.0), tt)))
          (name_node s k (ways_to s.plan k))

  last_stand : (w : ℕ) → w ≡ width all → AllByRecursion (TaskStands w) (tasks_in s w)
  last_stand w e =
      let at : slice_get (heads s.plan) w ≡ slice_get (map (λ k. head_of s.plan k kinds.Store) (take 1 (stores s.plan))) 0 =
      (let f : w ≡ width all + 0 = omega (arith, e) in ap (slice_get (heads s.plan)) f) ∙ get-behind (flat_map (heads_at s.plan) all) (map (λ k. head_of s.plan k kinds.Store) (take 1 (stores s.plan))) 0 in
      subst (λ found. AllByRecursion (TaskStands w) (option_map_or (tasks_of s w) found [])) (sym at) (by_stores (stores s.plan))
    where
      by_op : (k : ℕ) (o : Option PlanOp) → AllByRecursion (TaskStands w) (option_map_or (tasks_by s w kinds.Store k) o [])
      by_op k None = tt
      by_op k (Some o) = stores_stand w e

      by_stores : (ks : List ℕ) → AllByRecursion (TaskStands w) (option_map_or (tasks_of s w) (slice_get (map (λ k. head_of s.plan k kinds.Store) (take 1 ks)) 0) [])
      by_stores [] = tt
      by_stores (k ∷ ks) = by_op k (op_at s.plan k)

  pub tasks_stand : (w : ℕ) → w < length (heads s.plan) → AllByRecursion (TaskStands w) (tasks_in s w)
  tasks_stand w less = by_wave (wave_at w less)
    where
      by_wave : WaveAt w → AllByRecursion (TaskStands w) (tasks_in s w)
      by_wave (maps k is h e) = subst (AllByRecursion (TaskStands w)) (sym (ap (tasks_in s) e ∙ (its_waves k is h).maps)) (maps_stand w k is h e)
      by_wave (reduces k is h e) = subst (AllByRecursion (TaskStands w)) (sym (ap (tasks_in s) e ∙ (its_waves k is h).reduces)) (reduces_stand w k is h e)
      by_wave (ranking k is h ranked e) = subst (AllByRecursion (TaskStands w)) (sym (ap (tasks_in s) e ∙ (its_waves k is h).ranks ranked)) (ranks_stand w k is e)
      by_wave (copying k is h e) = subst (AllByRecursion (TaskStands w)) (sym (ap (tasks_in s) e ∙ (its_probes k is h).copies)) (copies_stand w k is e)
      by_wave (matching k is h e) = subst (AllByRecursion (TaskStands w)) (sym (ap (tasks_in s) e ∙ (its_probes k is h).probes)) (probes_stand w k is h e)
      by_wave (storing e) = last_stand w e

  -- ---- what a task names

  part_named : (outs : Outs) (w : ℕ) (part : Part) → AreStanding s outs w → PartStands w part → HasPart s outs part
  part_named outs w (parts.Split split) standing is = tt
  part_named outs w (parts.Output v j) standing is = standing.each v j is.0 is.1

  task_named : (outs : Outs) (w : ℕ) (task : Task) → AreStanding s outs w → TaskStands w task → HasNamed s outs task
  task_named outs w (t_map t) standing is = record {
    part = part_named outs w t.part standing is.0;
    copies = λ o at replicated first.
        let next = (is.2 o at replicated first).0 in
        let less : first_wave s.plan t.node < w = omega (arith, next) in
        record { count = standing.counts (first_wave s.plan t.node) less; each = λ at within. standing.each (first_wave s.plan t.node) at less within };
  }
  task_named outs w (t_reduce t) standing is =
      let next = is.0 in
      let less : t.wave < w = omega (arith, next) in
      record {
        count = standing.counts t.wave less;
        each = λ at within. standing.each t.wave at less within;
        sliced = λ o keys op by. standing.sliced t.wave t.node o keys less is.1 op by;
      }
  task_named outs w (t_rank t) standing is =
      let less : t.wave < w = omega (arith, is) in
      record { count = standing.counts t.wave less; each = λ at within. standing.each t.wave at less within }

pub finds_named : WavesFindWhatTheyName
finds_named s valid outs w at task standing less there =
    task_named s valid outs w task standing (each_at (TaskStands s valid w) (tasks_in s w) at task there (tasks_stand s valid w less))

-- ---- what a task reads

source_told : (s : Stages) (inputs : List Input) (t : MapTask) → is_live s.plan t.way.path.source ≡ true → AreSizes s inputs → HasSource s t inputs
source_told s inputs t alive sizes = λ path delim columns op. by_node (slice_get s.plan t.way.path.source) refl path delim columns op
  where
    by_node : (found : Option PlanNode) → slice_get s.plan t.way.path.source ≡ found → (path : List ℕ) (delim : ℕ) (columns : List Column)
        → op_at s.plan t.way.path.source ≡ Some (p_load path delim columns) → map length (pieces_of inputs path) ≡ s.sizing.lengths path
    by_node None e path delim columns op = absurd (let f : None ≡ Some (p_load path delim columns) = sym (ap (option_map (λ n. n.op)) e) ∙ op in cc)
    by_node (Some node) e path delim columns op =
        let same : node.op ≡ p_load path delim columns = some_same node.op (p_load path delim columns) (sym (ap (option_map (λ n. n.op)) e) ∙ op) in
        sizes t.way.path.source node.statement delim path columns (e ∙ ap (λ o. Some (record { op = o; statement = node.statement })) same) alive

pub reads_told : WavesReadToldInputs
reads_told s valid inputs w less sizes = λ place t at. source_told s inputs t (each_at (TaskStands s valid w) (tasks_in s w) place (t_map t) at (tasks_stand s valid w less)).1 sizes
