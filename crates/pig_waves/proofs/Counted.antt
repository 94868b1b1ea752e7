-- The parts of a node are as many as are counted, and the tasks of a replicated JOIN that probe are as many as its partitions.
use Rattle.std.specs.Prelude.{◌≡◌, ◌<◌, ◌≤◌, ◌+◌, ◌==◌, ℕ, zero, suc, Bool, true, false, not, List, [], ◌∷◌, ◌++◌, length, map, take, Some, slice_get, refl}
use Rattle.std.proofs.Common.{inl, inr, ap, sym, ◌∙◌, arith, cond, true≢false}
use Rattle.std.specs.List.{AllByRecursion, filter, flat_map, range_with_len, sum_by}
use Rattle.std.specs.Option.{option_map, option_map_or, unwrap_or}
use Rattle.std.proofs.lemmas.Bool.{cases_lt, ne_eqb}
use Rattle.std.proofs.lemmas.Grind.{flat_map-append}
use Rattle.std.proofs.lemmas.List.{length-append, length-map}
use Rattle.std.proofs.lemmas.List.Elements.{filter-append}
use Rattle.std.proofs.lemmas.List.FromFn.{length-range_with_len}
use Rattle.std.proofs.lemmas.List.Sums.{sum_by-append, sum_by-cons}
use Rattle.std.proofs.lemmas.Option.{slice_get_past}
use Rattle.pig_value.proofs.list_laws.Indexing.{some_at}
use Rattle.pig_value.proofs.list_laws.Listing.{each-append, each-map, each-take, each_of_all, each_weaker, filter_all, filter_none}
use Rattle.pig_storage.specs.Splits.{splits_of}
use Rattle.pig_plan.proofs.Lower.{names_lower}
use Rattle.pig_plan.proofs.Paths.{paths_of_node}
use Rattle.pig_plan.proofs.Unfolds.{length-results, result_is}
use Rattle.pig_plan.specs.Nodes.{Entering, Path, and_then, entering, inputs_of, is_source, paths_of, ways}
use Rattle.pig_plan.specs.Plans.{PlanNode, PlanOp, p_load, p_filter, p_foreach, p_group_all, p_group, p_join, p_union, p_distinct, p_order, p_limit, p_store, p_assert, p_rank}
use Rattle.pig_plan.specs.Valid.{IsPlan}
use Rattle.pig_physical.specs.declared.parts.Part.{Part}
use Rattle.pig_physical.specs.declared.parts.Part.TheVariants as parts
use Rattle.pig_physical.specs.Stages.{MapTask, Stages, counted, enters_first, is_replicated, last_wave, output_count, part_count, parts_at, parts_of, path_tasks, tasks_on}
use Rattle.pig_waves.proofs.Places.{all_flat_where}
use Rattle.pig_waves.specs.Laws.{probe_tasks}

sum_same : {X : Type 0} (f g : X → ℕ) (xs : List X) → AllByRecursion (λ x. f x ≡ g x) xs → sum_by f xs ≡ sum_by g xs
sum_same f g [] h = refl
sum_same f g (x ∷ xs) h =
    let a = sum_by-cons f x xs in
    let b = sum_by-cons g x xs in
    let one = h.0 in
    let more = sum_same f g xs h.1 in
    omega (arith, a, b, one, more)

-- ---- parts

module _ (s : Stages) where
  -- what is counted looks at the nodes that are named alone
  counts_agree : (k : ℕ) (o : PlanOp) (f g : ℕ → ℕ) → ((j : ℕ) → j < k → f j ≡ g j) → AllByRecursion (λ i. i < k) (inputs_of o) → counted s.sizing o f ≡ counted s.sizing o g
  counts_agree k (p_load path delim columns) f g same lower = refl
  counts_agree k (p_join inputs side true) f g same lower =
      sum_same f g (take 1 (map (λ i. i.input) inputs))
      (each-take (λ i. f i ≡ g i) 1 (map (λ i. i.input) inputs) (each_weaker (λ i. i < k) (λ i. f i ≡ g i) same (map (λ i. i.input) inputs) lower))
  counts_agree k (p_join inputs side false) f g same lower = refl
  counts_agree k (p_group_all input) f g same lower = refl
  counts_agree k (p_group inputs) f g same lower = refl
  counts_agree k (p_distinct input) f g same lower = refl
  counts_agree k (p_order input keys) f g same lower = refl
  counts_agree k (p_limit input count) f g same lower = refl
  counts_agree k (p_rank input keys dense) f g same lower = refl
  counts_agree k (p_filter input test) f g same lower = sum_same f g (input ∷ []) (same input lower.0, tt)
  counts_agree k (p_foreach input block) f g same lower = sum_same f g (input ∷ []) (same input lower.0, tt)
  counts_agree k (p_union inputs) f g same lower = sum_same f g inputs (each_weaker (λ i. i < k) (λ i. f i ≡ g i) same inputs lower)
  counts_agree k (p_store input path delim) f g same lower = sum_same f g (input ∷ []) (same input lower.0, tt)
  counts_agree k (p_assert input test message) f g same lower = sum_same f g (input ∷ []) (same input lower.0, tt)

  -- a node that works row by row has the parts of all its inputs
  counted_rows : (o : PlanOp) → is_source o ≡ false → (f : ℕ → ℕ) → counted s.sizing o f ≡ sum_by f (inputs_of o)
  counted_rows (p_load path delim columns) h f = absurd (true≢false h)
  counted_rows (p_join inputs side replicated) h f = absurd (true≢false h)
  counted_rows (p_group_all input) h f = absurd (true≢false h)
  counted_rows (p_group inputs) h f = absurd (true≢false h)
  counted_rows (p_distinct input) h f = absurd (true≢false h)
  counted_rows (p_order input keys) h f = absurd (true≢false h)
  counted_rows (p_limit input count) h f = absurd (true≢false h)
  counted_rows (p_rank input keys dense) h f = absurd (true≢false h)
  counted_rows (p_filter input test) h f = refl
  counted_rows (p_foreach input block) h f = refl
  counted_rows (p_union inputs) h f = refl
  counted_rows (p_store input path delim) h f = refl
  counted_rows (p_assert input test message) h f = refl

  outputs_many : (w n : ℕ) → length (map (parts.Output w) (range_with_len 0 n)) ≡ n
  outputs_many w n = length-map (range_with_len 0 n) (parts.Output w) ∙ length-range_with_len 0 n

  parts_many : (k : ℕ) (o : PlanOp) → length (parts_of s k o) ≡ output_count s o
  parts_many k (p_load path delim columns) = length-map (splits_of s.sizing.split (s.sizing.lengths path)) parts.Split
  parts_many k (p_filter input test) = outputs_many (last_wave s.plan k (p_filter input test)) (output_count s (p_filter input test))
  parts_many k (p_foreach input block) = outputs_many (last_wave s.plan k (p_foreach input block)) (output_count s (p_foreach input block))
  parts_many k (p_group_all input) = outputs_many (last_wave s.plan k (p_group_all input)) (output_count s (p_group_all input))
  parts_many k (p_group inputs) = outputs_many (last_wave s.plan k (p_group inputs)) (output_count s (p_group inputs))
  parts_many k (p_join inputs side replicated) = outputs_many (last_wave s.plan k (p_join inputs side replicated)) (output_count s (p_join inputs side replicated))
  parts_many k (p_union inputs) = outputs_many (last_wave s.plan k (p_union inputs)) (output_count s (p_union inputs))
  parts_many k (p_distinct input) = outputs_many (last_wave s.plan k (p_distinct input)) (output_count s (p_distinct input))
  parts_many k (p_order input keys) = outputs_many (last_wave s.plan k (p_order input keys)) (output_count s (p_order input keys))
  parts_many k (p_limit input count) = outputs_many (last_wave s.plan k (p_limit input count)) (output_count s (p_limit input count))
  parts_many k (p_store input path delim) = outputs_many (last_wave s.plan k (p_store input path delim)) (output_count s (p_store input path delim))
  parts_many k (p_assert input test message) = outputs_many (last_wave s.plan k (p_assert input test message)) (output_count s (p_assert input test message))
  parts_many k (p_rank input keys dense) = outputs_many (last_wave s.plan k (p_rank input keys dense)) (output_count s (p_rank input keys dense))

  abbrev step : ℕ → PlanNode → (ℕ → ℕ) → ℕ
  step k node = counted s.sizing node.op

  module _ (valid : IsPlan s.plan) where
    -- the count of a node by those of the nodes before it
    pub count_of_node : (k : ℕ) (node : PlanNode) → slice_get s.plan k ≡ Some node → part_count s k ≡ output_count s node.op
    count_of_node k node at = result_is step 0 s.plan k node at (λ f g same. counts_agree k node.op f g same (names_lower s.plan valid k node at))

    pub parts_counted : (k : ℕ) → length (parts_at s k) ≡ part_count s k
    parts_counted k = elim (cases_lt k (length s.plan)) [
      | inl here ↦
          let found = some_at s.plan k here in
          ap (λ v. length (option_map_or (parts_of s k) (option_map {T = PlanNode} (λ node. node.op) v) [])) found.1
          ∙ parts_many k found.0.op ∙ sym (count_of_node k found.0 found.1)
      | inr past ↦
          let a = length-results step 0 s.plan in
          ap (λ v. length (option_map_or (parts_of s k) (option_map {T = PlanNode} (λ node. node.op) v) [])) (slice_get_past s.plan k past)
          ∙ sym (ap (λ o. unwrap_or o 0) (slice_get_past _ k (omega (arith, a, past))))
    ]

    -- ---- paths

    abbrev path_parts : Path → ℕ
    path_parts path = length (parts_at s path.source)

    abbrev own : ℕ → Path
    own k = record { source = k; nodes = [] }

    -- the paths on from those of a node start where these do
    one_on : (k : ℕ) (ps : List Path) → sum_by path_parts (map (and_then k) ps) ≡ sum_by path_parts ps
    one_on k [] = refl
    one_on k (p ∷ ps) =
        let a = sum_by-cons path_parts (and_then k p) (map (and_then k) ps) in
        let b = sum_by-cons path_parts p ps in
        let more = one_on k ps in
        omega (arith, a, b, more)

    all_on : (k : ℕ) (ns : List ℕ) → sum_by path_parts (flat_map (λ i. map (and_then k) (paths_of s.plan i)) ns) ≡ sum_by (λ n. sum_by path_parts (paths_of s.plan n)) ns
    all_on k [] = refl
    all_on k (n ∷ ns) =
        let a = sum_by-append path_parts (map (and_then k) (paths_of s.plan n)) (flat_map (λ i. map (and_then k) (paths_of s.plan i)) ns) in
        let b = sum_by-cons (λ i. sum_by path_parts (paths_of s.plan i)) n ns in
        let one : sum_by path_parts (map (and_then k) (paths_of s.plan n)) ≡ sum_by path_parts (paths_of s.plan n) = one_on k (paths_of s.plan n) in
        let more = all_on k ns in
        omega (arith, a, b, one, more)

    by_source : (k : ℕ) (v : PlanNode) → slice_get s.plan k ≡ Some v → (b : Bool) → is_source v.op ≡ b
        → AllByRecursion (λ i. part_count s i ≡ sum_by path_parts (paths_of s.plan i)) (inputs_of v.op)
        → part_count s k ≡ sum_by path_parts (cond b (own k ∷ []) (flat_map (λ i. map (and_then k) (paths_of s.plan i)) (inputs_of v.op)))
    by_source k v at true is lower =
        let a = sum_by-cons path_parts (own k) [] in
        let z : sum_by path_parts [] ≡ 0 = refl in
        let c = parts_counted k in
        omega (arith, a, z, c)
    by_source k v at false is lower =
        count_of_node k v at
        ∙ counted_rows v.op is (part_count s)
        ∙ sum_same (part_count s) (λ n. sum_by path_parts (paths_of s.plan n)) (inputs_of v.op) lower
        ∙ sym (all_on k (inputs_of v.op))

    within : (n k : ℕ) → k < n → k < length s.plan → part_count s k ≡ sum_by path_parts (paths_of s.plan k)
    within zero k below here = absurd (omega (arith, below))
    within (suc n) k below here =
        let found = some_at s.plan k here in
        let v : PlanNode = found.0 in
        by_source k v found.1 (is_source v.op) refl
        (each_weaker (λ i. i < k) (λ i. part_count s i ≡ sum_by path_parts (paths_of s.plan i)) (λ i lower. within n i (omega (arith, lower, below)) (omega (arith, lower, here))) (inputs_of v.op) (names_lower s.plan valid k v found.1))
        ∙ sym (ap (sum_by path_parts) (paths_of_node s.plan valid k v found.1))

    -- a node has one part for each part of each path's source
    pub count_by_paths : (k : ℕ) → part_count s k ≡ sum_by path_parts (paths_of s.plan k)
    count_by_paths k = elim (cases_lt k (length s.plan)) [
      | inl here ↦ within (suc k) k (omega arith) here
      | inr past ↦
          let a = length-results step 0 s.plan in
          let b = length-results (λ j node. ways j node.op) [] s.plan in
          ap (λ o. unwrap_or o 0) (slice_get_past _ k (omega (arith, a, past)))
          ∙ sym (ap (λ o. sum_by path_parts (unwrap_or o [])) (slice_get_past _ k (omega (arith, b, past))))
    ]

-- ---- tasks that probe, and others

abbrev enter : ℕ → Path → Entering
enter i path = record { input = i; path = path }

-- the tasks on ways that pass a test pass it
on_ways_where : (s : Stages) (k : ℕ) (p : MapTask → Bool) (b : Bool) (Q : Entering → Type 0) → ((t : MapTask) → Q t.way → p t ≡ b)
    → (ways : List Entering) → AllByRecursion Q ways → AllByRecursion (λ t. p t ≡ b) (tasks_on s k ways)
on_ways_where s k p b Q tests ways h =
    all_flat_where (λ t. p t ≡ b) Q (path_tasks s k)
    (λ way q. each-map (λ t. p t ≡ b) (λ part. record { node = k; way = way; part = part }) (parts_at s way.path.source)
    (each_of_all (λ part. p (record { node = k; way = way; part = part }) ≡ b) (λ part. tests (record { node = k; way = way; part = part }) q) (parts_at s way.path.source)))
    ways h

-- the ways of further inputs
enter_later : (paths : ℕ → List Path) (i : ℕ) (ns : List ℕ) → 1 ≤ i → AllByRecursion (λ way. (way.input == 0) ≡ false) (entering paths i ns)
enter_later paths i [] some = tt
enter_later paths i (n ∷ ns) some =
    each-append (λ way. (way.input == 0) ≡ false) (map (enter i) (paths n)) (entering paths (i + 1) ns)
    (each-map (λ way. (way.input == 0) ≡ false) (enter i) (paths n)
    (each_of_all (λ path. (i == 0) ≡ false) (λ path. ne_eqb i 0 (λ is. absurd (omega (arith, is, some)))) (paths n)))
    (enter_later paths (i + 1) ns (omega (arith, some)))

module _ (s : Stages) (k : ℕ) where
  abbrev first_ways : ℕ → List Entering
  first_ways n = map (enter 0) (paths_of s.plan n)

  abbrev other_ways : List ℕ → List Entering
  other_ways ns = entering (paths_of s.plan) 1 ns

  ways_cut : (n : ℕ) (ns : List ℕ) → tasks_on s k (entering (paths_of s.plan) 0 (n ∷ ns)) ≡ tasks_on s k (first_ways n) ++ tasks_on s k (other_ways ns)
  ways_cut n ns = flat_map-append (path_tasks s k) (first_ways n) (other_ways ns)

  all_first : (n : ℕ) → AllByRecursion (λ way. (way.input == 0) ≡ true) (first_ways n)
  all_first n = each-map (λ way. (way.input == 0) ≡ true) (enter 0) (paths_of s.plan n) (each_of_all (λ path. ◌≡◌ {A = Bool} true true) (λ path. refl) (paths_of s.plan n))

  -- the tasks of the first input, and those of the others
  pub tasks_of_first : (n : ℕ) (ns : List ℕ) → filter enters_first (tasks_on s k (entering (paths_of s.plan) 0 (n ∷ ns))) ≡ tasks_on s k (first_ways n)
  tasks_of_first n ns =
      let mine = tasks_on s k (first_ways n) in
      let theirs = tasks_on s k (other_ways ns) in
      let kept : filter enters_first mine ≡ mine =
      filter_all enters_first mine (on_ways_where s k enters_first true (λ way. (way.input == 0) ≡ true) (λ t h. h) (first_ways n) (all_first n)) in
      let gone : filter enters_first theirs ≡ [] =
      filter_none enters_first theirs (on_ways_where s k enters_first false (λ way. (way.input == 0) ≡ false) (λ t h. h) (other_ways ns) (enter_later (paths_of s.plan) 1 ns (omega arith))) in
      ap (filter enters_first) (ways_cut n ns) ∙ filter-append enters_first mine theirs ∙ (λ i. kept i ++ gone i) ∙ at_end mine
    where
      at_end : {X : Type 0} (xs : List X) → xs ++ [] ≡ xs
      at_end [] = refl
      at_end (x ∷ xs) = ap (λ more. x ∷ more) (at_end xs)

  pub tasks_of_others : (n : ℕ) (ns : List ℕ) → filter (λ t. not (enters_first t)) (tasks_on s k (entering (paths_of s.plan) 0 (n ∷ ns))) ≡ tasks_on s k (other_ways ns)
  tasks_of_others n ns =
      let mine = tasks_on s k (first_ways n) in
      let theirs = tasks_on s k (other_ways ns) in
      let gone : filter (λ t. not (enters_first t)) mine ≡ [] =
      filter_none (λ t. not (enters_first t)) mine (on_ways_where s k (λ t. not (enters_first t)) false (λ way. (way.input == 0) ≡ true) (λ t h. ap not h) (first_ways n) (all_first n)) in
      let kept : filter (λ t. not (enters_first t)) theirs ≡ theirs =
      filter_all (λ t. not (enters_first t)) theirs
      (on_ways_where s k (λ t. not (enters_first t)) true (λ way. (way.input == 0) ≡ false) (λ t h. ap not h) (other_ways ns) (enter_later (paths_of s.plan) 1 ns (omega arith))) in
      ap (filter (λ t. not (enters_first t))) (ways_cut n ns) ∙ filter-append (λ t. not (enters_first t)) mine theirs ∙ (λ i. gone i ++ kept i)

  tasks_many : (i : ℕ) (ps : List Path) → length (tasks_on s k (map (enter i) ps)) ≡ sum_by (λ path. length (parts_at s path.source)) ps
  tasks_many i [] = refl
  tasks_many i (p ∷ ps) =
      let a = length-append (path_tasks s k (enter i p)) (tasks_on s k (map (enter i) ps)) in
      let b : length (path_tasks s k (enter i p)) ≡ length (parts_at s p.source) = length-map (parts_at s p.source) made in
      let c = sum_by-cons (λ path. length (parts_at s path.source)) p ps in
      let more = tasks_many i ps in
      omega (arith, a, b, c, more)
    where
      made : Part → MapTask
      made part = record { node = k; way = enter i p; part = part }

  module _ (valid : IsPlan s.plan) where
    first_many : (ns : List ℕ) → length (filter enters_first (tasks_on s k (entering (paths_of s.plan) 0 ns))) ≡ sum_by (part_count s) (take 1 ns)
    first_many [] = refl
    first_many (n ∷ ns) =
        let a = sum_by-cons (part_count s) n [] in
        let z : sum_by (part_count s) [] ≡ 0 = refl in
        let one : length (filter enters_first (tasks_on s k (entering (paths_of s.plan) 0 (n ∷ ns)))) ≡ part_count s n =
        ap length (tasks_of_first n ns) ∙ tasks_many 0 (paths_of s.plan n) ∙ sym (count_by_paths s valid n) in
        omega (arith, a, z, one)

    pub probes_counted : (o : PlanOp) → is_replicated o ≡ true → length (probe_tasks s k o) ≡ output_count s o
    probes_counted (p_join inputs side true) h = first_many (map (λ i. i.input) inputs)
    probes_counted (p_join inputs side false) h = absurd (true≢false (sym h))
    probes_counted (p_load path delim columns) h = absurd (true≢false (sym h))
    probes_counted (p_filter input test) h = absurd (true≢false (sym h))
    probes_counted (p_foreach input block) h = absurd (true≢false (sym h))
    probes_counted (p_group_all input) h = absurd (true≢false (sym h))
    probes_counted (p_group inputs) h = absurd (true≢false (sym h))
    probes_counted (p_union inputs) h = absurd (true≢false (sym h))
    probes_counted (p_distinct input) h = absurd (true≢false (sym h))
    probes_counted (p_order input keys) h = absurd (true≢false (sym h))
    probes_counted (p_limit input count) h = absurd (true≢false (sym h))
    probes_counted (p_store input path delim) h = absurd (true≢false (sym h))
    probes_counted (p_assert input test message) h = absurd (true≢false (sym h))
    probes_counted (p_rank input keys dense) h = absurd (true≢false (sym h))
