-- Waves that are listed feed by feed are those of the stages.
use Rattle.std.specs.Prelude.{◌≡◌, ◌<◌, ◌≤◌, ◌+◌, ◌^◌, ℕ, false, List, [], ◌∷◌, ◌++◌, map, length, min, Option, Some, None, slice_get, refl}
use Rattle.std.proofs.Common.{ap, sym, ◌∙◌, arith, append_assoc, subst, inl, inr}
use Rattle.std.specs.List.{AllByRecursion, filter, flat_map, sum_by}
use Rattle.std.specs.Option.{unwrap_or}
use Rattle.std.proofs.lemmas.List.{length-append, length-map, map-append}
use Rattle.std.proofs.lemmas.Bool.{cases_lt}
use Rattle.std.proofs.lemmas.List.Sums.{sum_by-cons}
use Rattle.std.proofs.lemmas.Option.{slice_get_within}
use Rattle.pig_value.proofs.list_laws.Listing.{each-append, each-map, each_of_all, some_same}
use Rattle.pig_plan.proofs.Unfolds.{get-front}
use Rattle.pig_plan.specs.Nodes.{Entering, Path, live, paths_of}
use Rattle.pig_plan.specs.Plans.{Plan, plan_of}
use Rattle.pig_plan.specs.declared.nodes.Node.{Node}
use Rattle.pig_plan.specs.Results.{at_place}
use Rattle.pig_plan.specs.Valid.{IsPlan}
use Rattle.pig_physical.specs.declared.parts.Part.{Part}
use Rattle.pig_physical.specs.declared.parts.ReduceTask.{ReduceTask}
use Rattle.pig_physical.specs.declared.parts.Task as declared
use Rattle.pig_physical.specs.declared.staged.Size.{Size}
use Rattle.pig_physical.specs.declared.staged.Wave.{Wave}
use Rattle.pig_physical.specs.declared.waves.WaveHead.{WaveHead}
use Rattle.pig_physical.specs.declared.waves.WaveKind.{WaveKind}
use Rattle.pig_physical.specs.declared.waves.WaveKind.TheVariants as kinds
use Rattle.pig_physical.specs.Seen.{AreWaves, IsOwn, IsWave, cut_of, entering_of, no_way, staged, task_of}
use Rattle.pig_physical.specs.Stages.{MapTask, Stages, heads, parts_at, stores, t_map, tasks_in, tasks_on, wave_size, ways_in}
use Rattle.pig_cutter.specs.Feeds.{IsCut, feeds_of, is_store_in, made_on, partition_task, partitions_of, tasks_along, tasks_fed, ways_on}
use Rattle.pig_cutter.specs.Limits.{has_too_many}
use Rattle.pig_cutter.specs.Listed.{AreCut, AreListed, CutsInto}
use Rattle.pig_cutter.specs.Tables.{counts_of, parts_for, reading_of, readings, sizing_of}
use Rattle.pig_cutter.specs.declared.feeding.Feed.{Feed}
use Rattle.pig_cutter.specs.declared.reading.Source.{Source}
use Rattle.pig_cutter.proofs.Counted.{counts_are}
use Rattle.pig_cutter.proofs.Firsts.{parts_are}
use Rattle.pig_cutter.proofs.Sized.{feed_weight, path_weight, size_is}
use Rattle.pig_cutter.proofs.Fed.{enter, fed_tasks, partition_seen, tasks_are_fed, ways_are_fed}
use Rattle.pig_cutter.proofs.Weighed.{any_over_is, each_few}

get-next : {X : Type 0} (xs : List X) (x : X) (ys : List X) → slice_get (xs ++ x ∷ ys) (length xs) ≡ Some x
get-next [] x ys = refl
get-next (y ∷ xs) x ys = get-next xs x ys

module _ (s : Stages) (w : ℕ) where
  made_seen : (k n : ℕ) (ways : List Entering) (way : Entering) → at_place no_way ways n ≡ way → (ps : List Part)
      → map (task_of ways) (map (made_on k w n) ps) ≡ map t_map (map {B = MapTask} (λ part. record { node = k; way = way; part = part }) ps)
  made_seen k n ways way at [] = refl
  made_seen k n ways way at (p ∷ ps) = λ i. t_map (record { node = k; way = at i; part = p }) ∷ made_seen k n ways way at ps i

  -- tasks name their ways by the places among all
  seen_along : (k : ℕ) (front ways rest : List Entering)
      → map (task_of (front ++ (ways ++ rest))) (tasks_along (parts_at s) k w (length front) ways) ≡ map t_map (tasks_on s k ways)
  seen_along k front [] rest = refl
  seen_along k front (way ∷ ways) rest =
      let all : List Entering = front ++ (way ∷ (ways ++ rest)) in
      let at : at_place no_way (front ++ (way ∷ (ways ++ rest))) (length front) ≡ way = ap (λ o. unwrap_or o no_way) (get-next front way (ways ++ rest)) in
      let same : front ++ (way ∷ (ways ++ rest)) ≡ (front ++ way ∷ []) ++ (ways ++ rest) = sym (append_assoc front (way ∷ []) (ways ++ rest)) in
      let count : length front + 1 ≡ length (front ++ way ∷ []) = sym (length-append front (way ∷ [])) in
      map-append (task_of all) (map (made_on k w (length front)) (parts_at s way.path.source)) (tasks_along (parts_at s) k w (length front + 1) ways)
      ∙ (λ i. made_seen k (length front) all way at (parts_at s way.path.source) i ++ map (task_of (same i)) (tasks_along (parts_at s) k w (count i) ways))
      ∙ ap (λ ts. map t_map (map (λ part. record { node = k; way = way; part = part }) (parts_at s way.path.source)) ++ ts) (seen_along k (front ++ way ∷ []) ways rest)
      ∙ sym (map-append t_map (map (λ part. record { node = k; way = way; part = part }) (parts_at s way.path.source)) (tasks_on s k ways))

  seen_fed : (front : List Entering) (feeds : List Feed)
      → map (task_of (front ++ flat_map (ways_on s.plan) feeds)) (tasks_fed (parts_at s) s.plan w (length front) feeds) ≡ map t_map (flat_map (fed_tasks s) feeds)
  seen_fed front [] = refl
  seen_fed front (feed ∷ feeds) =
      let own : List Entering = ways_on s.plan feed in
      let rest : List Entering = flat_map (ways_on s.plan) feeds in
      let same : front ++ (own ++ rest) ≡ (front ++ own) ++ rest = sym (append_assoc front own rest) in
      let count : length front + length own ≡ length (front ++ own) = sym (length-append front own) in
      map-append (task_of (front ++ (own ++ rest))) (tasks_along (parts_at s) feed.node w (length front) own) (tasks_fed (parts_at s) s.plan w (length front + length own) feeds)
      ∙ (λ i. seen_along feed.node front own rest i ++ map (task_of (same i)) (tasks_fed (parts_at s) s.plan w (count i) feeds))
      ∙ ap (λ ts. map t_map (fed_tasks s feed) ++ ts) (seen_fed (front ++ own) feeds)
      ∙ sym (map-append t_map (fed_tasks s feed) (flat_map (fed_tasks s) feeds))

  seen_partition : (ways : List Entering) (kind : WaveKind) (p : ReduceTask) → task_of ways (partition_task kind p) ≡ partition_seen kind p
  seen_partition ways kinds.Map p = refl
  seen_partition ways kinds.Reduce p = refl
  seen_partition ways kinds.Copy p = refl
  seen_partition ways kinds.Probe p = refl
  seen_partition ways kinds.Rank p = refl
  seen_partition ways kinds.Store p = refl

  seen_partitions : (ways : List Entering) (kind : WaveKind) (ps : List ReduceTask) → map (task_of ways) (map (partition_task kind) ps) ≡ map (partition_seen kind) ps
  seen_partitions ways kind [] = refl
  seen_partitions ways kind (p ∷ ps) = λ i. seen_partition ways kind p i ∷ seen_partitions ways kind ps i

  -- and these are places among them
  own_along : (n k way : ℕ) (ways : List Entering) → way + length ways ≤ n → AllByRecursion (IsOwn w n) (tasks_along (parts_at s) k w way ways)
  own_along n k way [] within = tt
  own_along n k way (e ∷ ways) within =
      let below : way < n = omega (arith, within) in
      each-append (IsOwn w n) (map (made_on k w way) (parts_at s e.path.source)) (tasks_along (parts_at s) k w (way + 1) ways)
      (each-map (IsOwn w n) (made_on k w way) (parts_at s e.path.source) (each_of_all (λ part. IsOwn w n (made_on k w way part)) (λ part. (refl, below)) (parts_at s e.path.source)))
      (own_along n k (way + 1) ways (omega (arith, within)))

  own_fed : (n way : ℕ) (feeds : List Feed) → way + length (flat_map (ways_on s.plan) feeds) ≤ n → AllByRecursion (IsOwn w n) (tasks_fed (parts_at s) s.plan w way feeds)
  own_fed n way [] within = tt
  own_fed n way (feed ∷ feeds) within =
      let count = length-append (ways_on s.plan feed) (flat_map (ways_on s.plan) feeds) in
      each-append (IsOwn w n) (tasks_along (parts_at s) feed.node w way (ways_on s.plan feed)) (tasks_fed (parts_at s) s.plan w (way + length (ways_on s.plan feed)) feeds)
      (own_along n feed.node way (ways_on s.plan feed) (omega (arith, within, count)))
      (own_fed n (way + length (ways_on s.plan feed)) feeds (omega (arith, within, count)))

  own_partition : (n : ℕ) (kind : WaveKind) (p : ReduceTask) → IsOwn w n (partition_task kind p)
  own_partition n kinds.Map p = tt
  own_partition n kinds.Reduce p = tt
  own_partition n kinds.Copy p = tt
  own_partition n kinds.Probe p = tt
  own_partition n kinds.Rank p = tt
  own_partition n kinds.Store p = tt

  own_partitions : (n : ℕ) (kind : WaveKind) (ps : List ReduceTask) → AllByRecursion (IsOwn w n) (map (partition_task kind) ps)
  own_partitions n kind [] = tt
  own_partitions n kind (p ∷ ps) = (own_partition n kind p, own_partitions n kind ps)

  module _ (head : WaveHead) (at : slice_get (heads s.plan) w ≡ Some head) (wave : Wave) (is : IsCut s.plan (stores s.plan) (parts_at s) s.sizing.reducers w head wave) where
    abbrev feeds : List Feed
    feeds = feeds_of s.plan (stores s.plan) head

    abbrev partitions : List ReduceTask
    partitions = partitions_of s.plan s.sizing.reducers w head

    abbrev fed : List declared.Task
    fed = tasks_fed (parts_at s) s.plan w 0 feeds

    tasks_seen : map (task_of (ways_in s.plan w)) wave.tasks ≡ tasks_in s w
    tasks_seen =
        (λ i. map (task_of (ways_are_fed s w head at i)) (is.tasks_are i))
        ∙ map-append (task_of (flat_map (ways_on s.plan) feeds)) fed (map (partition_task head.kind) partitions)
        ∙ (λ i. seen_fed [] feeds i ++ seen_partitions (flat_map (ways_on s.plan) feeds) head.kind partitions i)
        ∙ sym (tasks_are_fed s w head at)

    all_own : AllByRecursion (IsOwn w (length wave.ways)) wave.tasks
    all_own =
        let a : length (map entering_of wave.ways) ≡ length wave.ways = length-map wave.ways entering_of in
        let b : length (map entering_of wave.ways) ≡ length (flat_map (ways_on s.plan) feeds) = ap length is.ways_are in
        subst (AllByRecursion (IsOwn w (length wave.ways))) (sym is.tasks_are)
        (each-append (IsOwn w (length wave.ways)) fed (map (partition_task head.kind) partitions)
        (own_fed (length wave.ways) 0 feeds (omega (arith, a, b))) (own_partitions (length wave.ways) head.kind partitions))

    wave_is : IsWave s w wave
    wave_is = record {
      head = at ∙ ap Some (sym is.head_is);
      ways = is.ways_are ∙ sym (ways_are_fed s w head at);
      tasks = tasks_seen;
      own = all_own;
      few = is.few;
    }

waves_are : (s : Stages) (waves : List Wave) → AreCut s.plan (stores s.plan) (parts_at s) s.sizing.reducers (heads s.plan) waves → AreWaves s waves
waves_are s waves cut = record {
  count = cut.count;
  each = λ w wave at. let found = cut.each w wave at in wave_is s w found.0 found.1.0 wave found.1.1;
}

-- ---- parts that are told where there are few

-- A path counts one more than the parts of its source. So where no wave counts more than the most, all sources that are read
-- have fewer parts.
module _ (s : Stages) (most : ℕ) (parts : ℕ → List Part) (told : (k : ℕ) → length (parts_at s k) < most → parts k ≡ parts_at s k) where
  same_along : (k w way i : ℕ) (ps : List Path) → sum_by (path_weight s) ps ≤ most → tasks_along parts k w way (map (enter i) ps) ≡ tasks_along (parts_at s) k w way (map (enter i) ps)
  same_along k w way i [] few = refl
  same_along k w way i (p ∷ ps) few =
      let sum : sum_by (path_weight s) (p ∷ ps) ≡ (length (parts_at s p.source) + 1) + sum_by (path_weight s) ps = sum_by-cons (path_weight s) p ps in
      let one : parts p.source ≡ parts_at s p.source = told p.source (omega (arith, sum, few)) in
      let more = same_along k w (way + 1) i ps (omega (arith, sum, few)) in
      λ j. map (made_on k w way) (one j) ++ more j

  same_fed : (w way : ℕ) (feeds : List Feed) → sum_by (feed_weight s) feeds ≤ most → tasks_fed parts s.plan w way feeds ≡ tasks_fed (parts_at s) s.plan w way feeds
  same_fed w way [] few = refl
  same_fed w way (feed ∷ feeds) few =
      let sum : sum_by (feed_weight s) (feed ∷ feeds) ≡ sum_by (path_weight s) (paths_of s.plan feed.from) + sum_by (feed_weight s) feeds = sum_by-cons (feed_weight s) feed feeds in
      let one = same_along feed.node w way feed.input (paths_of s.plan feed.from) (omega (arith, sum, few)) in
      let more = same_fed w (way + length (ways_on s.plan feed)) feeds (omega (arith, sum, few)) in
      λ j. one j ++ more j

  same_wave : (w : ℕ) (head : WaveHead) (wave : Wave) → slice_get (heads s.plan) w ≡ Some head → wave_size s w ≤ most
      → IsCut s.plan (stores s.plan) parts s.sizing.reducers w head wave → IsCut s.plan (stores s.plan) (parts_at s) s.sizing.reducers w head wave
  same_wave w head wave at few is =
      let size = size_is s w head at in
      record {
        head_is = is.head_is;
        ways_are = is.ways_are;
        tasks_are = is.tasks_are ∙ ap (λ ts. ts ++ map (partition_task head.kind) (partitions_of s.plan s.sizing.reducers w head))
            (same_fed w 0 (feeds_of s.plan (stores s.plan) head) (omega (arith, size, few)));
        few = is.few;
      }

  same_waves : (waves : List Wave) → ((w : ℕ) (head : WaveHead) → slice_get (heads s.plan) w ≡ Some head → wave_size s w ≤ most)
      → AreCut s.plan (stores s.plan) parts s.sizing.reducers (heads s.plan) waves → AreCut s.plan (stores s.plan) (parts_at s) s.sizing.reducers (heads s.plan) waves
  same_waves waves few cut = record {
    count = cut.count;
    each = λ w wave at. let found = cut.each w wave at in (found.0, (found.1.0, same_wave w found.0 wave found.1.0 (few w found.0 found.1.0) found.1.1));
  }

-- ---- what is listed from tables

below : (a b : ℕ) → a < b → a < b + 1
below a b h = omega (arith, h)

module _ (s : Stages) (valid : IsPlan s.plan) (parts : ℕ → List Part) (told : (k : ℕ) → length (parts_at s k) < 2 ^ 16 + 1 → parts k ≡ parts_at s k) where
  abbrev counted : ℕ → ℕ
  counted k = min (2 ^ 16 + 1) (length (parts_at s k))

  by_found : (found : Option (List Wave)) → AreListed s.plan (stores s.plan) counted parts s.sizing.reducers (heads s.plan) found → CutsInto s found
  by_found None over = sym (any_over_is s valid (2 ^ 16)) ∙ over
  by_found (Some waves) all =
      let none : has_too_many s ≡ false = sym (any_over_is s valid (2 ^ 16)) ∙ all.none_over in
      record {
        waves_are = waves_are s waves
            (same_waves s (2 ^ 16) parts (λ k few. told k (below (length (parts_at s k)) (2 ^ 16) few)) waves (each_few s (2 ^ 16) none) all.cut);
        few = all.few;
        none_over = none;
      }

  pub cuts_into : (at : List ℕ) (count : ℕ → ℕ) (hs : List WaveHead) → at ≡ stores s.plan → ((k : ℕ) → count k ≡ counted k) → hs ≡ heads s.plan
      → (found : Option (List Wave)) → AreListed s.plan at count parts s.sizing.reducers hs found → CutsInto s found
  cuts_into at count hs of_stores of_counts of_heads found listed =
      let all_counts : count ≡ counted = λ i k. of_counts k i in
      by_found found (subst (λ h. AreListed s.plan (stores s.plan) counted parts s.sizing.reducers h found) of_heads
      (subst (λ c. AreListed s.plan (stores s.plan) c parts s.sizing.reducers hs found) all_counts
      (subst (λ t. AreListed s.plan t count parts s.sizing.reducers hs found) of_stores listed)))

-- the same of what the code has read
pub cut_tables : (plan nodes : List Node) (sizes seen : List Size) (reducers split : ℕ) (at numbers counts : List ℕ) (table : List Source) (hs : List WaveHead) → IsPlan (plan_of plan) → nodes ≡ plan
    → numbers ≡ live (plan_of plan) → at ≡ filter (is_store_in (plan_of nodes)) numbers → counts ≡ counts_of (2 ^ 16 + 1) (sizing_of seen reducers split) (plan_of nodes)
    → map reading_of table ≡ readings (plan_of nodes) seen counts → seen ≡ sizes → hs ≡ heads (plan_of plan)
    → (found : Option (List Wave)) → AreListed (plan_of nodes) at (at_place 0 counts) (parts_for split table) reducers hs found → CutsInto (staged (cut_of plan sizes reducers split)) found
cut_tables plan nodes sizes seen reducers split at numbers counts table hs valid nodes_are live_are at_are counts_is table_is seen_are hs_are found listed =
    let s = staged (cut_of plan sizes reducers split) in
    let counted_is : (k : ℕ) → at_place 0 counts k ≡ min (2 ^ 16 + 1) (length (parts_at s k)) =
    λ k. (λ i. at_place 0 ((counts_is ∙ (λ j. counts_of (2 ^ 16 + 1) (sizing_of (seen_are j) reducers split) (plan_of (nodes_are j)))) i) k) ∙ counts_are (2 ^ 16 + 1) s valid k in
    cuts_into s valid (parts_for split table)
    (parts_are s sizes refl valid (2 ^ 16 + 1) counts counted_is table (table_is ∙ (λ i. readings (plan_of (nodes_are i)) (seen_are i) counts)))
    at (at_place 0 counts) hs (at_are ∙ (λ i. filter (is_store_in (plan_of (nodes_are i))) (live_are i))) counted_is hs_are found
    (subst (λ ns. AreListed (plan_of ns) at (at_place 0 counts) (parts_for split table) reducers hs found) nodes_are listed)

-- ---- loops

-- one more wave of those that are listed
pub one_more_cut : (plan : Plan) (at : List ℕ) (parts : ℕ → List Part) (reducers : ℕ) (front heads : List WaveHead) (waves next : List Wave) (n : ℕ) (head : WaveHead) (wave : Wave)
    → AreCut plan at parts reducers front waves → length front ≡ n → heads ≡ front ++ head ∷ [] → IsCut plan at parts reducers n head wave → next ≡ waves ++ wave ∷ []
    → AreCut plan at parts reducers heads next
one_more_cut plan at parts reducers front heads waves next n head wave cut size longer is adds = record {
  count =
      let a = length-append waves (wave ∷ []) in
      let b = length-append front (head ∷ []) in
      let c : length next ≡ length (waves ++ wave ∷ []) = ap length adds in
      let d : length heads ≡ length (front ++ head ∷ []) = ap length longer in
      let e = cut.count in
      omega (arith, a, b, c, d, e);
  each = λ w x found. by_place w x (sym (ap (λ xs. slice_get xs w) adds) ∙ found);
}
  where
    Found : ℕ → Wave → Type 0
    Found w x = (h : WaveHead) × ((slice_get heads w ≡ Some h) × IsCut plan at parts reducers w h x)

    before : (w : ℕ) (x : Wave) → w < length waves → slice_get (waves ++ wave ∷ []) w ≡ Some x → Found w x
    before w x within found =
        let old = cut.each w x (sym (get-front waves (wave ∷ []) w within) ∙ found) in
        let count = cut.count in
        (old.0, (ap (λ hs. slice_get hs w) longer ∙ get-front front (head ∷ []) w (omega (arith, within, count)) ∙ old.1.0, old.1.1))

    last : (w : ℕ) (x : Wave) → length waves ≡ w → slice_get (waves ++ wave ∷ []) w ≡ Some x → Found w x
    last w x here found =
        let count = cut.count in
        let at_n : n ≡ w = omega (arith, here, count, size) in
        let at_front : length front ≡ w = omega (arith, here, count) in
        let same : wave ≡ x = some_same wave x (sym (get-next waves wave []) ∙ ap (slice_get (waves ++ wave ∷ [])) here ∙ found) in
        let own : slice_get heads w ≡ Some head = ap (λ hs. slice_get hs w) longer ∙ ap (slice_get (front ++ head ∷ [])) (sym at_front) ∙ get-next front head [] in
        (head, (own, subst (λ y. IsCut plan at parts reducers w head y) same (subst (λ m. IsCut plan at parts reducers m head wave) at_n is)))

    by_place : (w : ℕ) (x : Wave) → slice_get (waves ++ wave ∷ []) w ≡ Some x → Found w x
    by_place w x found = elim (cases_lt w (length waves)) [
      | inl within ↦ before w x within found
      | inr past ↦
          let below = slice_get_within (waves ++ wave ∷ []) w x found in
          let size = length-append waves (wave ∷ []) in
          last w x (omega (arith, past, below, size)) found
    ]
