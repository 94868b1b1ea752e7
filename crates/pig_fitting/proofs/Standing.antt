-- Where tasks stand: each names a live node, and one that reads a way reads a part of the way's source.
use Rattle.std.specs.Prelude.{◌≡◌, ◌+◌, ◌-◌, ℕ, zero, suc, Bool, true, false, not, List, [], ◌∷◌, ◌++◌, length, map, take, Option, Some, None, slice_get}
use Rattle.std.specs.Prelude.{refl, ⊤}
use Rattle.std.proofs.Common.{ap, sym, ◌∙◌, append_assoc, arith, subst, true≢false}
use Rattle.std.specs.List.{AllByRecursion, filter, flat_map, range_with_len}
use Rattle.std.specs.Option.{option_map_or}
use Rattle.pig_value.proofs.list_laws.Listing.{each-filter, each_at, each_filtered, each_weaker, some_same}
use Rattle.pig_plan.specs.Nodes.{Entering, entering, is_boundary, is_live, is_store, live, op_at, paths_of}
use Rattle.pig_plan.specs.Plans.{Plan, PlanOp, p_load, p_filter, p_foreach, p_group_all, p_group, p_join, p_union, p_distinct, p_order, p_limit, p_store}
use Rattle.pig_plan.specs.Plans.{p_assert, p_rank}
use Rattle.pig_physical.specs.declared.parts.ReduceTask.{ReduceTask}
use Rattle.pig_physical.specs.declared.waves.WaveHead.{WaveHead}
use Rattle.pig_physical.specs.declared.waves.WaveKind.{WaveKind}
use Rattle.pig_physical.specs.declared.waves.WaveKind.TheVariants as kinds
use Rattle.pig_physical.specs.Stages.{MapTask, Stages, Task, boundaries, enters_first, head_of, heads, heads_at, is_replicated, map_tasks, partition_tasks, parts_at}
use Rattle.pig_physical.specs.Stages.{path_tasks, reduce_count, store_tasks, stores, t_map, t_rank, t_reduce, tasks_by, tasks_in, tasks_of, tasks_on, waves_of}
use Rattle.pig_physical.specs.Stages.{ways_into, ways_to}
use Rattle.pig_waves.proofs.Among.{Among, Side, among_first, among_later, behind, in_front, made_of, mapped_from, side_of}
use Rattle.pig_waves.specs.Laws.{ranks}

-- ---- elements of lists

module _ {X : Type 0} where
  pub all_among : (xs : List X) → AllByRecursion (λ x. Among x xs) xs
  all_among [] = tt
  all_among (x ∷ xs) = (among_first x xs, each_weaker (λ y. Among y xs) (λ y. Among y (x ∷ xs)) (λ y h. among_later y x xs h) xs (all_among xs))

  pub among_filtered : (p : X → Bool) (xs : List X) (x : X) → Among x (filter p xs) → Among x xs
  among_filtered p xs x h = each_at (λ y. Among y xs) (filter p xs) h.at x h.is (each-filter p (λ y. Among y xs) xs (all_among xs))

  pub passes_there : (p : X → Bool) (xs : List X) (x : X) → Among x (filter p xs) → p x ≡ true
  passes_there p xs x h = each_at (λ y. p y ≡ true) (filter p xs) h.at x h.is (each_filtered p xs)

  among_taken : (n : ℕ) (xs : List X) (x : X) → Among x (take n xs) → Among x xs
  among_taken n xs x h = record { at = h.at; is = by_place n xs h.at h.is }
    where
      by_place : (n : ℕ) (xs : List X) (i : ℕ) → slice_get (take n xs) i ≡ Some x → slice_get xs i ≡ Some x
      by_place zero xs i e = absurd (cc)
      by_place (suc n) [] i e = absurd (cc)
      by_place (suc n) (y ∷ xs) zero e = e
      by_place (suc n) (y ∷ xs) (suc i) e = by_place n xs i e

-- ---- nodes

-- what a test of a node's operator says of it
pub tested_op : (plan : Plan) (test : PlanOp → Bool) (k : ℕ) → option_map_or test (op_at plan k) false ≡ true
    → (o : PlanOp) × (op_at plan k ≡ Some o) × (test o ≡ true)
tested_op plan test k h = by_op (op_at plan k) refl h
  where
    by_op : (found : Option PlanOp) → op_at plan k ≡ found → option_map_or test found false ≡ true → (o : PlanOp) × (op_at plan k ≡ Some o) × (test o ≡ true)
    by_op None e g = absurd (true≢false (sym g))
    by_op (Some o) e g = (o, e, g)

pub record IsLive (plan : Plan) (test : PlanOp → Bool) (k : ℕ) : Type 0 where
  pub op : PlanOp
  pub at : op_at plan k ≡ Some op
  pub live : is_live plan k ≡ true
  pub is : test op ≡ true

pub among_live : (plan : Plan) (test : PlanOp → Bool) (k : ℕ) → Among k (filter (λ j. option_map_or test (op_at plan j) false) (live plan)) → IsLive plan test k
among_live plan test k h =
    let found = tested_op plan test k (passes_there (λ j. option_map_or test (op_at plan j) false) (live plan) k h) in
    let alive = among_filtered (λ j. option_map_or test (op_at plan j) false) (live plan) k h in
    record { op = found.0; at = found.1; live = passes_there (is_live plan) (range_with_len 0 (length plan)) k alive; is = found.2 }

-- ---- heads

-- the head of a boundary node's wave, or of that of the STOREs
pub data HeadOf (plan : Plan) (head : WaveHead) : Type 0 where
  of_node : (own : IsLive plan is_boundary head.node) → Among head.kind (waves_of own.op) → HeadOf plan head
  of_stores : head.kind ≡ kinds.Store → HeadOf plan head

head_at_node : (plan : Plan) (k : ℕ) (head : WaveHead) (own : IsLive plan is_boundary k) → Among head (heads_at plan k) → HeadOf plan head
head_at_node plan k head own h =
    let here : Among head (map (head_of plan k) (waves_of own.op)) =
    subst (λ found. Among head (option_map_or (λ o. map (head_of plan k) (waves_of o)) found [])) own.at h in
    let from = mapped_from (head_of plan k) (waves_of own.op) head here in
    subst (HeadOf plan) from.is (of_node own from.among)

pub head_is : (plan : Plan) (head : WaveHead) → Among head (heads plan) → HeadOf plan head
head_is plan head h = by_side (side_of head (flat_map (heads_at plan) (boundaries plan)) (map (λ k. head_of plan k kinds.Store) (take 1 (stores plan))) h)
  where
    by_side : Side head (flat_map (heads_at plan) (boundaries plan)) (map (λ k. head_of plan k kinds.Store) (take 1 (stores plan))) → HeadOf plan head
    by_side (in_front g) =
        let made = made_of (heads_at plan) (boundaries plan) head g in
        head_at_node plan made.x head (among_live plan is_boundary made.x made.among) made.made
    by_side (behind g) =
        let from = mapped_from (λ k. head_of plan k kinds.Store) (take 1 (stores plan)) head g in
        of_stores (subst (λ found. found.kind ≡ kinds.Store) from.is refl)

-- ---- tasks on ways

pub record IsOn (s : Stages) (k : ℕ) (ways : List Entering) (t : MapTask) : Type 0 where
  pub node : t.node ≡ k
  pub way : Among t.way ways
  pub part : Among t.part (parts_at s t.way.path.source)

pub on_ways : (s : Stages) (k : ℕ) (ways : List Entering) (t : MapTask) → Among t (tasks_on s k ways) → IsOn s k ways t
on_ways s k ways t h =
    let made = made_of (path_tasks s k) ways t h in
    let from = mapped_from (λ part. record { node = k; way = made.x; part = part }) (parts_at s made.x.path.source) t made.made in
    record {
      node = subst (λ u. u.node ≡ k) from.is refl;
      way = subst (λ u. Among u.way ways) from.is made.among;
      part = subst (λ u. Among u.part (parts_at s u.way.path.source)) from.is from.among;
    }

-- the place of the input that a way enters
pub record Enters (plan : Plan) (nodes : List ℕ) (first : ℕ) (way : Entering) : Type 0 where
  pub place : ℕ
  pub from : ℕ
  pub at : slice_get nodes place ≡ Some from
  pub input : way.input ≡ first + place
  pub path : Among way.path (paths_of plan from)

pub enters : (plan : Plan) (first : ℕ) (nodes : List ℕ) (way : Entering) → Among way (entering (paths_of plan) first nodes) → Enters plan nodes first way
enters plan first [] way h = absurd (cc)
enters plan first (node ∷ nodes) way h =
    by_side (λ g. enters plan (first + 1) nodes way g)
    (side_of way (map (λ path. record { input = first; path = path }) (paths_of plan node)) (entering (paths_of plan) (first + 1) nodes) h)
  where
    later : Enters plan nodes (first + 1) way → Enters plan (node ∷ nodes) first way
    later e = let is = e.input in record { place = suc e.place; from = e.from; at = e.at; input = omega (arith, is); path = e.path }

    by_side : (Among way (entering (paths_of plan) (first + 1) nodes) → Enters plan nodes (first + 1) way)
        → Side way (map (λ path. record { input = first; path = path }) (paths_of plan node)) (entering (paths_of plan) (first + 1) nodes)
        → Enters plan (node ∷ nodes) first way
    by_side rest (in_front g) =
        let from = mapped_from (λ path. record { input = first; path = path }) (paths_of plan node) way g in
        let same : first ≡ way.input = ap (λ w. w.input) from.is in
        record { place = 0; from = node; at = refl; input = omega (arith, same); path = subst (λ w. Among w.path (paths_of plan node)) from.is from.among }
    by_side rest (behind g) = later (rest g)

-- ---- tasks of waves

-- A map task of a live boundary node, or the task of a STORE.
pub data Stands (s : Stages) (t : MapTask) : Type 0 where
  at_node : (o : PlanOp) → op_at s.plan t.node ≡ Some o → is_live s.plan t.node ≡ true → is_boundary o ≡ true
      → Among t.way (ways_into s.plan o) → Among t.part (parts_at s t.way.path.source) → Stands s t
  at_store : (o : PlanOp) → op_at s.plan t.node ≡ Some o → is_live s.plan t.node ≡ true → is_store o ≡ true
      → Among t.way (ways_to s.plan t.node) → Among t.part (parts_at s t.way.path.source) → Stands s t

-- the only head of a wave, and its node's operator
pub record Headed (s : Stages) (w : ℕ) (task : Task) : Type 0 where
  pub head : WaveHead
  pub stands : slice_get (heads s.plan) w ≡ Some head
  pub op : PlanOp
  pub at : op_at s.plan head.node ≡ Some op
  pub among : Among task (tasks_by s w head.kind head.node op)

pub headed : (s : Stages) (w place : ℕ) (task : Task) → slice_get (tasks_in s w) place ≡ Some task → Headed s w task
headed s w place task h = by_head (slice_get (heads s.plan) w) refl h
  where
    by_op : (head : WaveHead) → slice_get (heads s.plan) w ≡ Some head → (found : Option PlanOp) → op_at s.plan head.node ≡ found
        → slice_get (option_map_or (tasks_by s w head.kind head.node) found []) place ≡ Some task → Headed s w task
    by_op head stands None e g = absurd (cc)
    by_op head stands (Some o) e g = record { head = head; stands = stands; op = o; at = e; among = record { at = place; is = g } }

    by_head : (found : Option WaveHead) → slice_get (heads s.plan) w ≡ found → slice_get (option_map_or (tasks_of s w) found []) place ≡ Some task
        → Headed s w task
    by_head None e g = absurd (cc)
    by_head (Some head) e g = by_op head e (op_at s.plan head.node) refl g

-- the map task that a task is, or the task on a partition
abbrev map_in : MapTask → Task → MapTask
map_in other (t_map t) = t
map_in other task = other

abbrev partition_in : ReduceTask → Task → ReduceTask
partition_in other (t_map t) = other
partition_in other (t_reduce t) = t
partition_in other (t_rank t) = t

pub among_maps : (ts : List MapTask) (t : MapTask) → Among (t_map t) (map t_map ts) → Among t ts
among_maps ts t h = let from = mapped_from t_map ts (t_map t) h in subst (λ u. Among u ts) (ap (map_in t) from.is) from.among

pub among_reduces : (ts : List ReduceTask) (t : ReduceTask) → Among (t_reduce t) (map t_reduce ts) → Among t ts
among_reduces ts t h = let from = mapped_from t_reduce ts (t_reduce t) h in subst (λ u. Among u ts) (ap (partition_in t) from.is) from.among

pub among_ranks : (ts : List ReduceTask) (t : ReduceTask) → Among (t_rank t) (map t_rank ts) → Among t ts
among_ranks ts t h = let from = mapped_from t_rank ts (t_rank t) h in subst (λ u. Among u ts) (ap (partition_in t) from.is) from.among

pub no_map : (ts : List ReduceTask) (t : MapTask) → Among (t_map t) (map t_reduce ts) → ⊥
no_map ts t h = let from = mapped_from t_reduce ts (t_map t) h in let wrong = from.is in absurd (cc)

pub no_map_ranks : (ts : List ReduceTask) (t : MapTask) → Among (t_map t) (map t_rank ts) → ⊥
no_map_ranks ts t h = let from = mapped_from t_rank ts (t_map t) h in let wrong = from.is in absurd (cc)

no_reduce : (ts : List MapTask) (t : ReduceTask) → Among (t_reduce t) (map t_map ts) → ⊥
no_reduce ts t h = let from = mapped_from t_map ts (t_reduce t) h in let wrong = from.is in absurd (cc)

no_reduce_ranks : (ts : List ReduceTask) (t : ReduceTask) → Among (t_reduce t) (map t_rank ts) → ⊥
no_reduce_ranks ts t h = let from = mapped_from t_rank ts (t_reduce t) h in let wrong = from.is in absurd (cc)

no_rank : (ts : List MapTask) (t : ReduceTask) → Among (t_rank t) (map t_map ts) → ⊥
no_rank ts t h = let from = mapped_from t_map ts (t_rank t) h in let wrong = from.is in absurd (cc)

no_rank_reduces : (ts : List ReduceTask) (t : ReduceTask) → Among (t_rank t) (map t_reduce ts) → ⊥
no_rank_reduces ts t h = let from = mapped_from t_reduce ts (t_rank t) h in let wrong = from.is in absurd (cc)

module _ (s : Stages) (t : MapTask) where
  of_live : (k : ℕ) (o : PlanOp) → op_at s.plan k ≡ Some o → is_live s.plan k ≡ true → is_boundary o ≡ true → Among t (map_tasks s k o) → Stands s t
  of_live k o at live here h =
      let on = on_ways s k (ways_into s.plan o) t h in
      at_node o (ap (op_at s.plan) on.node ∙ at) (ap (is_live s.plan) on.node ∙ live) here on.way on.part

  of_store : Among t (flat_map (store_tasks s) (stores s.plan)) → Stands s t
  of_store h =
      let made = made_of (store_tasks s) (stores s.plan) t h in
      let own = among_live s.plan is_store made.x made.among in
      let on = on_ways s made.x (ways_to s.plan made.x) t made.made in
      at_store own.op (ap (op_at s.plan) on.node ∙ own.at) (ap (is_live s.plan) on.node ∙ own.live) own.is
      (subst (λ k. Among t.way (ways_to s.plan k)) (sym on.node) on.way) on.part

  of_kind : (head : WaveHead) → HeadOf s.plan head → (w : ℕ) (o : PlanOp) → op_at s.plan head.node ≡ Some o
      → (kind : WaveKind) → head.kind ≡ kind → Among (t_map t) (tasks_by s w kind head.node o) → Stands s t
  of_kind head (of_stores store) w o at kinds.Map e h = let wrong = sym e ∙ store in absurd (cc)
  of_kind head (of_stores store) w o at kinds.Copy e h = let wrong = sym e ∙ store in absurd (cc)
  of_kind head (of_stores store) w o at kinds.Probe e h = let wrong = sym e ∙ store in absurd (cc)
  of_kind head (of_node own kind) w o at kinds.Map e h =
      of_live head.node o at own.live (ap is_boundary (some_same o own.op (sym at ∙ own.at)) ∙ own.is) (among_maps (map_tasks s head.node o) t h)
  of_kind head (of_node own kind) w o at kinds.Copy e h =
      of_live head.node o at own.live (ap is_boundary (some_same o own.op (sym at ∙ own.at)) ∙ own.is)
      (among_filtered (λ u. not (enters_first u)) (map_tasks s head.node o) t (among_maps (filter (λ u. not (enters_first u)) (map_tasks s head.node o)) t h))
  of_kind head (of_node own kind) w o at kinds.Probe e h =
      of_live head.node o at own.live (ap is_boundary (some_same o own.op (sym at ∙ own.at)) ∙ own.is)
      (among_filtered enters_first (map_tasks s head.node o) t (among_maps (filter enters_first (map_tasks s head.node o)) t h))
  of_kind head is w o at kinds.Reduce e h = absurd (no_map (partition_tasks s (w - 1) head.node o) t h)
  of_kind head is w o at kinds.Rank e h = absurd (no_map_ranks (partition_tasks s (w - 1) head.node o) t h)
  of_kind head is w o at kinds.Store e h = of_store (among_maps (flat_map (store_tasks s) (stores s.plan)) t h)

  pub task_stands : (w place : ℕ) → slice_get (tasks_in s w) place ≡ Some (t_map t) → Stands s t
  task_stands w place h =
      let in_wave = headed s w place (t_map t) h in
      of_kind in_wave.head (head_is s.plan in_wave.head (record { at = w; is = in_wave.stands })) w in_wave.op in_wave.at in_wave.head.kind refl in_wave.among

-- ---- the wave before that of a task on a partition

-- the kind of the wave whose outputs a wave of partitions reads
abbrev pub kind_before : WaveKind → Option WaveKind
kind_before kinds.Reduce = Some kinds.Map
kind_before kinds.Rank = Some kinds.Reduce
kind_before kind = None

abbrev pub IsBehind : Plan → Option WaveHead → WaveHead → Type 0
IsBehind plan before head = (kind : WaveKind) → kind_before head.kind ≡ Some kind → before ≡ Some (head_of plan head.node kind)

-- each head of a wave of partitions stands behind that of the wave that it reads, of its node
abbrev Follows : Plan → Option WaveHead → List WaveHead → Type 0
Follows plan before [] = ⊤
Follows plan before (head ∷ hs) = IsBehind plan before head × Follows plan (Some head) hs

module _ (plan : Plan) where
  behind_one : (before : WaveHead) (hs : List WaveHead) → Follows plan (Some before) hs → (w : ℕ) (head : WaveHead) → slice_get hs w ≡ Some head
      → IsBehind plan (slice_get (before ∷ hs) w) head
  behind_one before [] f w head at = absurd (cc)
  behind_one before (h ∷ hs) f zero head at = subst (IsBehind plan (Some before)) (some_same h head at) f.0
  behind_one before (h ∷ hs) f (suc w) head at = behind_one h hs f.1 w head at

  wave_before : (hs : List WaveHead) → Follows plan None hs → (w : ℕ) (head : WaveHead) → slice_get hs w ≡ Some head
      → (kind : WaveKind) → kind_before head.kind ≡ Some kind → (w ≡ (w - 1) + 1) × (slice_get hs (w - 1) ≡ Some (head_of plan head.node kind))
  wave_before [] f w head at kind is = absurd (cc)
  wave_before (h ∷ hs) f zero head at kind is =
      let wrong : None ≡ Some (head_of plan head.node kind) = subst (IsBehind plan None) (some_same h head at) f.0 kind is in absurd (cc)
  wave_before (h ∷ hs) f (suc w) head at kind is =
      let e : suc w - 1 ≡ w = omega arith in (omega arith, ap (slice_get (h ∷ hs)) e ∙ behind_one h hs f.1 w head at kind is)

  none_behind : (before : Option WaveHead) (ks : List ℕ) → Follows plan before (map (λ k. head_of plan k kinds.Store) ks)
  none_behind before [] = tt
  none_behind before (k ∷ ks) = ((λ kind e. absurd (cc)), none_behind (Some (head_of plan k kinds.Store)) ks)

  two_follow : (k : ℕ) (rest : List WaveHead) → ((before : Option WaveHead) → Follows plan before rest) → (before : Option WaveHead)
      → Follows plan before (head_of plan k kinds.Map ∷ head_of plan k kinds.Reduce ∷ rest)
  two_follow k rest on before = ((λ kind e. absurd (cc)), ((λ kind e. ap (λ x. Some (head_of plan k x)) (some_same kinds.Map kind e)), on _))

  waves_follow : (k : ℕ) (rest : List WaveHead) → ((before : Option WaveHead) → Follows plan before rest) → (before : Option WaveHead) (o : PlanOp)
      → Follows plan before (map (head_of plan k) (waves_of o) ++ rest)
  waves_follow k rest on before (p_join inputs side true) = ((λ kind e. absurd (cc)), ((λ kind e. absurd (cc)), on _))
  waves_follow k rest on before (p_join inputs side false) = two_follow k rest on before
  waves_follow k rest on before (p_rank input keys dense) = (
    (λ kind e. absurd (cc)),
    ((λ kind e. ap (λ x. Some (head_of plan k x)) (some_same kinds.Map kind e)), ((λ kind e. ap (λ x. Some (head_of plan k x)) (some_same kinds.Reduce kind e)), on _)),
  )
  waves_follow k rest on before (p_load path delim columns) = two_follow k rest on before
  waves_follow k rest on before (p_filter input test) = two_follow k rest on before
  waves_follow k rest on before (p_foreach input block) = two_follow k rest on before
  waves_follow k rest on before (p_group_all input) = two_follow k rest on before
  waves_follow k rest on before (p_group inputs) = two_follow k rest on before
  waves_follow k rest on before (p_union inputs) = two_follow k rest on before
  waves_follow k rest on before (p_distinct input) = two_follow k rest on before
  waves_follow k rest on before (p_order input keys) = two_follow k rest on before
  waves_follow k rest on before (p_limit input count) = two_follow k rest on before
  waves_follow k rest on before (p_store input path delim) = two_follow k rest on before
  waves_follow k rest on before (p_assert input test message) = two_follow k rest on before

  own_follow : (k : ℕ) (rest : List WaveHead) → ((before : Option WaveHead) → Follows plan before rest) → (before : Option WaveHead) (found : Option PlanOp)
      → Follows plan before (option_map_or (λ o. map (head_of plan k) (waves_of o)) found [] ++ rest)
  own_follow k rest on before None = on before
  own_follow k rest on before (Some o) = waves_follow k rest on before o

  all_follow : (ks : List ℕ) (before : Option WaveHead)
      → Follows plan before (flat_map (heads_at plan) ks ++ map (λ k. head_of plan k kinds.Store) (take 1 (stores plan)))
  all_follow [] before = none_behind before (take 1 (stores plan))
  all_follow (k ∷ ks) before =
      subst (Follows plan before) (sym (append_assoc (heads_at plan k) (flat_map (heads_at plan) ks)
      (map (λ j. head_of plan j kinds.Store) (take 1 (stores plan)))))
      (own_follow k (flat_map (heads_at plan) ks ++ map (λ j. head_of plan j kinds.Store) (take 1 (stores plan))) (λ b. all_follow ks b) before
      (op_at plan k))

module _ (s : Stages) (t : ReduceTask) where
  pub in_partition : (w k : ℕ) (p : PlanOp) → Among t (partition_tasks s w k p) → (t.node ≡ k) × (t.wave ≡ w)
  in_partition w k p h =
      let from = mapped_from (λ i. record { node = k; wave = w; part = i }) (range_with_len 0 (reduce_count s.sizing.reducers p)) t h in
      subst (λ u. (u.node ≡ k) × (u.wave ≡ w)) from.is (refl, refl)

-- A task on a partition of a live boundary node, in a wave of this kind: the wave before has the node's tasks that it reads.
pub record OfPartition (s : Stages) (w : ℕ) (t : ReduceTask) (kind before : WaveKind) : Type 0 where
  pub op : PlanOp
  pub at : op_at s.plan t.node ≡ Some op
  pub live : is_live s.plan t.node ≡ true
  pub here : is_boundary op ≡ true
  pub among : Among kind (waves_of op)
  pub behind : w ≡ t.wave + 1
  pub reads : tasks_in s t.wave ≡ tasks_by s t.wave before t.node op

module _ (s : Stages) (t : ReduceTask) where
  of_node_found : (kind before : WaveKind) → kind_before kind ≡ Some before → (head : WaveHead) → HeadOf s.plan head → (w : ℕ) → slice_get (heads s.plan) w ≡ Some head
      → (p : PlanOp) → op_at s.plan head.node ≡ Some p → head.kind ≡ kind → (kind ≡ kinds.Store → ⊥) → Among t (partition_tasks s (w - 1) head.node p) → OfPartition s w t kind before
  of_node_found kind before is head (of_stores store) w stands p found e other h = absurd (other (sym e ∙ store))
  of_node_found kind before is head (of_node own among) w stands p found e other h =
      let on = in_partition s t (w - 1) head.node p h in
      let same : own.op ≡ p = some_same own.op p (sym own.at ∙ found) in
      let behind = wave_before s.plan (heads s.plan) (all_follow s.plan (boundaries s.plan) None) w head stands before (ap kind_before e ∙ is) in
      record {
        op = p;
        at = ap (op_at s.plan) on.0 ∙ found;
        live = ap (is_live s.plan) on.0 ∙ own.live;
        here = ap is_boundary (sym same) ∙ own.is;
        among = subst (λ q. Among kind (waves_of q)) same (subst (λ x. Among x (waves_of own.op)) e among);
        behind = behind.0 ∙ ap (λ n. n + 1) (sym on.1);
        reads =
            ap (tasks_in s) on.1 ∙ ap (λ found. option_map_or (tasks_of s (w - 1)) found []) behind.1
            ∙ ap (λ found. option_map_or (tasks_by s (w - 1) before head.node) found []) found
            ∙ (λ i. tasks_by s (sym on.1 i) before (sym on.0 i) p);
      }

  by_reduce : (head : WaveHead) → HeadOf s.plan head → (w : ℕ) → slice_get (heads s.plan) w ≡ Some head → (p : PlanOp) → op_at s.plan head.node ≡ Some p
      → (kind : WaveKind) → head.kind ≡ kind → Among (t_reduce t) (tasks_by s w kind head.node p) → OfPartition s w t kinds.Reduce kinds.Map
  by_reduce head is w stands p found kinds.Map e h = absurd (no_reduce (map_tasks s head.node p) t h)
  by_reduce head is w stands p found kinds.Copy e h = absurd (no_reduce (filter (λ u. not (enters_first u)) (map_tasks s head.node p)) t h)
  by_reduce head is w stands p found kinds.Probe e h = absurd (no_reduce (filter enters_first (map_tasks s head.node p)) t h)
  by_reduce head is w stands p found kinds.Store e h = absurd (no_reduce (flat_map (store_tasks s) (stores s.plan)) t h)
  by_reduce head is w stands p found kinds.Rank e h = absurd (no_reduce_ranks (partition_tasks s (w - 1) head.node p) t h)
  by_reduce head is w stands p found kinds.Reduce e h =
      of_node_found kinds.Reduce kinds.Map refl head is w stands p found e (λ wrong. absurd (cc)) (among_reduces (partition_tasks s (w - 1) head.node p) t h)

  by_rank : (head : WaveHead) → HeadOf s.plan head → (w : ℕ) → slice_get (heads s.plan) w ≡ Some head → (p : PlanOp) → op_at s.plan head.node ≡ Some p
      → (kind : WaveKind) → head.kind ≡ kind → Among (t_rank t) (tasks_by s w kind head.node p) → OfPartition s w t kinds.Rank kinds.Reduce
  by_rank head is w stands p found kinds.Map e h = absurd (no_rank (map_tasks s head.node p) t h)
  by_rank head is w stands p found kinds.Copy e h = absurd (no_rank (filter (λ u. not (enters_first u)) (map_tasks s head.node p)) t h)
  by_rank head is w stands p found kinds.Probe e h = absurd (no_rank (filter enters_first (map_tasks s head.node p)) t h)
  by_rank head is w stands p found kinds.Store e h = absurd (no_rank (flat_map (store_tasks s) (stores s.plan)) t h)
  by_rank head is w stands p found kinds.Reduce e h = absurd (no_rank_reduces (partition_tasks s (w - 1) head.node p) t h)
  by_rank head is w stands p found kinds.Rank e h =
      of_node_found kinds.Rank kinds.Reduce refl head is w stands p found e (λ wrong. absurd (cc)) (among_ranks (partition_tasks s (w - 1) head.node p) t h)

  -- a reduce task reads what the map tasks of its node hand on
  pub reduces_at : (w place : ℕ) → slice_get (tasks_in s w) place ≡ Some (t_reduce t) → OfPartition s w t kinds.Reduce kinds.Map
  reduces_at w place h =
      let in_wave = headed s w place (t_reduce t) h in
      by_reduce in_wave.head (head_is s.plan in_wave.head
      (record { at = w; is = in_wave.stands })) w in_wave.stands in_wave.op in_wave.at in_wave.head.kind refl in_wave.among

  -- and a rank task what its reduce tasks do
  pub ranks_at : (w place : ℕ) → slice_get (tasks_in s w) place ≡ Some (t_rank t) → OfPartition s w t kinds.Rank kinds.Reduce
  ranks_at w place h =
      let in_wave = headed s w place (t_rank t) h in
      by_rank in_wave.head (head_is s.plan in_wave.head
      (record { at = w; is = in_wave.stands })) w in_wave.stands in_wave.op in_wave.at in_wave.head.kind refl in_wave.among

not_of_two : Among kinds.Rank (kinds.Map ∷ kinds.Reduce ∷ []) → ⊥
not_of_two h = by_place h.at h.is
  where
    by_place : (i : ℕ) → slice_get (kinds.Map ∷ kinds.Reduce ∷ []) i ≡ Some kinds.Rank → ⊥
    by_place zero wrong = absurd (cc)
    by_place (suc zero) wrong = absurd (cc)
    by_place (suc (suc i)) wrong = absurd (cc)

not_of_probes : Among kinds.Rank (kinds.Copy ∷ kinds.Probe ∷ []) → ⊥
not_of_probes h = by_place h.at h.is
  where
    by_place : (i : ℕ) → slice_get (kinds.Copy ∷ kinds.Probe ∷ []) i ≡ Some kinds.Rank → ⊥
    by_place zero wrong = absurd (cc)
    by_place (suc zero) wrong = absurd (cc)
    by_place (suc (suc i)) wrong = absurd (cc)

-- the node of a rank task is a RANK
pub ranks_alone : (o : PlanOp) → Among kinds.Rank (waves_of o) → ranks o ≡ true
ranks_alone (p_rank input keys dense) h = refl
ranks_alone (p_join inputs side true) h = absurd (not_of_probes h)
ranks_alone (p_join inputs side false) h = absurd (not_of_two h)
ranks_alone (p_load path delim columns) h = absurd (not_of_two h)
ranks_alone (p_filter input test) h = absurd (not_of_two h)
ranks_alone (p_foreach input block) h = absurd (not_of_two h)
ranks_alone (p_group_all input) h = absurd (not_of_two h)
ranks_alone (p_group inputs) h = absurd (not_of_two h)
ranks_alone (p_union inputs) h = absurd (not_of_two h)
ranks_alone (p_distinct input) h = absurd (not_of_two h)
ranks_alone (p_order input keys) h = absurd (not_of_two h)
ranks_alone (p_limit input count) h = absurd (not_of_two h)
ranks_alone (p_store input path delim) h = absurd (not_of_two h)
ranks_alone (p_assert input test message) h = absurd (not_of_two h)

none_reduces : Among kinds.Reduce (kinds.Copy ∷ kinds.Probe ∷ []) → ⊥
none_reduces h = by_place h.at h.is
  where
    by_place : (i : ℕ) → slice_get (kinds.Copy ∷ kinds.Probe ∷ []) i ≡ Some kinds.Reduce → ⊥
    by_place zero wrong = absurd (cc)
    by_place (suc zero) wrong = absurd (cc)
    by_place (suc (suc i)) wrong = absurd (cc)

-- that of a reduce task is no replicated JOIN
pub reduces_alone : (o : PlanOp) → Among kinds.Reduce (waves_of o) → is_replicated o ≡ false
reduces_alone (p_join inputs side true) h = absurd (none_reduces h)
reduces_alone (p_join inputs side false) h = refl
reduces_alone (p_rank input keys dense) h = refl
reduces_alone (p_load path delim columns) h = refl
reduces_alone (p_filter input test) h = refl
reduces_alone (p_foreach input block) h = refl
reduces_alone (p_group_all input) h = refl
reduces_alone (p_group inputs) h = refl
reduces_alone (p_union inputs) h = refl
reduces_alone (p_distinct input) h = refl
reduces_alone (p_order input keys) h = refl
reduces_alone (p_limit input count) h = refl
reduces_alone (p_store input path delim) h = refl
reduces_alone (p_assert input test message) h = refl
