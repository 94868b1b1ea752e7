-- What an attempt gives is right for the task at its place.
use Rattle.std.specs.Prelude.{◌≡◌, ⊤, ◌<◌, ◌+◌, ◌-◌, ℕ, zero, suc, true, not, All, List, [], ◌∷◌, Option, None, Some, get_or, length, map, slice_get, Result, Ok, Err, IfOk, IfSome, refl}
use Rattle.std.proofs.Common.{ap, sym, ◌∙◌, arith, subst}
use Rattle.std.specs.List.{AllByRecursion, filter, flat_map, range_with_len}
use Rattle.std.specs.Option.{ForSome, option_map, option_map_or}
use Rattle.std.proofs.lemmas.List.{length-map}
use Rattle.std.proofs.lemmas.List.FromFn.{length-range_with_len}
use Rattle.std.proofs.lemmas.Option.{get_or_from_slice_get}
use Rattle.pig_value.specs.declared.inputs.Input.{Input}
use Rattle.pig_value.proofs.list_laws.Indexing.{get_map, some_at}
use Rattle.pig_value.proofs.list_laws.Elementwise.{range_below}
use Rattle.pig_value.proofs.list_laws.Listing.{each_at, each_weaker, some_same}
use Rattle.pig_plan.specs.Nodes.{op_at}
use Rattle.pig_plan.specs.Plans.{PlanOp}
use Rattle.pig_plan.specs.Results.{at_place}
use Rattle.pig_plan.specs.Valid.{IsPlan}
use Rattle.pig_physical.specs.Fitting.{Fits, HasAll, HasNamed, HasRead, HasWave}
use Rattle.pig_physical.specs.Outs.{Outs, TaskOut, outs_at}
use Rattle.pig_physical.specs.Seen.{HasSource, IsOwn, IsTaskOf, Reads, map_task_of, no_way, task_of}
use Rattle.pig_physical.specs.Stages.{MapTask, Stages, Task, enters_first, heads, map_tasks, partition_tasks, reduce_count, store_tasks, stores, t_map, t_rank, t_reduce}
use Rattle.pig_physical.specs.Stages.{tasks_by, tasks_in, tasks_of, ways_in}
use Rattle.pig_physical.specs.Values.{IsValue}
use Rattle.pig_physical.specs.declared.parts.MapTask as mapping
use Rattle.pig_physical.specs.declared.parts.ReduceTask.{ReduceTask}
use Rattle.pig_physical.specs.declared.parts.Task.TheVariants as tasks
use Rattle.pig_physical.specs.declared.waves.WaveHead.{WaveHead}
use Rattle.pig_physical.specs.declared.waves.WaveKind.{WaveKind}
use Rattle.pig_physical.specs.declared.waves.WaveKind.TheVariants as kinds
use Rattle.pig_fitting.specs.Laws.{ReduceFormFits}
use Rattle.pig_probe.specs.Probing.{SidesSeen}
use Rattle.pig_map.specs.Copies.{AreSidesIn, HasSides}
use Rattle.pig_rank.specs.declared.parts.Start.{Start}
use Rattle.pig_waves.specs.Laws.{ranks}
use Rattle.pig_fitting.proofs.Standing.{ranks_alone, ranks_at, reduces_at}
use Rattle.pig_work.specs.Working.{AreStarts, HasSources, IsReady, IsRight, IsRightAt, Suits, TaskReads, Tellings}

-- ---- what was made for one host is right among several

pub among_hosts : (s : Stages) (tellings : Tellings) (outs : Outs) (wave place : ℕ) (told : Option (List Input)) → Suits s tellings wave told
    → (out : TaskOut) → IsRightAt s (told ∷ []) outs wave place out → IsRightAt s tellings outs wave place out
among_hosts s tellings outs wave place told suits out h task stands = record {
  fits = (h task stands).fits;
  value = λ inputs read. (h task stands).value inputs (each_at (TaskReads task inputs) tellings suits.place told suits.stands read, tt);
}

-- by what the attempt gave
pub among_all : {X E : Type 0} (seen : X → TaskOut) (s : Stages) (tellings : Tellings) (outs : Outs) (wave place : ℕ) (told : Option (List Input))
    → Suits s tellings wave told
    → (result : Result (Option X) E) → IfOk result (λ o. IfSome o (λ x. IsRightAt s (told ∷ []) outs wave place (seen x)))
    → IfOk result (λ o. IfSome o (λ x. IsRightAt s tellings outs wave place (seen x)))
among_all seen s tellings outs wave place told suits (Err e) h = tt
among_all seen s tellings outs wave place told suits (Ok None) h = tt
among_all seen s tellings outs wave place told suits (Ok (Some x)) h = among_hosts s tellings outs wave place told suits (seen x) h

-- each of several hosts suits, where what they tell is named
pub host_suits : {X : Type 0} (inputs : X → Option (List Input)) (s : Stages) (wave : ℕ) (hosts : List X) (tellings : Tellings) → map inputs hosts ≡ tellings
    → All (λ h. ForSome (inputs h) (HasSources s wave)) hosts → (k : ℕ) (d : X) → k < length hosts → Suits s tellings wave (inputs (get_or hosts k d))
host_suits inputs s wave hosts tellings told all k d less =
    let found = some_at hosts k less in
    let same : get_or hosts k d ≡ found.0 = get_or_from_slice_get hosts k found.0 d found.1 in
    record {
      place = k;
      stands = ap (λ ts. slice_get ts k) (sym told) ∙ get_map inputs hosts k ∙ ap (option_map inputs) found.1 ∙ ap (λ h. Some (inputs h)) (sym same);
      sources = all k d less;
    }

-- what follows from two claims of one result
pub both_ok : {X E : Type 0} (A B C : X → Type 0) → ((x : X) → A x → B x → C x) → (r : Result X E) → IfOk r A → IfOk r B → IfOk r C
both_ok A B C to (Ok x) a b = to x a b
both_ok A B C to (Err e) a b = tt

-- ---- map tasks

module _ (s : Stages) (outs : Outs) (wave place : ℕ) (ready : IsReady s outs wave) (t : mapping.MapTask)
    (stands : slice_get (tasks_in s wave) place ≡ Some (task_of (ways_in s.plan wave) (tasks.Map t)))
    (own : IsOwn wave (length (ways_in s.plan wave)) (tasks.Map t)) where
  pub map_stands : IsTaskOf s t.wave (tasks.Map t)
  map_stands = subst (λ w. IsTaskOf s w (tasks.Map t)) (sym own.0) (record { wave = ready.within; at = place; stands = stands; own = own })

  is_own : t_map (map_task_of s t) ≡ task_of (ways_in s.plan wave) (tasks.Map t)
  is_own = ap (λ w. t_map (record { node = t.node; way = at_place no_way (ways_in s.plan w) t.way; part = t.part })) own.0

  pub map_read : HasRead s outs (map_task_of s t)
  map_read = subst (HasNamed s outs) (sym is_own) (ready.named place (task_of (ways_in s.plan wave) (tasks.Map t)) stands)

  pub map_sides : (sides : SidesSeen) → AreSidesIn s outs wave sides → HasSides s outs (map_task_of s t) sides
  map_sides sides are = are place (map_task_of s t) (stands ∙ ap Some (sym is_own))

  pub map_source : (told : Option (List Input)) → ForSome told (HasSources s wave) → ForSome told (HasSource s (map_task_of s t))
  map_source told h = λ inputs is. h inputs is place (map_task_of s t) (stands ∙ ap Some (sym is_own))

  made_right : (told : Option (List Input)) (out : TaskOut) → Fits s (t_map (map_task_of s t)) out
      → ((inputs : List Input) → Reads told t.part inputs → IsValue s inputs None outs (t_map (map_task_of s t)) out)
      → IsRightAt s (told ∷ []) outs wave place out
  made_right told out fits value task is =
      subst (λ u. IsRight s (told ∷ []) outs u out) (is_own ∙ some_same (task_of (ways_in s.plan wave) (tasks.Map t)) task (sym stands ∙ is))
      (record { fits = fits; value = λ inputs read. value inputs read.0 })

  -- by what the attempt gave
  pub map_right : {X E : Type 0} (seen : X → TaskOut) (told : Option (List Input)) (result : Result (Option X) E)
      → ((inputs : List Input) → Reads told t.part inputs → IfOk result (λ o. IfSome o (λ x. IsValue s inputs None outs (t_map (map_task_of s t)) (seen x))))
      → IfOk result (λ o. IfSome o (λ x. Fits s (t_map (map_task_of s t)) (seen x)))
      → IfOk result (λ o. IfSome o (λ x. IsRightAt s (told ∷ []) outs wave place (seen x)))
  map_right seen told (Err e) value fits = tt
  map_right seen told (Ok None) value fits = tt
  map_right seen told (Ok (Some x)) value fits = made_right told (seen x) fits value

-- ---- reduce tasks

module _ (s : Stages) where
  module _ (outs : Outs) (wave place : ℕ) (ready : IsReady s outs wave) (t : ReduceTask)
      (stands : slice_get (tasks_in s wave) place ≡ Some (task_of (ways_in s.plan wave) (tasks.Reduce t))) where
    pub reduce_stands : IsTaskOf s (t.wave + 1) (tasks.Reduce t)
    reduce_stands =
        subst (λ w. IsTaskOf s w (tasks.Reduce t)) (reduces_at s t wave place stands).behind
        (record { wave = ready.within; at = place; stands = stands; own = tt })

    pub reduce_wave : HasWave s outs t
    reduce_wave = ready.named place (t_reduce t) stands

    pub reduce_right : {X E : Type 0} (seen : X → TaskOut) (told : Option (List Input)) (result : Result (Option X) E)
        → IfOk result (λ o. IfSome o (λ x. (tellings : Tellings) → IsRight s tellings outs (t_reduce t) (seen x)))
        → IfOk result (λ o. IfSome o (λ x. IsRightAt s (told ∷ []) outs wave place (seen x)))
    reduce_right seen told (Err e) h = tt
    reduce_right seen told (Ok None) h = tt
    reduce_right seen told (Ok (Some x)) h = λ task is.
        subst (λ u. IsRight s (told ∷ []) outs u (seen x)) (some_same (t_reduce t) task (sym stands ∙ is)) (h (told ∷ []))

  -- the value of a reduce task fits
  pub value_right : (law : ReduceFormFits) → IsPlan s.plan → (outs : Outs) (t : ReduceTask) → IsTaskOf s (t.wave + 1) (tasks.Reduce t) → HasWave s outs t
      → (out : TaskOut) → ((inputs : List Input) → IsValue s inputs None outs (t_reduce t) out) → (tellings : Tellings)
      → IsRight s tellings outs (t_reduce t) out
  value_right law valid outs t is has out value tellings =
      let own = reduces_at s t (t.wave + 1) is.at is.stands in
      record {
        fits = law s valid (t.wave + 1) is.at t is.stands own.op own.at outs has out.form (value [] own.op own.at).form;
        value = λ inputs read. value inputs;
      }

  pub values_right : {X : Type 0} (seen : X → TaskOut) → ReduceFormFits → IsPlan s.plan → (outs : Outs) (t : ReduceTask)
      → IsTaskOf s (t.wave + 1) (tasks.Reduce t) → HasWave s outs t
      → (o : Option X) → IfSome o (λ x. (inputs : List Input) → IsValue s inputs None outs (t_reduce t) (seen x))
      → IfSome o (λ x. (tellings : Tellings) → IsRight s tellings outs (t_reduce t) (seen x))
  values_right seen law valid outs t is has None value = tt
  values_right seen law valid outs t is has (Some x) value = value_right law valid outs t is has (seen x) value

  -- ---- rank tasks

  module _ (outs : Outs) (wave place : ℕ) (ready : IsReady s outs wave) (t : ReduceTask)
      (stands : slice_get (tasks_in s wave) place ≡ Some (task_of (ways_in s.plan wave) (tasks.Rank t))) where
    pub rank_stands : IsTaskOf s (t.wave + 1) (tasks.Rank t)
    rank_stands =
        subst (λ w. IsTaskOf s w (tasks.Rank t)) (ranks_at s t wave place stands).behind
        (record { wave = ready.within; at = place; stands = stands; own = tt })

    pub rank_all : HasAll s outs t.wave
    rank_all = ready.named place (t_rank t) stands

    pub rank_right : {X E : Type 0} (seen : X → TaskOut) (told : Option (List Input)) (result : Result (Option X) E)
        → IfOk result (λ o. IfSome o (λ x. (tellings : Tellings) → IsRight s tellings outs (t_rank t) (seen x)))
        → IfOk result (λ o. IfSome o (λ x. IsRightAt s (told ∷ []) outs wave place (seen x)))
    rank_right seen told (Err e) h = tt
    rank_right seen told (Ok None) h = tt
    rank_right seen told (Ok (Some x)) h = λ task is.
        subst (λ u. IsRight s (told ∷ []) outs u (seen x)) (some_same (t_rank t) task (sym stands ∙ is)) (h (told ∷ []))

  pub rank_is_right : {X : Type 0} (seen : X → TaskOut) (outs : Outs) (t : ReduceTask) (o : Option X)
      → IfSome o (λ x. (inputs : List Input) → IsValue s inputs None outs (t_rank t) (seen x)) → IfSome o (λ x. Fits s (t_rank t) (seen x))
      → IfSome o (λ x. (tellings : Tellings) → IsRight s tellings outs (t_rank t) (seen x))
  rank_is_right seen outs t None value fits = tt
  rank_is_right seen outs t (Some x) value fits = λ tellings. record { fits = fits; value = λ inputs read. value inputs }

-- ---- what stands before the partitions of a wave of ranks

-- the tasks of a wave that has a rank task
record RankWave (s : Stages) (w : ℕ) : Type 0 where
  pub node : ℕ
  pub op : PlanOp
  pub at : op_at s.plan node ≡ Some op
  pub tasks : tasks_in s w ≡ map t_rank (partition_tasks s (w - 1) node op)

no_rank : (ts : List MapTask) (i : ℕ) (t : ReduceTask) → slice_get (map t_map ts) i ≡ Some (t_rank t) → ⊥
no_rank [] i t h = absurd (cc)
no_rank (m ∷ ts) zero t h = absurd (cc)
no_rank (m ∷ ts) (suc i) t h = no_rank ts i t h

no_rank_reduces : (ts : List ReduceTask) (i : ℕ) (t : ReduceTask) → slice_get (map t_reduce ts) i ≡ Some (t_rank t) → ⊥
no_rank_reduces [] i t h = absurd (cc)
no_rank_reduces (r ∷ ts) zero t h = absurd (cc)
no_rank_reduces (r ∷ ts) (suc i) t h = no_rank_reduces ts i t h

rank_wave : (s : Stages) (w place : ℕ) (t : ReduceTask) → slice_get (tasks_in s w) place ≡ Some (t_rank t) → RankWave s w
rank_wave s w place t h = by_head (slice_get (heads s.plan) w) refl h
  where
    by_kind : (head : WaveHead) → slice_get (heads s.plan) w ≡ Some head → (o : PlanOp) → op_at s.plan head.node ≡ Some o
        → (kind : WaveKind) → head.kind ≡ kind → slice_get (tasks_by s w kind head.node o) place ≡ Some (t_rank t) → RankWave s w
    by_kind head stands o e kinds.Map same g = absurd (no_rank (map_tasks s head.node o) place t g)
    by_kind head stands o e kinds.Reduce same g = absurd (no_rank_reduces (partition_tasks s (w - 1) head.node o) place t g)
    by_kind head stands o e kinds.Copy same g = absurd (no_rank (filter (λ u. not (enters_first u)) (map_tasks s head.node o)) place t g)
    by_kind head stands o e kinds.Probe same g = absurd (no_rank (filter enters_first (map_tasks s head.node o)) place t g)
    by_kind head stands o e kinds.Store same g = absurd (no_rank (flat_map (store_tasks s) (stores s.plan)) place t g)
    by_kind head stands o e kinds.Rank same g = record {
      node = head.node;
      op = o;
      at = e;
      tasks =
          ap (λ found. option_map_or (tasks_of s w) found []) stands ∙ ap (λ found. option_map_or (tasks_by s w head.kind head.node) found []) e
          ∙ ap (λ kind. tasks_by s w kind head.node o) same;
    }

    by_op : (head : WaveHead) → slice_get (heads s.plan) w ≡ Some head → (found : Option PlanOp) → op_at s.plan head.node ≡ found
        → slice_get (option_map_or (tasks_by s w head.kind head.node) found []) place ≡ Some (t_rank t) → RankWave s w
    by_op head stands None e g = absurd (cc)
    by_op head stands (Some o) e g = by_kind head stands o e head.kind refl g

    by_head : (found : Option WaveHead) → slice_get (heads s.plan) w ≡ found → slice_get (option_map_or (tasks_of s w) found []) place ≡ Some (t_rank t) → RankWave s w
    by_head None e g = absurd (cc)
    by_head (Some head) e g = by_op head e (op_at s.plan head.node) refl g

-- its partition is one of so many
part_of : (k wave : ℕ) (ps : List ℕ) (n i : ℕ) (t : ReduceTask) → AllByRecursion (λ p. p < n) ps
    → slice_get (map t_rank (map (λ p. record { node = k; wave = wave; part = p }) ps)) i ≡ Some (t_rank t) → t.part < n
part_of k wave [] n i t less h = absurd (cc)
part_of k wave (p ∷ ps) n zero t less h =
    let same = some_same (t_rank (record { node = k; wave = wave; part = p })) (t_rank t) h in
    subst (λ m. m < n) (ap part_in same) less.0
  where
    part_in : Task → ℕ
    part_in (t_rank u) = u.part
    part_in task = 0
part_of k wave (p ∷ ps) n (suc i) t less h = part_of k wave ps n i t less.1 h

rank_of : (k wave : ℕ) (ps : List ℕ) (i : ℕ) (t : ReduceTask) → slice_get (map t_rank (map (λ p. record { node = k; wave = wave; part = p }) ps)) i ≡ Some (t_rank t)
    → (t.node ≡ k) × (t.wave ≡ wave)
rank_of k wave [] i t h = absurd (cc)
rank_of k wave (p ∷ ps) zero t h =
    let same = some_same (t_rank (record { node = k; wave = wave; part = p })) (t_rank t) h in (ap node_in (sym same), ap wave_in (sym same))
  where
    node_in : Task → ℕ
    node_in (t_rank u) = u.node
    node_in task = k

    wave_in : Task → ℕ
    wave_in (t_rank u) = u.wave
    wave_in task = wave
rank_of k wave (p ∷ ps) (suc i) t h = rank_of k wave ps i t h

part_below : (s : Stages) (w place : ℕ) (t : ReduceTask) → slice_get (tasks_in s w) place ≡ Some (t_rank t) → (o : PlanOp) → op_at s.plan t.node ≡ Some o
    → t.part < reduce_count s.sizing.reducers o
part_below s w place t h o at =
    let own = rank_wave s w place t h in
    let count : ℕ = reduce_count s.sizing.reducers own.op in
    let there = ap (λ ts. slice_get ts place) (sym own.tasks) ∙ h in
    let node : t.node ≡ own.node = (rank_of own.node (w - 1) (range_with_len 0 count) place t there).0 in
    let same : own.op ≡ o = some_same own.op o (sym own.at ∙ ap (op_at s.plan) (sym node) ∙ at) in
    subst (λ p. t.part < reduce_count s.sizing.reducers p) same
    (part_of own.node (w - 1) (range_with_len 0 count) count place t
    (each_weaker (λ p. p < 0 + count) (λ p. p < count) (λ p less. omega (arith, less)) (range_with_len 0 count) (range_below 0 count)) there)

-- a rank task reads one of the partitions that its node's reduce tasks gave, each of which has a start
pub has_start : (s : Stages) (outs : Outs) (wave place : ℕ) (ready : IsReady s outs wave) (t : ReduceTask) → slice_get (tasks_in s wave) place ≡ Some (t_rank t)
    → (starts : List Start) → ((o : PlanOp) → op_at s.plan t.node ≡ Some o → ranks o ≡ true → length starts ≡ length (outs_at outs t.wave)) → t.part < length starts
has_start s outs wave place ready t stands starts each =
    let own = ranks_at s t wave place stands in
    let all : HasAll s outs t.wave = ready.named place (t_rank t) stands in
    let many : length starts ≡ length (outs_at outs t.wave) = each own.op own.at (ranks_alone own.op own.among) in
    let reads : length (tasks_in s t.wave) ≡ length (map t_reduce (partition_tasks s (t.wave - 1) t.node own.op)) = ap length own.reads in
    let parts : length (map t_reduce (partition_tasks s (t.wave - 1) t.node own.op)) ≡ reduce_count s.sizing.reducers own.op =
    length-map (partition_tasks s (t.wave - 1) t.node own.op) t_reduce
    ∙ length-map (range_with_len 0 (reduce_count s.sizing.reducers own.op)) (λ p. record { node = t.node; wave = t.wave - 1; part = p })
    ∙ length-range_with_len 0 (reduce_count s.sizing.reducers own.op) in
    let count = all.count in
    let below : t.part < reduce_count s.sizing.reducers own.op = part_below s wave place t stands own.op own.at in
    omega (arith, many, count, reads, parts, below)

-- all rank tasks of a wave are of one node and read one wave
pub alike : (s : Stages) (w i j : ℕ) (t u : ReduceTask) → slice_get (tasks_in s w) i ≡ Some (t_rank t) → slice_get (tasks_in s w) j ≡ Some (t_rank u)
    → (t.node ≡ u.node) × (t.wave ≡ u.wave)
alike s w i j t u at_t at_u =
    let own = rank_wave s w i t at_t in
    let parts = range_with_len 0 (reduce_count s.sizing.reducers own.op) in
    let a = rank_of own.node (w - 1) parts i t (ap (λ ts. slice_get ts i) (sym own.tasks) ∙ at_t) in
    let b = rank_of own.node (w - 1) parts j u (ap (λ ts. slice_get ts j) (sym own.tasks) ∙ at_u) in
    (a.0 ∙ sym b.0, a.1 ∙ sym b.1)

-- a wave whose first task is another has no rank task
abbrev IsRank : Task → Type 0
IsRank (t_rank t) = ⊤
IsRank (t_map t) = ⊥
IsRank (t_reduce t) = ⊥

ranks_alone_there : (ts : List ReduceTask) (i : ℕ) (task : Task) → slice_get (map t_rank ts) i ≡ Some task → IsRank task
ranks_alone_there [] i task h = absurd (cc)
ranks_alone_there (t ∷ ts) zero task h = subst IsRank (some_same (t_rank t) task h) tt
ranks_alone_there (t ∷ ts) (suc i) task h = ranks_alone_there ts i task h

no_rank_there : (s : Stages) (outs : Outs) (w : ℕ) (first : Task) → slice_get (tasks_in s w) 0 ≡ Some first → (IsRank first → ⊥) → (starts : List Start) → AreStarts s outs w starts
no_rank_there s outs w first at other starts place t there =
    let own = rank_wave s w place t there in
    absurd (other (ranks_alone_there (partition_tasks s (w - 1) own.node own.op) 0 first (ap (λ ts. slice_get ts 0) (sym own.tasks) ∙ at)))

pub maps_first : (s : Stages) (outs : Outs) (w : ℕ) (t : MapTask) → slice_get (tasks_in s w) 0 ≡ Some (t_map t) → (starts : List Start) → AreStarts s outs w starts
maps_first s outs w t at starts = no_rank_there s outs w (t_map t) at (λ h. h) starts

pub reduces_first : (s : Stages) (outs : Outs) (w : ℕ) (t : ReduceTask) → slice_get (tasks_in s w) 0 ≡ Some (t_reduce t) → (starts : List Start) → AreStarts s outs w starts
reduces_first s outs w t at starts = no_rank_there s outs w (t_reduce t) at (λ h. h) starts
