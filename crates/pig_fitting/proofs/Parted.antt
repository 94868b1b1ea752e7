-- The rows of the partition that a task reads are of the kinds that its source hands on.
use Rattle.std.specs.Prelude.{◌≡◌, ◌<◌, ◌+◌, ◌==◌, ℕ, zero, suc, true, false, List, [], ◌∷◌, length, map, Some, slice_get, refl}
use Rattle.std.proofs.Common.{ap, sym, ◌∙◌, arith, subst, true≢false}
use Rattle.std.specs.List.{filter, range_with_len}
use Rattle.std.specs.Option.{option_and_then, option_map, option_map_or}
use Rattle.std.proofs.lemmas.Bool.{eq-eqb, eqb-true}
use Rattle.std.proofs.lemmas.Option.{slice_get_within}
use Rattle.pig_storage.specs.declared.splits.Split.{Split}
use Rattle.pig_storage.specs.Splits.{splits_of}
use Rattle.pig_value.proofs.list_laws.Indexing.{get_map, some_at}
use Rattle.pig_value.proofs.list_laws.Listing.{each_at, some_same}
use Rattle.pig_value.specs.declared.operators.Side.{Side}
use Rattle.pig_typed.specs.Premises.{FunctionsKeepKinds}
use Rattle.pig_plan.proofs.Lower.{names_lower}
use Rattle.pig_plan.proofs.Meanings.{live_input}
use Rattle.pig_plan.specs.Nodes.{Entering, entering, inputs_of, is_boundary, is_live, is_source, op_at, paths_of}
use Rattle.pig_plan.specs.Plans.{Keyed, Plan, PlanOp, p_load, p_filter, p_foreach, p_group_all, p_group, p_join, p_union, p_distinct, p_order, p_limit, p_store}
use Rattle.pig_plan.specs.Plans.{p_assert, p_rank}
use Rattle.pig_plan.specs.Valid.{IsPlan}
use Rattle.pig_physical.specs.declared.parts.Part.{Part}
use Rattle.pig_physical.specs.declared.parts.Part.TheVariants as parts
use Rattle.pig_physical.specs.declared.parts.ReduceTask.{ReduceTask}
use Rattle.pig_physical.specs.declared.waves.WaveKind.{WaveKind}
use Rattle.pig_physical.specs.declared.waves.WaveKind.TheVariants as kinds
use Rattle.pig_physical.specs.Fitting.{Fits, HasOutput, HasPart, HasRows, MapFits, brought_kinds, given_kinds, kinds_brought, replicated_kinds}
use Rattle.pig_physical.specs.Outs.{Outs, TaskOut, rows_at, rows_in}
use Rattle.pig_physical.specs.Stages.{MapTask, Stages, Task, enters_first, first_wave, head_of, last_wave, map_tasks, partition_tasks, parts_at, parts_of}
use Rattle.pig_physical.specs.Stages.{output_count, reduce_count, t_map, t_rank, t_reduce, tasks_by, tasks_in, tasks_of, waves_of, ways_into}
use Rattle.pig_waves.proofs.Among.{Among, any_holds, mapped_from}
use Rattle.pig_waves.proofs.Heads.{head_at}
use Rattle.pig_fitting.specs.Laws.{PartFits}
use Rattle.pig_fitting.proofs.Given.{Has, given_has, node_found, rows_have}
use Rattle.pig_fitting.proofs.Going.{IsWay, ways_are}
use Rattle.pig_fitting.proofs.Standing.{Stands, among_filtered, at_node, at_store, enters, on_ways, passes_there, task_stands}

-- ---- the way of a task

module _ (functions : FunctionsKeepKinds) (plan : Plan) (valid : IsPlan plan) where
  -- an input of a live node, which is live, and rows on a way into it
  pub record IsInto (o : PlanOp) (way : Entering) : Type 0 where
    pub from : ℕ
    pub at : slice_get (inputs_of o) way.input ≡ Some from
    pub live : is_live plan from ≡ true
    pub on : IsWay functions plan valid from way.path

  pub into : (k : ℕ) (o : PlanOp) → op_at plan k ≡ Some o → is_live plan k ≡ true → (way : Entering) → Among way (entering (paths_of plan) 0 (inputs_of o))
      → IsInto o way
  into k o at live way among =
      let found = node_found plan k o at in
      let entry = enters plan 0 (inputs_of o) way among in
      let place : entry.place ≡ way.input = (let e = entry.input in omega (arith, e)) in
      let stands : slice_get (inputs_of o) way.input ≡ Some entry.from = ap (slice_get (inputs_of o)) (sym place) ∙ entry.at in
      let named : Among entry.from (inputs_of (found.0).op) =
      subst (λ p. Among entry.from (inputs_of p)) (sym found.2) (record { at = way.input; is = stands }) in
      let below : entry.from < k = each_at (λ j. j < k) (inputs_of (found.0).op) named.at entry.from named.is (names_lower plan valid k found.0 found.1) in
      let short : k < length plan = slice_get_within plan k found.0 found.1 in
      let input = some_at plan entry.from (omega (arith, below, short)) in
      let alive : is_live plan entry.from ≡ true =
      live_input plan k found.0 found.1 live entry.from below input.0 input.1
      (any_holds (λ j. j == entry.from) (inputs_of (found.0).op) entry.from named (eq-eqb entry.from entry.from refl)) in
      record { from = entry.from; at = stands; live = alive; on = ways_are functions plan valid entry.from alive way.path entry.path }

  -- the source of a way to a STORE
  pub to_store : (k : ℕ) → is_live plan k ≡ true → (way : Entering) → Among way (entering (paths_of plan) 0 (k ∷ [])) → IsWay functions plan valid k way.path
  to_store k live way among =
      let entry = enters plan 0 (k ∷ []) way among in
      let from : entry.from ≡ k = only_one entry.place entry.from entry.at in
      ways_are functions plan valid k live way.path (subst (λ n. Among way.path (paths_of plan n)) from entry.path)
    where
      only_one : (i n : ℕ) → slice_get (k ∷ []) i ≡ Some n → n ≡ k
      only_one zero n e = sym (some_same k n e)
      only_one (suc i) n e = absurd (cc)

-- ---- the last wave of a node

-- no partition of a LOAD
abbrev wave_in : ℕ → Part → ℕ
wave_in other (parts.Output wave at) = wave
wave_in other (parts.Split split) = other

module _ (s : Stages) (k wave part : ℕ) where
  of_node : (o : PlanOp) → Among (parts.Output wave part) (map (parts.Output (last_wave s.plan k o)) (range_with_len 0 (output_count s o)))
      → wave ≡ last_wave s.plan k o
  of_node o h =
      let from = mapped_from (parts.Output (last_wave s.plan k o)) (range_with_len 0 (output_count s o)) (parts.Output wave part) h in
      sym (ap (wave_in wave) from.is)

  of_load : (splits : List Split) → Among (parts.Output wave part) (map parts.Split splits) → ⊥
  of_load splits h = let from = mapped_from parts.Split splits (parts.Output wave part) h in let wrong = from.is in absurd (cc)

  pub last_of : (o : PlanOp) → is_source o ≡ true → Among (parts.Output wave part) (parts_of s k o) → (is_boundary o ≡ true) × (wave ≡ last_wave s.plan k o)
  last_of (p_load path delim columns) h among = absurd (of_load (splits_of s.sizing.split (s.sizing.lengths path)) among)
  last_of (p_group_all input) h among = (refl, of_node (p_group_all input) among)
  last_of (p_group inputs) h among = (refl, of_node (p_group inputs) among)
  last_of (p_join inputs side replicated) h among = (refl, of_node (p_join inputs side replicated) among)
  last_of (p_distinct input) h among = (refl, of_node (p_distinct input) among)
  last_of (p_order input keys) h among = (refl, of_node (p_order input keys) among)
  last_of (p_limit input count) h among = (refl, of_node (p_limit input count) among)
  last_of (p_rank input keys dense) h among = (refl, of_node (p_rank input keys dense) among)
  last_of (p_filter input test) h among = absurd (true≢false (sym h))
  last_of (p_foreach input block) h among = absurd (true≢false (sym h))
  last_of (p_union inputs) h among = absurd (true≢false (sym h))
  last_of (p_store input path delim) h among = absurd (true≢false (sym h))
  last_of (p_assert input test message) h among = absurd (true≢false (sym h))

module _ (s : Stages) (k : ℕ) (o : PlanOp) (at : op_at s.plan k ≡ Some o) (live : is_live s.plan k ≡ true) (here : is_boundary o ≡ true) where
  pub wave_tasks : (j : ℕ) (kind : WaveKind) → slice_get (waves_of o) j ≡ Some kind
      → tasks_in s (first_wave s.plan k + j) ≡ tasks_by s (first_wave s.plan k + j) kind k o
  wave_tasks j kind own =
      ap (λ found. option_map_or (tasks_of s (first_wave s.plan k + j)) found [])
      (head_at s.plan k j (head_of s.plan k kind) live (ap (λ found. option_map_or is_boundary found false) at ∙ here)
      (ap (λ found. slice_get (option_map_or (λ p. map (head_of s.plan k) (waves_of p)) found []) j) at ∙ get_map (head_of s.plan k) (waves_of o) j ∙ ap
      (option_map (head_of s.plan k)) own))
      ∙ ap (λ found. option_map_or (tasks_by s (first_wave s.plan k + j) kind k) found []) at

  module _ (task : Task) (out : TaskOut) (fits : Fits s task out) where
    abbrev HasGiven : Type 0
    HasGiven = Has (given_kinds s.plan k) (rows_in out.form)

    of_rows : (n : ℕ) → n ≡ k → HasRows (given_kinds s.plan n) out.form → HasGiven
    of_rows n is h = subst (λ m. Has (given_kinds s.plan m) (rows_in out.form)) is (rows_have (given_kinds s.plan n) out.form h)

    on_node : (w : ℕ) (t : ReduceTask) → Among t (partition_tasks s w k o) → t.node ≡ k
    on_node w t among =
        let own = mapped_from (λ p. record { node = k; wave = w; part = p }) (range_with_len 0 (reduce_count s.sizing.reducers o)) t among in
        subst (λ u. u.node ≡ k) own.is refl

    -- those that reduce tasks bring together, where these are rows of the node
    of_reduces : kinds_brought s.plan k o ≡ given_kinds s.plan k → (w : ℕ) → Among task (map t_reduce (partition_tasks s w k o)) → HasGiven
    of_reduces same w among =
        let from = mapped_from t_reduce (partition_tasks s w k o) task among in
        let node = on_node w from.x from.among in
        of_rows k refl
        (subst (λ found. HasRows found out.form)
        (ap (brought_kinds s.plan) node ∙ ap (option_and_then (kinds_brought s.plan k)) at ∙ same)
        (subst (λ u. Fits s u out) (sym from.is) fits))

    of_ranks : (w : ℕ) → Among task (map t_rank (partition_tasks s w k o)) → HasGiven
    of_ranks w among =
        let from = mapped_from t_rank (partition_tasks s w k o) task among in
        of_rows (from.x).node (on_node w from.x from.among) (subst (λ u. Fits s u out) (sym from.is) fits)

  in_wave : (wave place j : ℕ) (kind : WaveKind) → wave ≡ first_wave s.plan k + j → slice_get (waves_of o) j ≡ Some kind → (task : Task)
      → slice_get (tasks_in s wave) place ≡ Some task
      → Among task (tasks_by s (first_wave s.plan k + j) kind k o)
  in_wave wave place j kind is own task stands =
      record { at = place; is = ap (λ ts. slice_get ts place) (sym (ap (tasks_in s) is ∙ wave_tasks j kind own)) ∙ stands }

-- those of tasks that probe copies
of_probes : (s : Stages) (k : ℕ) (inputs : List Keyed) (side : Side) → op_at s.plan k ≡ Some (p_join inputs side true) → (task : Task) (out : TaskOut)
    → Fits s task out → Among task (map t_map (filter enters_first (map_tasks s k (p_join inputs side true)))) → Has (given_kinds s.plan k) (rows_in out.form)
of_probes s k inputs side at task out fits among =
    let o : PlanOp = p_join inputs side true in
    let from = mapped_from t_map (filter enters_first (map_tasks s k o)) task among in
    let on = on_ways s k (ways_into s.plan o) from.x (among_filtered enters_first (map_tasks s k o) from.x from.among) in
    let first : (from.x).way.input ≡ 0 = eqb-true (from.x).way.input 0 (passes_there enters_first (map_tasks s k o) from.x from.among) in
    let own : MapFits s (from.x).node o (from.x).way.input out.form =
    subst (λ u. Fits s u out) (sym from.is) fits o (ap (op_at s.plan) on.node ∙ at) in
    subst (λ n. Has (given_kinds s.plan n) (rows_in out.form)) on.node
    (rows_have (given_kinds s.plan (from.x).node) out.form
    (subst (λ i. HasRows (replicated_kinds s.plan (from.x).node o i) out.form) first own))

last_fits : (s : Stages) (k : ℕ) (o : PlanOp) → op_at s.plan k ≡ Some o → is_live s.plan k ≡ true → is_boundary o ≡ true → (wave place : ℕ)
    → wave ≡ last_wave s.plan k o
    → (task : Task) (out : TaskOut) → slice_get (tasks_in s wave) place ≡ Some task → Fits s task out → Has (given_kinds s.plan k) (rows_in out.form)
last_fits s k (p_group_all input) at live here wave place is task out stands fits =
    of_reduces s k (p_group_all input) at live here task out fits refl _
    (in_wave s k (p_group_all input) at live here wave place 1 kinds.Reduce is refl task stands)
last_fits s k (p_group inputs) at live here wave place is task out stands fits =
    of_reduces s k (p_group inputs) at live here task out fits refl _ (in_wave s k (p_group inputs) at live here wave place 1 kinds.Reduce is refl task stands)
last_fits s k (p_join inputs side false) at live here wave place is task out stands fits =
    of_reduces s k (p_join inputs side false) at live here task out fits refl _
    (in_wave s k (p_join inputs side false) at live here wave place 1 kinds.Reduce is refl task stands)
last_fits s k (p_join inputs side true) at live here wave place is task out stands fits =
    of_probes s k inputs side at task out fits
    (in_wave s k (p_join inputs side true) at live here wave place 1 kinds.Probe is refl task stands)
last_fits s k (p_distinct input) at live here wave place is task out stands fits =
    of_reduces s k (p_distinct input) at live here task out fits refl _ (in_wave s k (p_distinct input) at live here wave place 1 kinds.Reduce is refl task stands)
last_fits s k (p_order input keys) at live here wave place is task out stands fits =
    of_reduces s k (p_order input keys) at live here task out fits refl _
    (in_wave s k (p_order input keys) at live here wave place 1 kinds.Reduce is refl task stands)
last_fits s k (p_limit input count) at live here wave place is task out stands fits =
    of_reduces s k (p_limit input count) at live here task out fits refl _
    (in_wave s k (p_limit input count) at live here wave place 1 kinds.Reduce is refl task stands)
last_fits s k (p_rank input keys dense) at live here wave place is task out stands fits =
    of_ranks s k (p_rank input keys dense) at live here task out fits _
    (in_wave s k (p_rank input keys dense) at live here wave place 2 kinds.Rank is refl task stands)
last_fits s k (p_load path delim columns) at live here wave place is task out stands fits = absurd (true≢false (sym here))
last_fits s k (p_filter input test) at live here wave place is task out stands fits = absurd (true≢false (sym here))
last_fits s k (p_foreach input block) at live here wave place is task out stands fits = absurd (true≢false (sym here))
last_fits s k (p_union inputs) at live here wave place is task out stands fits = absurd (true≢false (sym here))
last_fits s k (p_store input path delim) at live here wave place is task out stands fits = absurd (true≢false (sym here))
last_fits s k (p_assert input test message) at live here wave place is task out stands fits = absurd (true≢false (sym here))

-- ---- the partition that a task reads

module _ (functions : FunctionsKeepKinds) (s : Stages) (valid : IsPlan s.plan) (t : MapTask) where
  pub way_of : Stands s t → (n : ℕ) × IsWay functions s.plan valid n t.way.path
  way_of (at_node o at live here way part) = let to = into functions s.plan valid t.node o at live t.way way in (to.from, to.on)
  way_of (at_store o at live here way part) = (t.node, to_store functions s.plan valid t.node live t.way way)

  part_of : Stands s t → Among t.part (parts_at s t.way.path.source)
  part_of (at_node o at live here way part) = part
  part_of (at_store o at live here way part) = part

  of_way : (n : ℕ) → IsWay functions s.plan valid n t.way.path → Among t.part (parts_at s t.way.path.source)
      → (outs : Outs) (wave part : ℕ) → HasOutput s outs wave part → t.part ≡ parts.Output wave part
      → Has (given_kinds s.plan t.way.path.source) (rows_at outs wave part)
  of_way n way among outs wave part output is =
      let source : ℕ = t.way.path.source in
      let known : parts_at s t.way.path.source ≡ parts_of s t.way.path.source way.op =
      ap (λ found. option_map_or (parts_of s t.way.path.source) found []) way.at in
      let last =
      last_of s t.way.path.source wave part way.op way.source
      (subst (λ ps. Among (parts.Output wave part) ps) known (subst (λ p. Among p (parts_at s t.way.path.source)) is among)) in
      subst (Has (given_kinds s.plan t.way.path.source)) (sym (ap (λ found. option_map_or (λ out. rows_in out.form) found []) output.stands))
      (last_fits s t.way.path.source way.op way.at way.live last.0 wave part last.1 output.task output.out output.is_of output.fits)

pub parts_fit : FunctionsKeepKinds → PartFits
parts_fit functions s valid w at t stands outs has wave part is =
    let task = task_stands s t w at stands in
    let way = way_of functions s valid t task in
    given_has s.plan t.way.path.source (rows_at outs wave part)
    (of_way functions s valid t way.0 way.1 (part_of functions s valid t task) outs wave part (subst (HasPart s outs) is has) is)
