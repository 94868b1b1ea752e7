-- The sides that are made of what was copied are those of the tasks that probe.
use Rattle.std.specs.Prelude.{◌≡◌, ◌<◌, ◌+◌, ◌-◌, ℕ, zero, suc, Bool, true, false, not, List, [], ◌∷◌, ◌++◌, length, map, Option, None, Some, slice_get, refl}
use Rattle.std.proofs.Common.{ap, sym, ◌∙◌, arith, subst, true≢false}
use Rattle.std.specs.List.{AllByRecursion}
use Rattle.std.specs.List.Sorted.{IsPermutation}
use Rattle.std.specs.Option.{option_map, option_map_or}
use Rattle.std.proofs.lemmas.Bool.{eq-eqb}
use Rattle.std.proofs.lemmas.List.Sorted.{IsPermutation-append_right, IsPermutation-sym}
use Rattle.pig_value.specs.declared.operators.Side.{Side}
use Rattle.pig_value.specs.declared.operators.Side.TheVariants as side
use Rattle.pig_value.specs.Gathering.{Entry}
use Rattle.pig_value.specs.Orders.{bag_of}
use Rattle.pig_value.specs.Trees.{Tree, v_null}
use Rattle.pig_value.proofs.list_laws.Indexing.{get_map}
use Rattle.pig_value.proofs.list_laws.Listing.{each-map, each_weaker, some_same}
use Rattle.pig_plan.specs.ByKey.{entries_of_input, gathered, join_of, key_of, outer_of}
use Rattle.pig_plan.specs.Entries.{entries_of}
use Rattle.pig_plan.specs.Meaning.{width_at}
use Rattle.pig_plan.specs.Nodes.{inputs_of, op_at}
use Rattle.pig_plan.specs.Operators.{keys_of}
use Rattle.pig_plan.specs.Plans.{Keyed, Plan, PlanOp, p_load, p_filter, p_foreach, p_group_all, p_group, p_join, p_union, p_distinct, p_order, p_limit, p_store, p_assert, p_rank}
use Rattle.pig_plan.specs.Valid.{IsPlan}
use Rattle.pig_probe.specs.Probing.{SidesSeen, probed_by}
use Rattle.pig_physical.specs.Outs.{Outs, outs_at}
use Rattle.pig_physical.specs.Stages.{MapTask, Stages, enters_first, first_wave, heads, is_replicated, map_tasks, t_map, tasks_in, waves_of, ways_into}
use Rattle.pig_physical.specs.declared.waves.WaveHead.{WaveHead}
use Rattle.pig_physical.specs.declared.waves.WaveKind.{WaveKind}
use Rattle.pig_physical.specs.declared.waves.WaveKind.TheVariants as kinds
use Rattle.pig_physical.specs.Values.{handed_entries, probed_rows}
use Rattle.pig_waves.proofs.Among.{Among}
use Rattle.pig_waves.proofs.Heads.{probes_at}
use Rattle.pig_waves.proofs.Joining.{by_side, is_joined}
use Rattle.pig_waves.specs.Laws.{copy_tasks}
use Rattle.pig_fitting.proofs.Given.{node_found}
use Rattle.pig_fitting.proofs.Standing.{HeadOf, all_among, among_filtered, enters, head_is, of_node, of_stores, on_ways, passes_there}
use Rattle.pig_map.specs.Copies.{AreSidesIn, AreSidesOf, IsCopied, first_keys, rows_for, sides_by}
use Rattle.pig_map.specs.Making.{handing_of}
use Rattle.pig_map.specs.declared.attempt.Handing.TheVariants as handings
use Rattle.pig_map.proofs.Copied.{IsCopy, by_place, handed_by_place, inner_probed, key_by, left_probed}
use Rattle.pig_map.proofs.Placed.{probe_in, probe_place}

abbrev Rows : Type 0
Rows = List (List Tree)

-- ---- which tasks probe

-- what joins rows is a replicated JOIN, of rows of its first input
pub joins_by : (o : PlanOp) (i : ℕ) → handings.Joined ≡ handing_of o i → (is_replicated o ≡ true) × (i ≡ 0)
joins_by (p_join inputs side true) zero h = (refl, refl)
joins_by (p_join inputs side true) (suc i) h = absurd (cc)
joins_by (p_join inputs side false) i h = absurd (cc)
joins_by (p_load path delim columns) i h = absurd (cc)
joins_by (p_filter input test) i h = absurd (cc)
joins_by (p_foreach input block) i h = absurd (cc)
joins_by (p_group_all input) i h = absurd (cc)
joins_by (p_group inputs) i h = absurd (cc)
joins_by (p_union inputs) i h = absurd (cc)
joins_by (p_distinct input) i h = absurd (cc)
joins_by (p_order input keys) i h = absurd (cc)
joins_by (p_limit input count) i h = absurd (cc)
joins_by (p_store input path delim) i h = absurd (cc)
joins_by (p_assert input test message) i h = absurd (cc)
joins_by (p_rank input keys dense) i h = absurd (cc)

module _ (plan : Plan) (valid : IsPlan plan) (k : ℕ) where
  -- a claim of a replicated JOIN by its two forms
  pub by_form : (G : PlanOp → Type 0) → ((first second : Keyed) (others : List Keyed) → G (p_join (first ∷ second ∷ others) side.Inner true))
      → ((first second : Keyed) → G (p_join (first ∷ second ∷ []) side.Left true))
      → (o : PlanOp) → op_at plan k ≡ Some o → is_replicated o ≡ true → G o
  by_form G inner left (p_join keyed sd true) at replicated =
      let found = node_found plan k (p_join keyed sd true) at in
      by_side (λ ks d. G (p_join ks d true)) inner left keyed sd
      (is_joined plan valid k found.0.statement keyed sd (found.1 ∙ ap (λ o. Some (record { op = o; statement = found.0.statement })) found.2))
  by_form G inner left (p_join keyed sd false) at replicated = absurd (true≢false (sym replicated))
  by_form G inner left (p_load path delim columns) at replicated = absurd (true≢false (sym replicated))
  by_form G inner left (p_filter input test) at replicated = absurd (true≢false (sym replicated))
  by_form G inner left (p_foreach input block) at replicated = absurd (true≢false (sym replicated))
  by_form G inner left (p_group_all input) at replicated = absurd (true≢false (sym replicated))
  by_form G inner left (p_group inputs) at replicated = absurd (true≢false (sym replicated))
  by_form G inner left (p_union inputs) at replicated = absurd (true≢false (sym replicated))
  by_form G inner left (p_distinct input) at replicated = absurd (true≢false (sym replicated))
  by_form G inner left (p_order input keys) at replicated = absurd (true≢false (sym replicated))
  by_form G inner left (p_limit input count) at replicated = absurd (true≢false (sym replicated))
  by_form G inner left (p_store input path delim) at replicated = absurd (true≢false (sym replicated))
  by_form G inner left (p_assert input test message) at replicated = absurd (true≢false (sym replicated))
  by_form G inner left (p_rank input keys dense) at replicated = absurd (true≢false (sym replicated))

  -- its first input has keys
  pub has_keys : (o : PlanOp) → op_at plan k ≡ Some o → is_replicated o ≡ true → None ≡ first_keys o → ⊥
  has_keys = by_form (λ o. None ≡ first_keys o → ⊥) (λ first second others h. absurd (cc)) (λ first second h. absurd (cc))

-- ---- the copies of its further inputs

module _ (s : Stages) (k : ℕ) (first : Keyed) (rest : List Keyed) (sd : Side) where
  abbrev o : PlanOp
  o = p_join (first ∷ rest) sd true

  keyed : (m : ℕ) (input : Keyed) → slice_get rest m ≡ Some input → (rows : Rows) → entries_of o (1 + m) rows ≡ entries_of_input (key_by input) (1 + m) rows
  keyed m input at rows =
      let next : 1 + m ≡ suc m = omega arith in
      ap (λ found. entries_of_input (λ row. option_map_or (λ i. key_of (keys_of i.keys row)) found v_null) (1 + m) rows) (ap (slice_get (first ∷ rest)) next ∙ at)

  copy_is : (t : MapTask) → enters_first t ≡ false → (place from : ℕ) → slice_get (map (λ i. i.input) (first ∷ rest)) place ≡ Some from → t.way.input ≡ 0 + place → IsCopy first rest o keyed (t_map t)
  copy_is t later zero from at input = let e : t.way.input ≡ 0 = omega (arith, input) in absurd (true≢false (sym (eq-eqb t.way.input 0 e) ∙ later))
  copy_is t later (suc m) from at input = by_found (slice_get rest m) refl (sym (get_map (λ i. i.input) rest m) ∙ at)
    where
      by_found : (found : Option Keyed) → slice_get rest m ≡ found → option_map (λ i. i.input) found ≡ Some from → IsCopy first rest o keyed (t_map t)
      by_found None e g = absurd (cc)
      by_found (Some i) e g = record { at = m; input = i; stands = e; comes = ap Some (let same : t.way.input ≡ 1 + m = omega (arith, input) in same) }

  all_copies : AllByRecursion (IsCopy first rest o keyed) (map t_map (copy_tasks s k o))
  all_copies =
      each-map (IsCopy first rest o keyed) t_map (copy_tasks s k o)
      (each_weaker (λ t. Among t (copy_tasks s k o)) (λ t. IsCopy first rest o keyed (t_map t))
      (λ t among.
      let on = on_ways s k (ways_into s.plan o) t (among_filtered (λ u. not (enters_first u)) (map_tasks s k o) t among) in
      let come = enters s.plan 0 (inputs_of o) t.way on.way in
      copy_is t (turned (enters_first t) (passes_there (λ u. not (enters_first u)) (map_tasks s k o) t among)) come.place come.from come.at come.input)
      (copy_tasks s k o) (all_among (copy_tasks s k o)))
    where
      turned : (b : Bool) → not b ≡ true → b ≡ false
      turned true h = absurd (true≢false (sym h))
      turned false h = refl

  pub copies_permute : (copies : ℕ) (outs : Outs) → tasks_in s copies ≡ map t_map (copy_tasks s k o) → (rows : Rows)
      → IsPermutation (entries_of_input (key_by first) 0 rows ++ by_place 1 rest (λ i. rows_for i (tasks_in s copies) (outs_at outs copies)))
      (entries_of o 0 rows ++ handed_entries o (tasks_in s copies) (outs_at outs copies))
  copies_permute copies outs are rows =
      IsPermutation-append_right (entries_of_input (key_by first) 0 rows) (by_place 1 rest (λ i. rows_for i (tasks_in s copies) (outs_at outs copies)))
      (handed_entries o (tasks_in s copies) (outs_at outs copies))
      (IsPermutation-sym (handed_entries o (tasks_in s copies) (outs_at outs copies)) (by_place 1 rest (λ i. rows_for i (tasks_in s copies) (outs_at outs copies)))
      (handed_by_place first rest o keyed (tasks_in s copies) (outs_at outs copies) (subst (AllByRecursion (IsCopy first rest o keyed)) (sym are) all_copies)))

-- ---- its sides

module _ (s : Stages) (valid : IsPlan s.plan) (k copies : ℕ) (outs : Outs) (copied : IsCopied s k copies) where
  abbrev rows_copied : ℕ → Rows
  rows_copied i = rows_for i (tasks_in s copies) (outs_at outs copies)

  its_tasks : (o : PlanOp) → op_at s.plan k ≡ Some o → is_replicated o ≡ true → tasks_in s copies ≡ map t_map (copy_tasks s k o)
  its_tasks o at replicated = ap (tasks_in s) copied.first ∙ (probes_at s k o at copied.live replicated).copies

  abbrev HasIts : List Keyed → Side → Type 0
  HasIts keyed sd = op_at s.plan k ≡ Some (p_join keyed sd true) → AreSidesOf s outs k (p_join keyed sd true) (sides_by sd (width_at s.plan) keyed rows_copied)

  -- the entries of rows of the first input, and what was copied
  abbrev with_copies : PlanOp → ℕ → Rows → List Entry
  with_copies o wave rows = entries_of o 0 rows ++ handed_entries o (tasks_in s wave) (outs_at outs wave)

  inner_sides : (first second : Keyed) (others : List Keyed) → HasIts (first ∷ second ∷ others) side.Inner
  inner_sides first second others at keys is rows =
      let inputs = first ∷ second ∷ others in
      let o : PlanOp = p_join inputs side.Inner true in
      subst (λ ks. bag_of (probed_by (sides_by side.Inner (width_at s.plan) inputs rows_copied) ks rows) ≡ bag_of (probed_rows s outs k o rows)) (some_same first.keys keys is)
      (inner_probed first second rows_copied rows others (with_copies o copies rows) (copies_permute s k first (second ∷ others) side.Inner copies outs (its_tasks o at refl) rows)
      ∙ ap (λ wave. bag_of (gathered (join_of (length inputs)) (with_copies o wave rows))) copied.first)

  left_sides : (first second : Keyed) → HasIts (first ∷ second ∷ []) side.Left
  left_sides first second at keys is rows =
      let inputs = first ∷ second ∷ [] in
      let o : PlanOp = p_join inputs side.Left true in
      let width : ℕ → ℕ = width_at s.plan in
      subst (λ ks. bag_of (probed_by (sides_by side.Left width inputs rows_copied) ks rows) ≡ bag_of (probed_rows s outs k o rows)) (some_same first.keys keys is)
      (left_probed first second rows_copied rows width (with_copies o copies rows) (copies_permute s k first (second ∷ []) side.Left copies outs (its_tasks o at refl) rows)
      ∙ ap (λ wave. bag_of (gathered (outer_of side.Left (width first.input) (width second.input)) (with_copies o wave rows))) copied.first)

  pub sides_are : (keyed : List Keyed) (sd : Side) → HasIts keyed sd
  sides_are keyed sd at =
      let found = node_found s.plan k (p_join keyed sd true) at in
      by_side HasIts inner_sides left_sides keyed sd
      (is_joined s.plan valid k found.0.statement keyed sd (found.1 ∙ ap (λ o. Some (record { op = o; statement = found.0.statement })) found.2)) at

  -- the same where the operator is known twice
  pub its_sides : (o : PlanOp) → op_at s.plan k ≡ Some o → (keyed : List Keyed) (sd : Side) (replicated : Bool) → op_at s.plan k ≡ Some (p_join keyed sd replicated)
      → AreSidesOf s outs k o (sides_by sd (width_at s.plan) keyed rows_copied)
  its_sides o at keyed sd true here =
      subst (λ p. AreSidesOf s outs k p (sides_by sd (width_at s.plan) keyed rows_copied)) (some_same (p_join keyed sd true) o (sym here ∙ at)) (sides_are keyed sd here)
  its_sides o at keyed sd false here =
      absurd (true≢false (sym copied.replicated ∙ ap is_replicated (some_same copied.op (p_join keyed sd false) (sym copied.at ∙ here))))

-- ---- the tasks of a wave

-- the kind and the node of a wave
abbrev pub IsKind : Stages → ℕ → WaveKind → Type 0
IsKind s w kind = option_map (λ head. head.kind) (slice_get (heads s.plan) w) ≡ Some kind

abbrev pub IsNode : Stages → ℕ → ℕ → Type 0
IsNode s w node = option_map (λ head. head.node) (slice_get (heads s.plan) w) ≡ Some node

-- a wave of another kind has no task that probes
pub none_probes : (s : Stages) (outs : Outs) (w : ℕ) (kind : WaveKind) (sides : SidesSeen) → IsKind s w kind → (kinds.Probe ≡ kind → ⊥) → AreSidesIn s outs w sides
none_probes s outs w kind sides is other place t stands o at replicated first =
    let probe = probe_in s w place t stands o at replicated first in
    absurd (other (sym probe.kind ∙ some_same probe.head.kind kind (sym (ap (option_map (λ head. head.kind)) probe.stands) ∙ is)))

-- those of a wave of probes are of its node
pub node_probes : (s : Stages) (outs : Outs) (w node : ℕ) (sides : SidesSeen) → IsNode s w node
    → ((o : PlanOp) → op_at s.plan node ≡ Some o → AreSidesOf s outs node o sides) → AreSidesIn s outs w sides
node_probes s outs w node sides is its place t stands o at replicated first =
    let probe = probe_in s w place t stands o at replicated first in
    let same : t.node ≡ node = probe.node ∙ some_same probe.head.node node (sym (ap (option_map (λ head. head.node)) probe.stands) ∙ is) in
    subst (λ n. AreSidesOf s outs n o sides) (sym same) (its o (ap (op_at s.plan) (sym same) ∙ at))

two_probe_none : Among kinds.Probe (kinds.Map ∷ kinds.Reduce ∷ []) → ⊥
two_probe_none h = by_place h.at h.is
  where
    by_place : (i : ℕ) → slice_get (kinds.Map ∷ kinds.Reduce ∷ []) i ≡ Some kinds.Probe → ⊥
    by_place zero e = absurd (cc)
    by_place (suc zero) e = absurd (cc)
    by_place (suc (suc i)) e = absurd (cc)

three_probe_none : Among kinds.Probe (kinds.Map ∷ kinds.Reduce ∷ kinds.Rank ∷ []) → ⊥
three_probe_none h = by_place h.at h.is
  where
    by_place : (i : ℕ) → slice_get (kinds.Map ∷ kinds.Reduce ∷ kinds.Rank ∷ []) i ≡ Some kinds.Probe → ⊥
    by_place zero e = absurd (cc)
    by_place (suc zero) e = absurd (cc)
    by_place (suc (suc zero)) e = absurd (cc)
    by_place (suc (suc (suc i))) e = absurd (cc)

-- what has a wave of probes is a replicated JOIN
probes_join : (o : PlanOp) → Among kinds.Probe (waves_of o) → is_replicated o ≡ true
probes_join (p_join inputs side true) h = refl
probes_join (p_join inputs side false) h = absurd (two_probe_none h)
probes_join (p_rank input keys dense) h = absurd (three_probe_none h)
probes_join (p_load path delim columns) h = absurd (two_probe_none h)
probes_join (p_filter input test) h = absurd (two_probe_none h)
probes_join (p_foreach input block) h = absurd (two_probe_none h)
probes_join (p_group_all input) h = absurd (two_probe_none h)
probes_join (p_group inputs) h = absurd (two_probe_none h)
probes_join (p_union inputs) h = absurd (two_probe_none h)
probes_join (p_distinct input) h = absurd (two_probe_none h)
probes_join (p_order input keys) h = absurd (two_probe_none h)
probes_join (p_limit input count) h = absurd (two_probe_none h)
probes_join (p_store input path delim) h = absurd (two_probe_none h)
probes_join (p_assert input test message) h = absurd (two_probe_none h)

-- the wave before one of probes copied
pub is_copied : (s : Stages) (w node : ℕ) → w < length (heads s.plan) → IsKind s w kinds.Probe → IsNode s w node → IsCopied s node (w - 1)
is_copied s w node within kind is = by_head (slice_get (heads s.plan) w) refl kind is
  where
    by_own : (head : WaveHead) → slice_get (heads s.plan) w ≡ Some head → head.kind ≡ kinds.Probe → head.node ≡ node → HeadOf s.plan head → IsCopied s node (w - 1)
    by_own head stands probe own (of_stores store) = let wrong : kinds.Probe ≡ kinds.Store = sym probe ∙ store in absurd (cc)
    by_own head stands probe own (of_node live among) =
        let replicated = probes_join live.op (subst (λ x. Among x (waves_of live.op)) probe among) in
        let place : w ≡ first_wave s.plan head.node + 1 = probe_place s.plan head.node live.op live.at live.live replicated w head stands refl probe in
        subst (λ n. IsCopied s n (w - 1)) own (record {
          op = live.op;
          at = live.at;
          live = live.live;
          replicated = replicated;
          first = omega (arith, place);
          within = omega (arith, within);
        })

    by_head : (found : Option WaveHead) → slice_get (heads s.plan) w ≡ found → option_map (λ head. head.kind) found ≡ Some kinds.Probe
        → option_map (λ head. head.node) found ≡ Some node → IsCopied s node (w - 1)
    by_head None e a b = absurd (cc)
    by_head (Some head) e a b = by_own head e (some_same head.kind kinds.Probe a) (some_same head.node node b) (head_is s.plan head (record { at = w; is = e }))
