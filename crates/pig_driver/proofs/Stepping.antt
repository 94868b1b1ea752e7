-- One more wave behind those that ran, and the run of all.
use Rattle.std.specs.Prelude.{◌≡◌, ◌<◌, ◌≤◌, ◌+◌, ◌-◌, ◌⊎◌, ℕ, Bool, true, false, List, [], ◌∷◌, ◌++◌, length, map, Option, Some, None, All, slice_get, zero, suc, refl}
use Rattle.std.proofs.Common.{ap, sym, ◌∙◌, arith, inl, inr, subst}
use Rattle.std.specs.List.{AllByRecursion, range_with_len}
use Rattle.std.specs.Option.{ForSome, option_map, unwrap_or}
use Rattle.std.proofs.lemmas.Bool.{cases_lt}
use Rattle.std.proofs.lemmas.List.{length-append, length-map}
use Rattle.std.proofs.lemmas.List.FromFn.{length-range_with_len}
use Rattle.std.proofs.lemmas.Option.{slice_get-map, slice_get_past, slice_get_within}
use Rattle.pig_value.proofs.list_laws.Elementwise.{get-behind}
use Rattle.pig_value.proofs.list_laws.Listing.{some_same}
use Rattle.pig_value.specs.declared.inputs.Input.{Input}
use Rattle.pig_value.specs.declared.operators.Dir.{Dir}
use Rattle.pig_value.specs.Elementwise.{Each}
use Rattle.pig_typed.specs.declared.blocks.SortKey.{SortKey}
use Rattle.pig_plan.specs.Entries.{dirs_of, sort_keys}
use Rattle.pig_plan.specs.Nodes.{is_boundary, is_live, op_at}
use Rattle.pig_plan.specs.Plans.{PlanNode, PlanOp, p_load, p_filter, p_foreach, p_group_all, p_group, p_join, p_union, p_distinct, p_order, p_limit, p_store, p_assert, p_rank}
use Rattle.pig_plan.specs.Results.{at_place}
use Rattle.pig_plan.specs.Valid.{IsPlan}
use Rattle.pig_runs.specs.Cutting.{Point, cut_point, cut_points, point_cmp}
use Rattle.pig_runs.specs.Entries.{run_cmp}
use Rattle.pig_value.specs.Gathering.{Entry}
use Rattle.pig_value.specs.Sorts.{Ascends}
use Rattle.pig_board.specs.declared.end.TaskEnd.{TaskEnd}
use Rattle.pig_physical.specs.Handed.{out_of}
use Rattle.pig_physical.specs.Outs.{Outs, TaskOut, entries_held, outs_at}
use Rattle.pig_physical.specs.Running.{AreCuts, AreSizes, IsRun}
use Rattle.pig_physical.specs.Stages.{Stages, Task, first_wave, head_of, heads, is_replicated, tasks_in}
use Rattle.pig_physical.specs.Values.{IsValue}
use Rattle.pig_physical.specs.declared.outputs.Out as out
use Rattle.pig_physical.specs.declared.waves.WaveKind.TheVariants as kinds
use Rattle.pig_pool.specs.Wave.{AreOutputs, IsWonWave}
use Rattle.pig_work.specs.Working.{HasSources, IsRight, IsRightAt, Tellings}
use Rattle.pig_driver.specs.Failing.{HaveWon}
use Rattle.pig_driver.specs.Going.{AllTell, AreValues, AreWon, HasRunAll, HasRunTo, TellSizes}
use Rattle.pig_driver.specs.Slicing.{AreDirected, AreSliced}
use Rattle.pig_driver.specs.Sorting.{AreBetween, BetweenBy, wave_sorts}
use Rattle.pig_driver.proofs.Looks.{past_tasks}
use Rattle.pig_driver.proofs.Rights.{AreRight, are_cuts, directed, plain_entries, plain_new, plain_values, sliced_new, sliced_values}
use Rattle.pig_driver.proofs.Sorting.{IsSorting, plain_wave, sorting_wave}
use Rattle.pig_driver.proofs.Standing.{its_head, reads_told}
use Rattle.pig_driver.proofs.Values.{standing_on, values_on}

-- ---- hosts

pub all_hosts : {X Y : Type 0} (P : Y → Type 0) (f : X → Y) (xs : List X) → AllByRecursion P (map f xs) → All (λ x. P (f x)) xs
all_hosts P f [] h k d less = absurd (omega (arith, less))
all_hosts P f (x ∷ xs) h zero d less = h.0
all_hosts P f (x ∷ xs) h (suc k) d less = all_hosts P f xs h.1 k d (omega (arith, less))

pub told_sources : (s : Stages) → IsPlan s.plan → (w : ℕ) → w < length (heads s.plan) → (tellings : Tellings) → TellSizes s tellings
    → AllByRecursion (λ told. ForSome told (HasSources s w)) tellings
told_sources s valid w less [] h = tt
told_sources s valid w less (told ∷ tellings) h = (λ inputs is. reads_told s valid inputs w less (h.0 inputs is), told_sources s valid w less tellings h.1)

-- ---- right outputs

pub are_right : (s : Stages) (tellings : Tellings) (outs : Outs) (w : ℕ) (found : List out.Out)
    → AreOutputs (λ place o. IsRightAt s tellings outs w place (out_of o)) (length (tasks_in s w)) found → AreRight s tellings outs w (map out_of found)
are_right s tellings outs w found h = record {
  count = length-map found out_of ∙ h.count;
  right = λ at task o by is. of_place at task o by (slice_get found at) refl (sym (slice_get-map out_of found at) ∙ is);
}
  where
    of_place : (at : ℕ) (task : Task) (o : TaskOut) → slice_get (tasks_in s w) at ≡ Some task → (place : Option out.Out) → slice_get found at ≡ place → option_map out_of place ≡ Some o
        → IsRight s tellings outs task o
    of_place at task o by None e is = absurd (let f : None ≡ Some o = is in cc)
    of_place at task o by (Some x) e is = subst (IsRight s tellings outs task) (some_same (out_of x) o is) (h.right at x e task by)

module _ (s : Stages) (valid : IsPlan s.plan) where
  boundary_of : (o : PlanOp) (keys : List SortKey) → sort_keys o ≡ Some keys → is_boundary o ≡ true
  boundary_of (p_load path delim columns) keys h = absurd (let e : None ≡ Some keys = h in cc)
  boundary_of (p_filter input test) keys h = absurd (let e : None ≡ Some keys = h in cc)
  boundary_of (p_foreach input block) keys h = absurd (let e : None ≡ Some keys = h in cc)
  boundary_of (p_group_all input) keys h = refl
  boundary_of (p_group inputs) keys h = refl
  boundary_of (p_join inputs side replicated) keys h = refl
  boundary_of (p_union inputs) keys h = absurd (let e : None ≡ Some keys = h in cc)
  boundary_of (p_distinct input) keys h = refl
  boundary_of (p_order input sorting) keys h = refl
  boundary_of (p_limit input count) keys h = refl
  boundary_of (p_store input path delim) keys h = absurd (let e : None ≡ Some keys = h in cc)
  boundary_of (p_assert input test message) keys h = absurd (let e : None ≡ Some keys = h in cc)
  boundary_of (p_rank input sorting dense) keys h = refl

  sorts_by_key : (o : PlanOp) (keys : List SortKey) → sort_keys o ≡ Some keys → is_replicated o ≡ false
  sorts_by_key (p_order input sorting) keys h = refl
  sorts_by_key (p_rank input sorting dense) keys h = refl
  sorts_by_key (p_load path delim columns) keys h = refl
  sorts_by_key (p_filter input test) keys h = refl
  sorts_by_key (p_foreach input block) keys h = refl
  sorts_by_key (p_group_all input) keys h = refl
  sorts_by_key (p_group inputs) keys h = refl
  sorts_by_key (p_join inputs side replicated) keys h = absurd (let e : None ≡ Some keys = h in cc)
  sorts_by_key (p_union inputs) keys h = refl
  sorts_by_key (p_distinct input) keys h = refl
  sorts_by_key (p_limit input count) keys h = refl
  sorts_by_key (p_store input path delim) keys h = refl
  sorts_by_key (p_assert input test message) keys h = refl

  -- a live node that sorts has its map wave among the waves
  sorting_head : (k : ℕ) (o : PlanOp) (keys : List SortKey) → op_at s.plan k ≡ Some o → is_live s.plan k ≡ true → sort_keys o ≡ Some keys
      → slice_get (heads s.plan) (first_wave s.plan k) ≡ Some (head_of s.plan k kinds.Map)
  sorting_head k o keys at alive by = of_node (slice_get s.plan k) refl
    where
      of_node : (found : Option PlanNode) → slice_get s.plan k ≡ found → slice_get (heads s.plan) (first_wave s.plan k) ≡ Some (head_of s.plan k kinds.Map)
      of_node None e = absurd (let f : None ≡ Some o = sym (ap (option_map (λ n. n.op)) e) ∙ at in cc)
      of_node (Some node) e =
          let same : o ≡ node.op = some_same o node.op (sym at ∙ ap (option_map (λ n. n.op)) e) in
          its_head s valid k (record { node = node; at = e; alive = alive; is = ap is_boundary (sym same) ∙ boundary_of o keys by })
          (ap is_replicated (sym same) ∙ sorts_by_key o keys by)

  abbrev PointsRise : Type 0
  PointsRise = (dirs : List Dir) (n : ℕ) (es : List Entry) → 0 < n → Ascends (run_cmp dirs) es
      → Ascends (point_cmp dirs) (cut_points n es)

  -- as many ends as are asked for are cuts in any directions
  ends_cut : PointsRise → (n : ℕ) → 0 < n → (ds : List Dir) → AreCuts n ds [] (cut_points n [])
  ends_cut rise n some ds = record {
    count = (let l = length-map (range_with_len 0 (n - 1)) (cut_point n []) ∙ length-range_with_len 0 (n - 1) in omega (arith, l, some));
    ascend = rise ds n [] some tt;
    are = refl;
  }

  module _ (tellings : Tellings) (outs : Outs) (w : ℕ) (within : w < length (heads s.plan)) (run : HasRunTo s tellings outs w) (found : List TaskOut) (rights : AreRight s tellings outs w found)
      (some : 0 < s.sizing.reducers) where
    pub may_slice : wave_sorts s w ≡ true → AreDirected found
    may_slice h = directed s tellings outs w valid within run.size found rights (sorting_wave s valid w within h)

    module _ (rise : PointsRise) (news : List TaskOut) where
      longer : length (outs ++ news ∷ []) ≡ w + 1
      longer = let size = run.size in length-append outs (news ∷ []) ∙ ap (λ n. n + 1) size

      plain_step : wave_sorts s w ≡ false → news ≡ found → HasRunTo s tellings (outs ++ news ∷ []) (w + 1)
      plain_step h same =
          let plain = plain_wave s valid w within h in
          subst (λ xs. HasRunTo s tellings (outs ++ xs ∷ []) (w + 1)) (sym same)
          (record {
            size = length-append outs (found ∷ []) ∙ ap (λ n. n + 1) run.size;
            standing = standing_on s valid outs found w run.size within run.standing (plain_new s tellings outs w valid within run.size found rights plain);
            values = λ inputs told. let old = run.values inputs told in
                record {
                  points = old.points ++ cut_points s.sizing.reducers [] ∷ [];
                  are = values_on s valid outs found w run.size within inputs old.points (cut_points s.sizing.reducers []) old.are
                      (plain_values s tellings outs w valid within run.size found rights plain inputs told (cut_points s.sizing.reducers []))
                      (λ k o keys at alive by first. subst (λ es. AreCuts s.sizing.reducers (dirs_of keys) es (cut_points s.sizing.reducers []))
                      (sym (plain_entries s tellings outs w valid within run.size found rights plain k o keys (ap (slice_get (heads s.plan)) (sym first) ∙ sorting_head k o keys at alive by) at by))
                      (ends_cut rise s.sizing.reducers some (dirs_of keys)));
                };
          })

      same_keys : (sorting : IsSorting s valid w within) (k : ℕ) (o : PlanOp) (keys : List SortKey) → op_at s.plan k ≡ Some o → is_live s.plan k ≡ true → sort_keys o ≡ Some keys
          → first_wave s.plan k ≡ w → sorting.keys ≡ keys
      same_keys sorting k o keys at alive by first =
          let own : slice_get (heads s.plan) w ≡ Some (head_of s.plan sorting.k kinds.Map) = ap (slice_get (heads s.plan)) sorting.at ∙ its_head s valid sorting.k sorting.is sorting.by_key in
          let other : slice_get (heads s.plan) w ≡ Some (head_of s.plan k kinds.Map) = ap (slice_get (heads s.plan)) (sym first) ∙ sorting_head k o keys at alive by in
          let nodes : sorting.k ≡ k = ap (λ h. h.node) (some_same (head_of s.plan sorting.k kinds.Map) (head_of s.plan k kinds.Map) (sym own ∙ other)) in
          let ops : sorting.is.node.op ≡ o = some_same sorting.is.node.op o (sym (ap (option_map (λ n. n.op)) sorting.is.at) ∙ ap (op_at s.plan) nodes ∙ at) in
          some_same sorting.keys keys (sym sorting.by ∙ ap sort_keys ops ∙ by)

      sliced_step : wave_sorts s w ≡ true → AreSliced s.sizing.reducers found news → HasRunTo s tellings (outs ++ news ∷ []) (w + 1)
      sliced_step h cut =
          let sorting = sorting_wave s valid w within h in
          record {
            size = longer;
            standing = standing_on s valid outs news w run.size within run.standing (sliced_new s tellings outs w valid within run.size found rights sorting some news cut);
            values = λ inputs told. let old = run.values inputs told in
                let cuts = are_cuts s tellings outs w valid within run.size found rights sorting some news cut inputs told rise in
                record {
                  points = old.points ++ cut.points ∷ [];
                  are = values_on s valid outs news w run.size within inputs old.points cut.points old.are
                      (sliced_values s tellings outs w valid within run.size found rights sorting some news cut inputs told)
                      (λ k o keys at alive by first. subst (λ ks. AreCuts s.sizing.reducers (dirs_of ks) (entries_held news) cut.points) (same_keys sorting k o keys at alive by first) cuts);
                };
          }

      pub goes_on : AreBetween s w found news → HasRunTo s tellings (outs ++ news ∷ []) (w + 1)
      goes_on h = by_test (wave_sorts s w) refl h
        where
          by_test : (b : Bool) → wave_sorts s w ≡ b → BetweenBy b s found news → HasRunTo s tellings (outs ++ news ∷ []) (w + 1)
          by_test true e g = sliced_step e g
          by_test false e g = plain_step e g

  -- ---- all waves

  run_is : (inputs : List Input) (outs : Outs) (points : List (List Point)) → AreSizes s inputs → length outs ≡ length (heads s.plan) → AreValues s inputs points outs (length (heads s.plan)) → IsRun s inputs (at_place [] points) outs
  run_is inputs outs points sizes size are = record {
    sizes = sizes;
    cuts = λ k o keys at alive by. are.cuts k o keys at alive by (slice_get_within (heads s.plan) (first_wave s.plan k) (head_of s.plan k kinds.Map) (sorting_head k o keys at alive by));
    values = λ v. elim (cases_lt v (length (heads s.plan))) [
      | inl less ↦ are.values v less
      | inr over ↦ subst (λ tasks. Each (IsValue s inputs (Some (at_place [] points v)) outs) tasks (outs_at outs v)) (sym (past_tasks s v over))
          (subst (λ found. Each (IsValue s inputs (Some (at_place [] points v)) outs) [] found) (sym (ap (λ o. unwrap_or o []) (slice_get_past outs v (omega (arith, over, size))))) tt)
    ];
  }

  first_sizes : (inputs : List Input) (tellings : Tellings) → 0 < length tellings → AllTell inputs tellings → TellSizes s tellings → AreSizes s inputs
  first_sizes inputs [] some told h = absurd (omega (arith, some))
  first_sizes inputs (t ∷ tellings) some told h = h.0 inputs told.0

  pub runs_all : (tellings : Tellings) (outs : Outs) → 0 < length tellings → TellSizes s tellings → HasRunTo s tellings outs (length (heads s.plan)) → HasRunAll s tellings outs
  runs_all tellings outs some sizes run = record {
    size = run.size;
    standing = run.standing;
    runs = λ inputs told. let have = run.values inputs told in record { points = at_place [] have.points; run = run_is inputs outs have.points (first_sizes inputs tellings some told sizes) run.size have.are };
  }

-- ---- at the beginning

pub none_ran : (s : Stages) (tellings : Tellings) → HasRunTo s tellings [] 0
none_ran s tellings = record {
  size = refl;
  standing = record { counts = λ v less. absurd (omega (arith, less)); each = λ v at less inside. absurd (omega (arith, less)); sliced = λ v k o keys less head op by. absurd (omega (arith, less)) };
  values = λ inputs told. record { points = []; are = record { size = refl; values = λ v less. absurd (omega (arith, less)); cuts = λ k o keys at alive by less. absurd (omega (arith, less)) } };
}

pub none_won : (s : Stages) → AreWon s [] 0
none_won s = record { count = refl; each = λ v end at. absurd (let e : None ≡ Some end = at in cc) }

front_place : {X : Type 0} (xs : List X) (x : X) (v : ℕ) → v < length xs → slice_get (xs ++ x ∷ []) v ≡ slice_get xs v
front_place [] x v less = absurd (omega (arith, less))
front_place (y ∷ xs) x zero less = refl
front_place (y ∷ xs) x (suc v) less = front_place xs x v (omega (arith, less))

pub one_won : (s : Stages) (ends : List (List TaskEnd)) (w : ℕ) (end : List TaskEnd) → AreWon s ends w → IsWonWave (length (tasks_in s w)) end → AreWon s (ends ++ end ∷ []) (w + 1)
one_won s ends w end h own = record {
  count = length-append ends (end ∷ []) ∙ ap (λ n. n + 1) h.count;
  each = λ v found at. of_place v found at (cases_lt v w);
}
  where
    last : (v : ℕ) (found : List TaskEnd) → slice_get (ends ++ end ∷ []) v ≡ Some found → w ≤ v → IsWonWave (length (tasks_in s v)) found
    last v found at over =
        let inside = slice_get_within (ends ++ end ∷ []) v found at in
        let count = h.count in
        let size = length-append ends (end ∷ []) in
        let here : v ≡ length ends + 0 = omega (arith, inside, size, count, over) in
        let same : end ≡ found = some_same end found (sym (get-behind ends (end ∷ []) 0) ∙ sym (ap (slice_get (ends ++ end ∷ [])) here) ∙ at) in
        let wave : w ≡ v = omega (arith, here, count) in
        subst (IsWonWave (length (tasks_in s v))) same (subst (λ u. IsWonWave (length (tasks_in s u)) end) wave own)

    of_place : (v : ℕ) (found : List TaskEnd) → slice_get (ends ++ end ∷ []) v ≡ Some found → (v < w) ⊎ (w ≤ v) → IsWonWave (length (tasks_in s v)) found
    of_place v found at (inl less) = (let count = h.count in h.each v found (sym (front_place ends end v (omega (arith, less, count))) ∙ at))
    of_place v found at (inr over) = last v found at over

-- where memory is wanting behind a wave that has won, no other wave has ended
pub have_won_one : (s : Stages) (ends news : List (List TaskEnd)) (w : ℕ) (end : List TaskEnd) → w < length (heads s.plan) → AreWon s ends w
    → IsWonWave (length (tasks_in s w)) end → news ≡ ends ++ end ∷ [] → HaveWon s news
have_won_one s ends news w end within h own pushed = record {
  waves = w + 1;
  within = omega (arith, within);
  won = subst (λ all. AreWon s all (w + 1)) (sym pushed) (one_won s ends w end h own);
}
