-- Partitions, one behind the other, and ranks among their rows.
use Rattle.std.proofs.Common.{◌≡◌, ◌<◌, ◌≤◌, ◌+◌, ℕ, zero, suc, Bool, true, List, [], ◌∷◌, ◌++◌, map, take, drop, length, refl, sym, ◌∙◌, ap, subst, arith, append_assoc, true≢false}
use Rattle.std.specs.Prelude.{None, Some, get_or, slice_get}
use Rattle.std.specs.Option.{option_and_then, option_map}
use Rattle.std.proofs.lemmas.Option.{slice_get_read, slice_get_within}
use Rattle.std.specs.List.{range_with_len}
use Rattle.std.proofs.lemmas.Int.{SFits-int_wrap}
use Rattle.std.proofs.lemmas.List.{length-map, map-append}
use Rattle.std.proofs.lemmas.List.FromFn.{length-range_with_len}
use Rattle.std.proofs.lemmas.List.Folds.{flat_map-map}
use Rattle.std.specs.Int.{w64}
use Rattle.pig_value.specs.Trees.{Tree, row_tree, rows_tree}
use Rattle.pig_value.specs.Valid.{AreRows, IsRow}
use Rattle.pig_value.specs.declared.values.Value.{Value}
use Rattle.pig_value.proofs.ValidLaws.{rows_each}
use Rattle.pig_value.proofs.list_laws.Indexing.{get_map, more_taken}
use Rattle.pig_value.proofs.list_laws.Listing.{each_at, some_same}
use Rattle.pig_typed.specs.declared.blocks.SortKey.{SortKey}
use Rattle.pig_plan.specs.Entries.{sort_keys}
use Rattle.pig_plan.specs.Nodes.{op_at}
use Rattle.pig_plan.specs.Valid.{IsPlan}
use Rattle.pig_plan.specs.Plans.{Plan, PlanOp, p_load, p_filter, p_foreach, p_group_all, p_group, p_join, p_union, p_distinct, p_order, p_limit, p_store, p_assert, p_rank}
use Rattle.pig_physical.specs.Fitting.{Fits, HasAll}
use Rattle.pig_physical.specs.Handed.{form_of, out_of}
use Rattle.pig_physical.specs.Outs.{Outs, TaskOut, o_rows, outs_at, rows_in}
use Rattle.pig_physical.specs.Seen.{IsTaskOf}
use Rattle.pig_physical.specs.Stages.{Stages, t_rank}
use Rattle.pig_physical.specs.Values.{IsRankForm, IsRankValue, all_rows, rows_of_part}
use Rattle.pig_physical.specs.declared.outputs.Out.{Out}
use Rattle.pig_physical.specs.declared.parts.ReduceTask.{ReduceTask}
use Rattle.pig_physical.specs.declared.parts.Task.TheVariants as declared
use Rattle.pig_physical.specs.declared.waves.WaveKind.TheVariants as kinds
use Rattle.pig_rank.specs.Ranks.{AreBehindLongs, AreRanked, AreSorted, PartStart, PartSummary, joined, ranked_among, start_behind, start_tree, starts_of, summary_of, summary_tree}
use Rattle.pig_rank.specs.declared.parts.Start.{Start}
use Rattle.pig_rank.specs.declared.parts.Summary.{Summary}
use Rattle.pig_rank.proofs.Ranked.{parts_sorted}
use Rattle.pig_waves.proofs.Places.{range_at}
use Rattle.pig_waves.specs.Laws.{ranks}
use Rattle.pig_fitting.specs.Laws.{RankFormFits}
use Rattle.pig_fitting.proofs.Standing.{OfPartition, ranks_alone, ranks_at}
use Rattle.pig_reduce.specs.Made.{AreStartsBy, IsStartBy, IsStartIn, IsStartOf, rows_out}

abbrev Rows : Type 0
Rows = List (List Tree)

-- ---- partitions

-- the rows before a partition, its own, and those behind it
pub around : (outs : List TaskOut) (p : ℕ) → (all_rows (take p outs) ++ rows_of_part outs p) ++ all_rows (drop (suc p) outs) ≡ all_rows outs
around [] zero = refl
around [] (suc p) = refl
around (out ∷ outs) zero = refl
around (out ∷ outs) (suc p) =
    ap (λ rows. rows ++ all_rows (drop (suc p) outs)) (append_assoc (rows_in out.form) (all_rows (take p outs)) (rows_of_part outs p))
    ∙ append_assoc (rows_in out.form) (all_rows (take p outs) ++ rows_of_part outs p) (all_rows (drop (suc p) outs))
    ∙ ap (λ rows. rows_in out.form ++ rows) (around outs p)

-- a partition's rows that are ranked behind its start are ranked among all
pub ranked_there : (keys : List SortKey) (dense : Bool) (outs : List TaskOut) (p : ℕ) (start : PartStart) (rows made : Rows) → rows ≡ rows_of_part outs p
    → AreRanked keys dense start rows made → AreSorted keys (all_rows outs) → start ≡ start_behind keys (all_rows (take p outs))
    → made ≡ ranked_among keys dense (all_rows outs) (rows_of_part outs p)
ranked_there keys dense outs p start rows made is h sorted begins =
    let own : AreRanked keys dense start (rows_of_part outs p) made = subst (λ rs. AreRanked keys dense start rs made) is h in
    own (all_rows (take p outs)) (all_rows (drop (suc p) outs)) (subst (AreSorted keys) (sym (around outs p)) sorted) begins
    ∙ ap (λ whole. ranked_among keys dense whole (rows_of_part outs p)) (around outs p)

abbrev pub parts_of : List TaskOut → List Rows
parts_of outs = map (λ out. rows_in out.form) outs

pub parts_joined : (outs : List TaskOut) → joined (parts_of outs) ≡ all_rows outs
parts_joined outs = flat_map-map (λ part. part) (λ out. rows_in out.form) outs

-- each partition of sorted rows is sorted
pub part_sorted : (keys : List SortKey) (outs : List TaskOut) → AreSorted keys (all_rows outs) → (i : ℕ) (out : TaskOut) → slice_get outs i ≡ Some out
    → AreSorted keys (rows_in out.form)
part_sorted keys outs sorted i out at =
    each_at (AreSorted keys) (parts_of outs) i (rows_in out.form) (get_map (λ o. rows_in o.form) outs i ∙ ap (λ found. option_map (λ o. rows_in o.form) found) at)
    (parts_sorted keys (parts_of outs) (subst (AreSorted keys) (sym (parts_joined outs)) sorted))

-- ---- values

-- rows behind longs are rows of values
pub longs_are_rows : (rows made : Rows) → AreBehindLongs rows made → AreRows rows → AreRows made
longs_are_rows [] [] h are = tt
longs_are_rows [] (m ∷ made) h are = absurd h
longs_are_rows (row ∷ rows) [] h are = absurd h
longs_are_rows (row ∷ rows) (m ∷ made) h are = (subst IsRow (sym (h.0).is) (SFits-int_wrap w64 (h.0).long, are.0), longs_are_rows rows made h.1 are.1)

-- a row at a place of values
pub row_there : (rows items : List (List Value)) (i : ℕ) (row : List Value) → items ≡ rows → AreRows (rows_tree rows) → i < length items → row ≡ get_or items i row
    → IsRow (row_tree row)
row_there rows items i row is are within at =
    let here : slice_get rows i ≡ Some row = subst (λ xs. slice_get xs i ≡ Some row) is (slice_get_read items (length items) i row refl within at) in
    each_at IsRow (rows_tree rows) i (row_tree row) (get_map row_tree rows i ∙ ap (option_map row_tree) here) (rows_each (rows_tree rows) are)

-- one row more
pub one_unpacked : (rows : Rows) (at : ℕ) (found new : List (List Value)) (row : List Value) → slice_get rows at ≡ Some (row_tree row)
    → rows_tree found ≡ take at rows → new ≡ found ++ row ∷ [] → rows_tree new ≡ take (at + 1) rows
one_unpacked rows at found new row here so_far is =
    ap rows_tree is ∙ map-append row_tree found (row ∷ []) ∙ ap (λ l. l ++ row_tree row ∷ []) so_far ∙ sym (more_taken rows at (row_tree row) here)

-- ---- an operator that ranks

-- one that ranks has keys
pub has_keys : (o : PlanOp) → ranks o ≡ true → sort_keys o ≡ None → ⊥
has_keys (p_rank input keys dense) h none = absurd (cc)
has_keys (p_load path delim columns) h none = absurd (true≢false (sym h))
has_keys (p_filter input test) h none = absurd (true≢false (sym h))
has_keys (p_foreach input block) h none = absurd (true≢false (sym h))
has_keys (p_group_all input) h none = absurd (true≢false (sym h))
has_keys (p_group inputs) h none = absurd (true≢false (sym h))
has_keys (p_join inputs side replicated) h none = absurd (true≢false (sym h))
has_keys (p_union inputs) h none = absurd (true≢false (sym h))
has_keys (p_distinct input) h none = absurd (true≢false (sym h))
has_keys (p_order input ks) h none = absurd (true≢false (sym h))
has_keys (p_limit input count) h none = absurd (true≢false (sym h))
has_keys (p_store input path delim) h none = absurd (true≢false (sym h))
has_keys (p_assert input test message) h none = absurd (true≢false (sym h))

-- ---- a rank task

module _ (s : Stages) (outs : Outs) (t : ReduceTask) (task : IsTaskOf s (t.wave + 1) (declared.Rank t)) (o : PlanOp) (at : op_at s.plan t.node ≡ Some o) where
  of : OfPartition s (t.wave + 1) t kinds.Rank kinds.Reduce
  of = ranks_at s t (t.wave + 1) task.at task.stands

  pub task_ranks : ranks o ≡ true
  task_ranks = subst (λ p. ranks p ≡ true) (some_same of.op o (sym of.at ∙ at)) (ranks_alone of.op of.among)

  -- what it hands on is its value
  pub rank_value : (found : List TaskOut) → found ≡ outs_at outs t.wave → (start : Start) → IsStartOf s.plan (outs_at outs t.wave) t start
      → (made : Rows) → (IsStartBy o found t.part start → IsRankForm o found t.part (o_rows made)) → (out : TaskOut) → out ≡ rows_out made
      → (p : PlanOp) → op_at s.plan t.node ≡ Some p → IsRankValue outs t p out
  rank_value found is start begins made h out out_is p own =
      let same : o ≡ p = some_same o p (sym at ∙ own) in
      let form : IsRankForm o (outs_at outs t.wave) t.part (o_rows made) =
      subst (λ list. IsRankForm o list t.part (o_rows made)) is (h (subst (λ list. IsStartBy o list t.part start) (sym is) (begins o at))) in
      subst (λ q. IsRankValue outs t q out) same (subst (IsRankValue outs t o) (sym out_is) (record { form = form; lines = refl; unmet = refl }))

  -- and fits it
  pub rank_fits : RankFormFits → IsPlan s.plan → HasAll s outs t.wave → (found : List TaskOut) → found ≡ outs_at outs t.wave
      → (made : Rows) → AreBehindLongs (rows_of_part found t.part) made → (out : TaskOut) → out ≡ rows_out made → Fits s (t_rank t) out
  rank_fits law valid has found is made longs out out_is =
      subst (Fits s (t_rank t)) (sym out_is)
      (law s valid (t.wave + 1) task.at t task.stands outs has made (subst (λ list. AreBehindLongs (rows_of_part list t.part) made) is longs))

-- ---- what is told of partitions

abbrev pub summed : List SortKey → Out → PartSummary
summed keys out = summary_of keys (rows_in (form_of out.form))

pub one_summed : (keys : List SortKey) (outs items : List Out) (i : ℕ) (out : Out) (parts new : List Summary) (summary : Summary)
    → items ≡ outs → i < length items → out ≡ get_or items i out
    → AreSorted keys (all_rows (map out_of outs)) → map summary_tree parts ≡ map (summed keys) (take i outs)
    → (AreSorted keys (rows_in (form_of out.form)) → summary_tree summary ≡ summed keys out) → new ≡ parts ++ summary ∷ []
    → map summary_tree new ≡ map (summed keys) (take (i + 1) outs)
one_summed keys outs items i out parts new summary are within at sorted so_far told is =
    let here : slice_get outs i ≡ Some out = subst (λ xs. slice_get xs i ≡ Some out) are (slice_get_read items (length items) i out refl within at) in
    let own : slice_get (map out_of outs) i ≡ Some (out_of out) = get_map out_of outs i ∙ ap (option_map out_of) here in
    ap (map summary_tree) is
    ∙ map-append summary_tree parts (summary ∷ [])
    ∙ (λ k. so_far k ++ told (part_sorted keys (map out_of outs) sorted i (out_of out) own) k ∷ [])
    ∙ sym (ap (map (summed keys)) (more_taken outs i out here) ∙ map-append (summed keys) (take i outs) (out ∷ []))

pub all_summed : (keys : List SortKey) (outs : List Out) → map (summed keys) outs ≡ map (summary_of keys) (parts_of (map out_of outs))
all_summed keys [] = refl
all_summed keys (out ∷ outs) = ap (λ xs. summed keys out ∷ xs) (all_summed keys outs)

pub taken_all : {X : Type 0} (xs : List X) (n : ℕ) → length xs ≤ n → take n xs ≡ xs
taken_all [] zero h = refl
taken_all [] (suc n) h = refl
taken_all (x ∷ xs) zero h = absurd (omega (arith, h))
taken_all (x ∷ xs) (suc n) h = ap (λ ys. x ∷ ys) (taken_all xs n (omega (arith, h)))

-- ---- the start of a partition

take_parts : (p : ℕ) (outs : List TaskOut) → joined (take p (parts_of outs)) ≡ all_rows (take p outs)
take_parts zero outs = refl
take_parts (suc p) [] = refl
take_parts (suc p) (out ∷ outs) = ap (λ rows. rows_in out.form ++ rows) (take_parts p outs)

pub start_there : (keys : List SortKey) (outs : List TaskOut) (starts : List Start) (p : ℕ) (start : Start) → map start_tree starts ≡ starts_of keys (parts_of outs)
    → slice_get starts p ≡ Some start → start_tree start ≡ start_behind keys (all_rows (take p outs))
start_there keys outs starts p start are at =
    let begins : ℕ → PartStart = λ i. start_behind keys (joined (take i (parts_of outs))) in
    let here : slice_get (map start_tree starts) p ≡ Some (start_tree start) = get_map start_tree starts p ∙ ap (option_map start_tree) at in
    let known : slice_get (starts_of keys (parts_of outs)) p ≡ Some (start_tree start) = ap (λ xs. slice_get xs p) (sym are) ∙ here in
    let within : p < length (starts_of keys (parts_of outs)) = slice_get_within (starts_of keys (parts_of outs)) p (start_tree start) known in
    let count : length (starts_of keys (parts_of outs)) ≡ length (parts_of outs) =
    length-map (range_with_len 0 (length (parts_of outs))) (λ i. start_behind keys (joined (take i (parts_of outs)))) ∙ length-range_with_len 0 (length (parts_of outs)) in
    let zeroth : 0 + p ≡ p = omega arith in
    some_same (start_tree start) (start_behind keys (joined (take p (parts_of outs))))
    (sym known ∙ get_map (λ i. start_behind keys (joined (take i (parts_of outs)))) (range_with_len 0 (length (parts_of outs))) p
    ∙ ap (option_map (λ i. start_behind keys (joined (take i (parts_of outs))))) (range_at 0 (length (parts_of outs)) p (omega (arith, within, count)) ∙ ap Some zeroth))
    ∙ ap (start_behind keys) (take_parts p outs)

pub starts_found : (plan : Plan) (outs : Outs) (t u : ReduceTask) (keys : List SortKey) (found : List TaskOut) (starts : List Start)
    → option_and_then sort_keys (op_at plan u.node) ≡ Some keys → found ≡ outs_at outs u.wave → AreStartsBy keys found starts
    → t.node ≡ u.node → t.wave ≡ u.wave → IsStartIn plan outs t starts
starts_found plan outs t u keys found starts has is are node wave start at o op_is own own_keys sorted =
    let same : own ≡ keys = some_same own keys (sym own_keys ∙ ap (option_and_then sort_keys) (sym (ap (op_at plan) (sym node) ∙ op_is)) ∙ has) in
    let there : outs_at outs t.wave ≡ found = ap (outs_at outs) wave ∙ sym is in
    start_there own (outs_at outs t.wave) starts t.part start
    (subst (λ ks. map start_tree starts ≡ starts_of ks (parts_of (outs_at outs t.wave))) (sym same)
    (subst (λ list. map start_tree starts ≡ starts_of keys (parts_of list)) (sym there)
    (are (subst (AreSorted keys) (ap all_rows there) (subst (λ ks. AreSorted ks (all_rows (outs_at outs t.wave))) same sorted))))) at

pub none_found : {X : Type 0} (i : ℕ) (x : X) {G : Type 0} → slice_get [] i ≡ Some x → G
none_found i x h = absurd (cc)
