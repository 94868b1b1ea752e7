-- What operators bring together, by their kind, and that each sees its entries as a bag.
use Rattle.std.proofs.Common.{◌≡◌, ℕ, false, List, [], map, refl, sym, ◌∙◌, ap, true≢false}
use Rattle.std.specs.Prelude.{Option, Some, None}
use Rattle.std.specs.List.Sorted.{IsPermutation}
use Rattle.std.specs.Option.{option_map_or}
use Rattle.std.proofs.lemmas.List.{append-nil}
use Rattle.std.proofs.lemmas.List.Sorted.{IsPermutation-map, IsPermutation-sym}
use Rattle.pig_value.specs.declared.operators.Dir.{Dir}
use Rattle.pig_value.specs.Gathering.{Entry}
use Rattle.pig_value.specs.Orders.{tree_cmp}
use Rattle.pig_value.specs.Sorts.{Ascends, distinct, sort}
use Rattle.pig_value.specs.Trees.{Tree}
use Rattle.pig_value.proofs.OrderLaws.{tree_same, tree_total}
use Rattle.pig_value.proofs.list_laws.Bags.{bag_from_permutation, sort_permutes, sorted_is}
use Rattle.pig_value.proofs.list_laws.Distinct.{distinct_permuted}
use Rattle.pig_value.proofs.list_laws.Listing.{each_of_all, flat_map_none}
use Rattle.pig_typed.specs.Typed.{TypedBlock}
use Rattle.pig_algebra.specs.Combining.{folded}
use Rattle.pig_packed.specs.Growth.{Begun, and_rows}
use Rattle.pig_plan.proofs.Gathered.{gathered_same}
use Rattle.pig_plan.specs.ByKey.{gathered}
use Rattle.pig_plan.specs.Entries.{dirs_of, made_by, sort_keys}
use Rattle.pig_plan.specs.Meaning.{width_at}
use Rattle.pig_plan.specs.Plans.{Plan, PlanOp, p_load, p_filter, p_foreach, p_group_all, p_group, p_join, p_union, p_distinct, p_order, p_limit, p_store, p_assert, p_rank}
use Rattle.pig_runs.specs.Entries.{InDirections, run_cmp, run_of}
use Rattle.pig_runs.proofs.Order.{run_same, run_total}
use Rattle.pig_operators.specs.Given.{run_rows}
use Rattle.pig_operators.proofs.Stretches.{sorted_out}
use Rattle.pig_physical.specs.Combining.{folds}
use Rattle.pig_physical.specs.Values.{brought_together, key_row, reduced}
use Rattle.pig_reduce.specs.Made.{is_distinct, made_or_none}
use Rattle.pig_reduce.proofs.Finishing.{folded_permuted}

abbrev Making : Type 0
Making = Tree → (ℕ → List (List Tree)) → List (List Tree)

-- a sorted run has its rows in their order
pub sorted_rows : (run : InDirections) → ∥ Ascends (run_cmp run.dirs) run.entries ∥₁ → run_rows run ≡ map (λ e. e.row) (sort (run_cmp run.dirs) run.entries)
sorted_rows run up = ap (map (λ e. e.row)) (sym (sorted_is (run_cmp run.dirs) run.entries (sorted_out run.dirs run.entries up)))

-- nothing is made of entries where nothing is made of any key
pub none_made : (make : Making) (es : List Entry) (b : Begun) → made_or_none None ≡ make → b.begun ≡ [] → b ≡ and_rows (gathered make es) b
none_made make es b is none =
    let keys = distinct tree_cmp (map (λ e. e.key) es) in
    let nothing : gathered make es ≡ [] = ap (λ m. gathered m es) (sym is) ∙ flat_map_none (λ k. []) keys (each_of_all (λ k. [] ≡ []) (λ k. refl) keys) in
    (λ i. record { rows = sym (append-nil b.rows) i; begun = none i }) ∙ ap (λ rows. and_rows rows b) (sym nothing)

-- an operator that is no DISTINCT and doesn't sort goes by key
pub goes_by_key : (width : ℕ → ℕ) (o : PlanOp) (es : List Entry) → is_distinct o ≡ false → sort_keys o ≡ None
    → gathered (made_by width o) es ≡ brought_together width o es
goes_by_key width (p_distinct input) es h k = absurd (true≢false h)
goes_by_key width (p_order input keys) es h k = absurd (cc)
goes_by_key width (p_rank input keys dense) es h k = absurd (cc)
goes_by_key width (p_load path delim columns) es h k = refl
goes_by_key width (p_filter input test) es h k = refl
goes_by_key width (p_foreach input block) es h k = refl
goes_by_key width (p_group_all input) es h k = refl
goes_by_key width (p_group inputs) es h k = refl
goes_by_key width (p_join inputs side replicated) es h k = refl
goes_by_key width (p_union inputs) es h k = refl
goes_by_key width (p_limit input count) es h k = refl
goes_by_key width (p_store input path delim) es h k = refl
goes_by_key width (p_assert input test message) es h k = refl

-- ---- entries in any order

brought_same : (width : ℕ → ℕ) (o : PlanOp) (us vs : List Entry) → IsPermutation us vs → brought_together width o us ≡ brought_together width o vs
brought_same width (p_distinct input) us vs h =
    ap (map key_row) (distinct_permuted tree_cmp tree_total tree_same (map (λ e. e.key) us) (map (λ e. e.key) vs) (IsPermutation-map (λ e. e.key) us vs h))
brought_same width (p_order input keys) us vs h = ap (map (λ e. e.row))
    (bag_from_permutation (run_cmp (dirs_of keys)) (run_total (dirs_of keys)) (run_same (dirs_of keys)) us vs h)
brought_same width (p_rank input keys dense) us vs h = ap (map (λ e. e.row))
    (bag_from_permutation (run_cmp (dirs_of keys)) (run_total (dirs_of keys)) (run_same (dirs_of keys)) us vs h)
brought_same width (p_load path delim columns) us vs h = gathered_same (made_by width (p_load path delim columns)) us vs h
brought_same width (p_filter input test) us vs h = gathered_same (made_by width (p_filter input test)) us vs h
brought_same width (p_foreach input block) us vs h = gathered_same (made_by width (p_foreach input block)) us vs h
brought_same width (p_group_all input) us vs h = gathered_same (made_by width (p_group_all input)) us vs h
brought_same width (p_group inputs) us vs h = gathered_same (made_by width (p_group inputs)) us vs h
brought_same width (p_join inputs side replicated) us vs h = gathered_same (made_by width (p_join inputs side replicated)) us vs h
brought_same width (p_union inputs) us vs h = gathered_same (made_by width (p_union inputs)) us vs h
brought_same width (p_limit input count) us vs h = gathered_same (made_by width (p_limit input count)) us vs h
brought_same width (p_store input path delim) us vs h = gathered_same (made_by width (p_store input path delim)) us vs h
brought_same width (p_assert input test message) us vs h = gathered_same (made_by width (p_assert input test message)) us vs h

reduced_same : (plan : Plan) (k : ℕ) (o : PlanOp) (us vs : List Entry) → IsPermutation us vs → reduced plan k o us ≡ reduced plan k o vs
reduced_same plan k o us vs h = either (folds plan k)
  where
    either : (fold : Option TypedBlock) → option_map_or (λ block. folded block us) fold (brought_together (width_at plan) o us)
        ≡ option_map_or (λ block. folded block vs) fold (brought_together (width_at plan) o vs)
    either None = brought_same (width_at plan) o us vs h
    either (Some block) = folded_permuted block us vs h

-- a run of entries is brought together as they are
pub reduced_run : (plan : Plan) (k : ℕ) (o : PlanOp) (ds : List Dir) (es : List Entry) → reduced plan k o (run_of ds es).entries ≡ reduced plan k o es
reduced_run plan k o ds es = reduced_same plan k o (sort (run_cmp ds) es) es (IsPermutation-sym es (sort (run_cmp ds) es) (sort_permutes (run_cmp ds) es))
