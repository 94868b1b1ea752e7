-- What is found while the waves of live nodes are passed is what the waves of the bare LIMITs give.
use Rattle.std.specs.Prelude.{◌≡◌, ◌<◌, ◌≤◌, ◌+◌, ◌==◌, ◌&&◌, ◌||◌, ℕ, zero, suc, Bool, true, false, not, nat_lt, List, [], ◌∷◌, ◌++◌, drop, length, map, take, Option, Some, None, slice_get, refl}
use Rattle.std.proofs.Common.{ap, sym, ◌∙◌, arith, append-nil, cond, true≢false}
use Rattle.std.specs.List.{AllByRecursion, cons_option, filter, filter_map, find, flat_map, list_any, range_with_len, sum_by}
use Rattle.std.specs.Option.{is_some, option_map, option_map_or, unwrap_or}
use Rattle.std.proofs.lemmas.Bool.{eq-eqb}
use Rattle.std.proofs.lemmas.Bool.Decides.{nat_tests}
use Rattle.std.proofs.lemmas.List.{length-append, length-map}
use Rattle.std.proofs.lemmas.List.Sums.{sum_by-cons}
use Rattle.std.proofs.lemmas.Option.{slice_get_past}
use Rattle.pig_value.specs.declared.outcomes.Kept.{Kept}
use Rattle.pig_value.specs.Trees.{Tree, rows_tree}
use Rattle.pig_value.proofs.list_laws.Elementwise.{filter_rises, range_rises, split_off}
use Rattle.pig_value.proofs.list_laws.Indexing.{drop-add, get-drop}
use Rattle.pig_value.proofs.list_laws.Listing.{each_at, each_filtered, each_weaker}
use Rattle.pig_plan.specs.Meaning.{kept_at}
use Rattle.pig_plan.specs.NodeKinds.{kinds_at, node_gives}
use Rattle.pig_plan.specs.Nodes.{is_bare, is_boundary, is_live, is_sorted, live, op_at}
use Rattle.pig_plan.specs.Plans.{Plan, PlanNode, PlanOp, node_of, plan_of, p_load, p_filter, p_foreach, p_group_all, p_group, p_join, p_union, p_distinct, p_order, p_limit, p_store, p_assert, p_rank}
use Rattle.pig_plan.specs.declared.nodes.Node.{Node}
use Rattle.pig_plan.specs.Valid.{IsPlan, are_twins, is_twin, op_writes_lf}
use Rattle.pig_physical.specs.Outs.{Outs, outs_at}
use Rattle.pig_physical.specs.Running.{AreOutputs, rows_given}
use Rattle.pig_physical.specs.Stages.{head_of, heads_at, waves_of}
use Rattle.pig_waves.proofs.Heads.{live_at}
use Rattle.pig_collect.specs.Keeping.{Chosen, chosen_at, chosen_by, chosen_in, chosen_of, wave_count, wave_rows, waves_at}

-- nothing is kept for a node that there isn't
pub none_kept : (nodes : List Node) (k : ℕ) (found : List Chosen) (sorted : ℕ → Bool) (outs : Outs) → length nodes ≤ k → found ≡ found ++ chosen_at sorted (plan_of nodes) k outs
none_kept nodes k found sorted outs past =
    let size = length-map nodes node_of in
    sym (ap (λ o. found ++ option_map_or (chosen_by sorted outs) o []) (slice_get_past (plan_of nodes) k (omega (arith, past, size))) ∙ append-nil found)

-- the rows that were chosen at a statement
abbrev rows_for : List Chosen → ℕ → List (List Tree)
rows_for found statement = option_map_or (λ c. c.1) (find (λ c. c.0 == statement) found) []

kept_is : (kept : List Kept) (statement : ℕ) → kept_at kept statement ≡ rows_for (map chosen_of kept) statement
kept_is [] statement = refl
kept_is (k ∷ kept) statement = by_test (k.statement == statement) (kept_is kept statement)
  where
    by_test : (b : Bool) → kept_at kept statement ≡ rows_for (map chosen_of kept) statement
        → option_map_or (λ k. rows_tree k.rows) (cond b (Some k) (find (λ k. k.statement == statement) kept)) []
        ≡ option_map_or (λ c. c.1) (cond b (Some (chosen_of k)) (find (λ c. c.0 == statement) (map chosen_of kept))) []
    by_test true more = refl
    by_test false more = more

statements_kept : (kept : List Kept) → map (λ k. k.statement) kept ≡ map (λ c. c.0) (map chosen_of kept)
statements_kept [] = refl
statements_kept (k ∷ kept) = ap (λ ns. k.statement ∷ ns) (statements_kept kept)

get-take : {X : Type 0} (xs : List X) (k j : ℕ) → j < k → slice_get (take k xs) j ≡ slice_get xs j
get-take xs zero j h = absurd (omega (arith, h))
get-take [] (suc k) j h = refl
get-take (x ∷ xs) (suc k) zero h = refl
get-take (x ∷ xs) (suc k) (suc j) h = get-take xs k j (omega (arith, h))

module _ (plan : Plan) (valid : IsPlan plan) where
  -- ---- statements of LIMITs differ

  none_of : {X : Type 0} (p : X → Bool) (xs : List X) → list_any p xs ≡ false → AllByRecursion (λ x. p x ≡ false) xs
  none_of p [] h = tt
  none_of p (x ∷ xs) h = let both = neither (p x) (list_any p xs) h in (both.0, none_of p xs both.1)
    where
      neither : (a b : Bool) → (a || b) ≡ false → (a ≡ false) × (b ≡ false)
      neither true b h = absurd (true≢false h)
      neither false b h = (refl, h)

  no_twin : (j k : ℕ) (w v : PlanNode) → j < k → slice_get plan j ≡ Some w → slice_get plan k ≡ Some v → is_twin v w ≡ false
  no_twin j k w v less at there =
      each_at (λ u. is_twin v u ≡ false) (take k plan) j w (get-take plan k j less ∙ at)
      (none_of (is_twin v) (take k plan) (none_are (is_some (node_gives (kinds_at (take k plan)) v.op)) (not (op_writes_lf v.op)) (list_any (is_twin v) (take k plan)) (valid k v there)))
    where
      none_are : (a b c : Bool) → (a && b && not c) ≡ true → c ≡ false
      none_are true true true h = absurd (true≢false (sym h))
      none_are true true false h = refl
      none_are true false c h = absurd (true≢false (sym h))
      none_are false b c h = absurd (true≢false (sym h))

  -- a bare LIMIT before another has another statement
  limits_differ : (j k : ℕ) (w : PlanNode) (input count statement : ℕ) → j < k → slice_get plan j ≡ Some w
      → slice_get plan k ≡ Some (record { op = p_limit input count; statement = statement }) → is_bare (is_sorted plan) w.op ≡ true → (w.statement == statement) ≡ false
  limits_differ j k w input count statement less at there bare =
      by_op w.op bare (no_twin j k w (record { op = p_limit input count; statement = statement }) less at there)
    where
      by_op : (o : PlanOp) → is_bare (is_sorted plan) o ≡ true → (are_twins (p_limit input count) o && w.statement == statement) ≡ false → (w.statement == statement) ≡ false
      by_op (p_limit i n) h other = other
      by_op (p_load path delim columns) h other = absurd (true≢false (sym h))
      by_op (p_filter i test) h other = absurd (true≢false (sym h))
      by_op (p_foreach i block) h other = absurd (true≢false (sym h))
      by_op (p_group_all i) h other = absurd (true≢false (sym h))
      by_op (p_group keyed) h other = absurd (true≢false (sym h))
      by_op (p_join keyed side replicated) h other = absurd (true≢false (sym h))
      by_op (p_union numbers) h other = absurd (true≢false (sym h))
      by_op (p_distinct i) h other = absurd (true≢false (sym h))
      by_op (p_order i keys) h other = absurd (true≢false (sym h))
      by_op (p_store i path delim) h other = absurd (true≢false (sym h))
      by_op (p_assert i test message) h other = absurd (true≢false (sym h))
      by_op (p_rank i keys dense) h other = absurd (true≢false (sym h))

  abbrev sorted : ℕ → Bool
  sorted = is_sorted plan

  -- ---- statements

  statements_chosen : (ks : List ℕ) (outs : Outs)
      → map (λ c. c.0) (chosen_in sorted plan ks outs) ≡ map (λ node. node.statement) (filter (λ node. is_bare sorted node.op) (filter_map (slice_get plan) ks))
  statements_chosen [] outs = refl
  statements_chosen (k ∷ ks) outs = by_node (slice_get plan k) (chosen_in sorted plan ks (drop (waves_at plan k) outs)) (statements_chosen ks (drop (waves_at plan k) outs))
    where
      by_test : (v : PlanNode) (b : Bool) (rest : List Chosen)
          → map (λ c. c.0) rest ≡ map (λ node. node.statement) (filter (λ node. is_bare sorted node.op) (filter_map (slice_get plan) ks))
          → map (λ c. c.0) (cond b ((v.statement, wave_rows (outs_at outs 1)) ∷ []) [] ++ rest)
          ≡ map (λ node. node.statement) (cond b (v ∷ filter (λ node. is_bare sorted node.op) (filter_map (slice_get plan) ks)) (filter (λ node. is_bare sorted node.op) (filter_map (slice_get plan) ks)))
      by_test v true rest h = ap (λ ns. v.statement ∷ ns) h
      by_test v false rest h = h

      by_node : (found : Option PlanNode) (rest : List Chosen)
          → map (λ c. c.0) rest ≡ map (λ node. node.statement) (filter (λ node. is_bare sorted node.op) (filter_map (slice_get plan) ks))
          → map (λ c. c.0) (option_map_or (chosen_by sorted outs) found [] ++ rest)
          ≡ map (λ node. node.statement) (filter (λ node. is_bare sorted node.op) (cons_option found (filter_map (slice_get plan) ks)))
      by_node None rest h = h
      by_node (Some v) rest h = by_test v (is_bare sorted v.op) rest h

  -- ---- rows

  -- a node that is no bare LIMIT of the statement
  abbrev IsOther : ℕ → ℕ → Type 0
  IsOther statement j = (w : PlanNode) → slice_get plan j ≡ Some w → is_bare sorted w.op ≡ true → (w.statement == statement) ≡ false

  other_passed : (statement j : ℕ) (outs : Outs) (rest : List Chosen) → IsOther statement j → rows_for (chosen_at sorted plan j outs ++ rest) statement ≡ rows_for rest statement
  other_passed statement j outs rest other = by_node (slice_get plan j) other
    where
      by_test : (w : PlanNode) (b : Bool) → (b ≡ true → (w.statement == statement) ≡ false)
          → rows_for (cond b ((w.statement, wave_rows (outs_at outs 1)) ∷ []) [] ++ rest) statement ≡ rows_for rest statement
      by_test w true h = ap (λ c. option_map_or (λ c. c.1) (cond c (Some (w.statement, wave_rows (outs_at outs 1))) (find (λ c. c.0 == statement) rest)) []) (h refl)
      by_test w false h = refl

      by_node : (found : Option PlanNode) → ((w : PlanNode) → found ≡ Some w → is_bare sorted w.op ≡ true → (w.statement == statement) ≡ false)
          → rows_for (option_map_or (chosen_by sorted outs) found [] ++ rest) statement ≡ rows_for rest statement
      by_node None h = refl
      by_node (Some w) h = by_test w (is_bare sorted w.op) (h w refl)

  front_passed : (statement k : ℕ) (front ks : List ℕ) (outs : Outs) → AllByRecursion (IsOther statement) front
      → rows_for (chosen_in sorted plan (front ++ k ∷ ks) outs) statement ≡ rows_for (chosen_in sorted plan (k ∷ ks) (drop (sum_by (waves_at plan) front) outs)) statement
  front_passed statement k [] ks outs h = refl
  front_passed statement k (j ∷ front) ks outs h =
      other_passed statement j outs (chosen_in sorted plan (front ++ k ∷ ks) (drop (waves_at plan j) outs)) h.0
      ∙ front_passed statement k front ks (drop (waves_at plan j) outs) h.1
      ∙ ap (λ os. rows_for (chosen_in sorted plan (k ∷ ks) os) statement)
      (drop-add outs (waves_at plan j) (sum_by (waves_at plan) front) ∙ ap (λ n. drop n outs) (sym (sum_by-cons (waves_at plan) j front)))

  own_chosen : (statement k : ℕ) (o : PlanOp) (ks : List ℕ) (outs : Outs) → slice_get plan k ≡ Some (record { op = o; statement = statement }) → is_bare sorted o ≡ true
      → rows_for (chosen_in sorted plan (k ∷ ks) outs) statement ≡ wave_rows (outs_at outs 1)
  own_chosen statement k o ks outs at bare =
      ap (λ found. rows_for (option_map_or (chosen_by sorted outs) found [] ++ chosen_in sorted plan ks (drop (waves_at plan k) outs)) statement) at
      ∙ ap (λ b. rows_for (cond b ((statement, wave_rows (outs_at outs 1)) ∷ []) [] ++ chosen_in sorted plan ks (drop (waves_at plan k) outs)) statement) bare
      ∙ ap (λ b. option_map_or (λ c. c.1) (cond b (Some (statement, wave_rows (outs_at outs 1))) (find (λ c. c.0 == statement) (chosen_in sorted plan ks (drop (waves_at plan k) outs)))) [])
      (eq-eqb statement statement refl)

  -- ---- the waves in front

  abbrev is_here : ℕ → Bool
  is_here k = option_map_or is_boundary (op_at plan k) false

  own_waves : (k : ℕ) (b : Bool) → is_here k ≡ b → waves_at plan k ≡ cond b (length (heads_at plan k)) 0
  own_waves k b here = by_node (slice_get plan k) here
    where
      of_waves : (o : PlanOp) (c : Bool) → c ≡ b → cond c (length (waves_of o)) 0 ≡ cond b (length (map (head_of plan k) (waves_of o))) 0
      of_waves o c e =
          ap (λ n. cond c n 0) (sym (length-map (waves_of o) (head_of plan k))) ∙ ap (λ d. cond d (length (map (head_of plan k) (waves_of o))) 0) e

      nothing : (c : Bool) → ◌≡◌ {A = ℕ} 0 (cond c 0 0)
      nothing true = refl
      nothing false = refl

      by_node : (found : Option PlanNode) → option_map_or is_boundary (option_map (λ node. node.op) found) false ≡ b
          → option_map_or (λ node. wave_count node.op) found 0 ≡ cond b (length (option_map_or (λ o. map (head_of plan k) (waves_of o)) (option_map (λ node. node.op) found) [])) 0
      by_node None e = nothing b
      by_node (Some node) e = of_waves node.op (is_boundary node.op) e

  module _ (k : ℕ) where
    abbrev lower : ℕ → Bool
    lower j = nat_lt j k

    waves_before : (ks : List ℕ) → length (flat_map (heads_at plan) (filter lower (filter is_here ks))) ≡ sum_by (waves_at plan) (filter lower ks)
    waves_before [] = refl
    waves_before (j ∷ ks) = by_tests (is_here j) (lower j) refl refl (waves_before ks)
      where
        by_tests : (b c : Bool) → is_here j ≡ b → lower j ≡ c
            → length (flat_map (heads_at plan) (filter lower (filter is_here ks))) ≡ sum_by (waves_at plan) (filter lower ks)
            → length (flat_map (heads_at plan) (filter lower (cond b (j ∷ filter is_here ks) (filter is_here ks)))) ≡ sum_by (waves_at plan) (cond c (j ∷ filter lower ks) (filter lower ks))
        by_tests true true here low more =
            let size = length-append (heads_at plan j) (flat_map (heads_at plan) (filter lower (filter is_here ks))) in
            let sum = sum_by-cons (waves_at plan) j (filter lower ks) in
            let own = own_waves j true here in
            ap (λ d. length (flat_map (heads_at plan) (cond d (j ∷ filter lower (filter is_here ks)) (filter lower (filter is_here ks))))) low ∙ omega (arith, size, sum, own, more)
        by_tests true false here low more =
            ap (λ d. length (flat_map (heads_at plan) (cond d (j ∷ filter lower (filter is_here ks)) (filter lower (filter is_here ks))))) low ∙ more
        by_tests false true here low more =
            let sum = sum_by-cons (waves_at plan) j (filter lower ks) in
            let own = own_waves j false here in
            omega (arith, sum, own, more)
        by_tests false false here low more = more

  live_rises : (k i : ℕ) → slice_get (live plan) i ≡ Some k → live plan ≡ filter (λ j. nat_lt j k) (live plan) ++ k ∷ filter (λ j. nat_lt k j) (live plan)
  live_rises k i at = split_off (live plan) i k (filter_rises (is_live plan) (range_with_len 0 (length plan)) (range_rises 0 (length plan))) at

  each_kept : (outs : Outs) (k statement input count : ℕ) → slice_get plan k ≡ Some (record { op = p_limit input count; statement = statement }) → is_live plan k ≡ true → is_sorted plan input ≡ false
      → rows_for (chosen_in sorted plan (live plan) outs) statement ≡ rows_given plan outs k (p_limit input count)
  each_kept outs k statement input count at alive unsorted =
      let place = live_at plan k alive in
      let front = filter (λ j. nat_lt j k) (live plan) in
      let behind = filter (λ j. nat_lt k j) (live plan) in
      let passed = sum_by (waves_at plan) front in
      let others = each_weaker (λ j. nat_lt j k ≡ true) (IsOther statement)
      (λ j less w there bare. limits_differ j k w input count statement (grind (arith, nat_tests, less)) there at bare) front (each_filtered (λ j. nat_lt j k) (live plan)) in
      ap (λ ks. rows_for (chosen_in sorted plan ks outs) statement) (live_rises k place.0 place.1)
      ∙ front_passed statement k front behind outs others
      ∙ own_chosen statement k (p_limit input count) behind (drop passed outs) at (ap not unsorted)
      ∙ ap (λ o. wave_rows (unwrap_or o [])) (get-drop outs passed 1)
      ∙ ap (λ n. wave_rows (outs_at outs (n + 1))) (sym (waves_before k (live plan)))

pub outputs_kept : (plan : Plan) → IsPlan plan → (outs : Outs) (kept : List Kept) → map chosen_of kept ≡ chosen_in (is_sorted plan) plan (live plan) outs → AreOutputs plan outs kept
outputs_kept plan valid outs kept is = record {
  statements = statements_kept kept ∙ ap (map (λ c. c.0)) is ∙ statements_chosen plan valid (live plan) outs;
  each = λ k statement input count at alive unsorted.
      kept_is kept statement ∙ ap (λ found. rows_for found statement) is ∙ each_kept plan valid outs k statement input count at alive unsorted;
}
