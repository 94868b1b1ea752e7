-- The rows that come to each live node are what it means, by induction over the nodes.
use Rattle.std.specs.Prelude.{◌≡◌, ◌<◌, ◌+◌, ◌==◌, ◌||◌, ℕ, zero, suc, Bool, true, false, List, [], ◌∷◌, length, min, Option, None, Some, slice_get, refl}
use Rattle.std.proofs.Common.{inl, inr, ap, sym, ◌∙◌, arith, subst, append-nil, cond, true≢false}
use Rattle.std.specs.List.{AllByRecursion, flat_map}
use Rattle.std.specs.Option.{is_some, option_map}
use Rattle.std.proofs.lemmas.Bool.{cases_Bool, eq-eqb, eqb-true}
use Rattle.std.proofs.lemmas.List.Sorted.{length_permutation}
use Rattle.std.proofs.lemmas.Option.{slice_get_within}
use Rattle.pig_value.specs.declared.inputs.Input.{Input}
use Rattle.pig_value.specs.declared.outcomes.Kept.{Kept}
use Rattle.pig_value.specs.Orders.{bag_of, row_cmp}
use Rattle.pig_value.specs.Trees.{Tree}
use Rattle.pig_value.proofs.OrderLaws.{row_total, row_same}
use Rattle.pig_value.proofs.list_laws.Bags.{bag_from_permutation, permutation_from_bag, times_from_permutation}
use Rattle.pig_value.proofs.list_laws.Indexing.{some_at}
use Rattle.pig_value.proofs.list_laws.Permutations.{IsPermutation-flat_map}
use Rattle.pig_typed.specs.Blocks.{foreach_all, foreach_rows}
use Rattle.pig_typed.specs.Typed.{Typed, TypedBlock}
use Rattle.pig_algebra.specs.Combining.{SortedCombinersLaw}
use Rattle.pig_plan.proofs.Listed.{list_of_node, sorted_is_list}
use Rattle.pig_plan.proofs.Lower.{meaning_of_node, names_lower}
use Rattle.pig_plan.proofs.Meanings.{each_both, live_input, live_within, named_each}
use Rattle.pig_plan.proofs.Seen.{seen_as_bags}
use Rattle.pig_plan.proofs.Through.{row_step, rows_source, rows_step}
use Rattle.pig_plan.specs.Laws.{Alike}
use Rattle.pig_plan.specs.Meaning.{AreKept, IsKept, kept_at, meaning, setting}
use Rattle.pig_plan.specs.Nodes.{inputs_of, is_boundary, is_list, is_live, is_sorted, is_source, lists, names, op_at}
use Rattle.pig_plan.specs.Operators.{Setting, limit_rows, load_rows, operator_rows, rank_rows}
use Rattle.pig_plan.specs.Plans.{Plan, PlanNode, PlanOp, p_load, p_filter, p_foreach, p_group_all, p_group, p_join, p_union, p_distinct, p_order, p_limit, p_store, p_assert, p_rank}
use Rattle.pig_plan.specs.Steps.{none_folds, step_rows}
use Rattle.pig_plan.specs.Stored.{AnswersFor}
use Rattle.pig_plan.specs.Valid.{IsPlan}
use Rattle.pig_runs.specs.Cutting.{Point}
use Rattle.pig_physical.specs.Combining.{folds, groups_one}
use Rattle.pig_physical.specs.Outs.{Outs}
use Rattle.pig_physical.specs.Running.{AreOutputs, IsRun, rows_given}
use Rattle.pig_physical.specs.Stages.{Stages}
use Rattle.pig_waves.proofs.Given.{as_many}
use Rattle.pig_waves.proofs.Probing.{probes_as_many}
use Rattle.pig_waves.proofs.Ranked.{ranks_as_many}
use Rattle.pig_waves.proofs.Heads.{probes_at, stands_at}
use Rattle.pig_waves.proofs.Sources.{load_parts, outputs, rows_of_parts}
use Rattle.pig_waves.proofs.Tasks.{rows_at_node}
use Rattle.pig_waves.specs.Laws.{StandsAt}
use Rattle.pig_waves.proofs.Alone.{folds_alone}
use Rattle.pig_cutter.proofs.Boundaries.{group_all_of, group_by, join_by, once}
use Rattle.pig_waves.proofs.Folders.{none_folds_at}
use Rattle.pig_cutter.proofs.Replicated.{probed_is}
use Rattle.pig_cutter.proofs.Others.{distinct_is, limit_is, limit_keeps, order_is, rank_is}
use Rattle.pig_cutter.specs.Laws.{Answers}

abbrev Rows : Type 0
Rows = List (List Tree)

-- rows that may be kept of some rows may be kept of the same rows in another order
kept_alike : (count : ℕ) (xs ys kept : Rows) → bag_of xs ≡ bag_of ys → AreKept count xs kept → AreKept count ys kept
kept_alike count xs ys kept same h =
    let permuted = permutation_from_bag row_cmp xs ys same in
    record {
      held = λ row. let most = h.held row in let times = times_from_permutation row_cmp xs ys permuted row in omega (arith, most, times);
      size = h.size ∙ ap (min count) (sym (length_permutation xs ys permuted));
    }

abbrev is_foreach : PlanOp → Bool
is_foreach (p_foreach input block) = true
is_foreach o = false

module _ (law : SortedCombinersLaw) (s : Stages) (inputs : List Input) (kept : List Kept) (points : ℕ → List Point) (outs : Outs)
    (valid : IsPlan s.plan) (some : 0 < s.sizing.reducers) (splits : 0 < s.sizing.split)
    (run : IsRun s inputs points outs) (given : AreOutputs s.plan outs kept) where
  abbrev plan : Plan
  plan = s.plan

  abbrev rows : ℕ → Rows
  rows = rows_at_node s inputs outs

  abbrev st : Setting
  st = setting s.plan inputs kept

  abbrev meant : ℕ → Rows
  meant = meaning s.plan inputs kept

  abbrev IsMeant : ℕ → Type 0
  IsMeant k = Answers s.plan inputs kept k (rows k)

  abbrev node : PlanOp → ℕ → PlanNode
  node o statement = record { op = o; statement = statement }

  -- ---- boundary nodes

  record Found (k statement : ℕ) (o : PlanOp) : Type 0 where
    pub rows_are : rows_of_parts s inputs outs k ≡ rows_given s.plan outs k o
    pub bag : folds s.plan k ≡ None → bag_of (rows_given s.plan outs k o) ≡ bag_of (operator_rows st statement o rows)
    pub list : lists (is_sorted s.plan) o (is_list s.plan) ≡ true → rows_given s.plan outs k o ≡ operator_rows st statement o rows
    pub folded : (block : TypedBlock) → folds s.plan k ≡ Some block → bag_of (rows_given s.plan outs k o) ≡ bag_of (foreach_all block (operator_rows st statement o rows))

  never : (k : ℕ) (o : PlanOp) → op_at s.plan k ≡ Some o → groups_one o ≡ false → {G : Type 0} → (block : TypedBlock) → folds s.plan k ≡ Some block → G
  never k o at other block found = let none = none_folds_at s.plan k o at other in absurd (cc)

  limit_found : (k statement input count : ℕ) → slice_get s.plan k ≡ Some (node (p_limit input count) statement) → is_live s.plan k ≡ true
      → (at : op_at s.plan k ≡ Some (p_limit input count)) → StandsAt s k (p_limit input count) → Found k statement (p_limit input count)
  limit_found k statement input count found alive at stands = elim (cases_Bool (is_sorted s.plan input)) [
    | inl sorted ↦
        let is : rows_given s.plan outs k (p_limit input count) ≡ operator_rows st statement (p_limit input count) rows =
        limit_is s inputs points outs run some k input count at stands sorted ∙ sym (ap (λ b. limit_rows b count (kept_at kept statement) (rows input)) sorted) in
        record {
          rows_are = outputs s inputs outs k (p_limit input count) at refl (λ part. refl) (as_many s inputs points outs run k (p_limit input count) at stands);
          bag = λ none. ap bag_of is;
          list = λ e. is;
          folded = λ b is. never k (p_limit input count) at refl b is;
        }
    | inr bare ↦
        record {
          rows_are = outputs s inputs outs k (p_limit input count) at refl (λ part. refl) (as_many s inputs points outs run k (p_limit input count) at stands);
          bag = λ none.
              sym (once (rows_given s.plan outs k (p_limit input count)))
              ∙ ap (λ rs. bag_of (bag_of rs)) (sym (given.each k statement input count found alive bare))
              ∙ ap bag_of (sym (ap (λ b. limit_rows b count (kept_at kept statement) (rows input)) bare));
          list = λ e. absurd (true≢false (sym e ∙ bare));
          folded = λ b is. never k (p_limit input count) at refl b is;
        }
  ]

  boundary_found : (k statement : ℕ) (o : PlanOp) → slice_get s.plan k ≡ Some (node o statement) → is_live s.plan k ≡ true → is_boundary o ≡ true → Found k statement o
  boundary_found k statement o found alive here = by_op o found (ap (option_map (λ v. v.op)) found) here
    where
      by_op : (p : PlanOp) → slice_get s.plan k ≡ Some (node p statement) → op_at s.plan k ≡ Some p → is_boundary p ≡ true → Found k statement p
      by_op (p_group_all input) is at bounds =
          let stands = stands_at s k (p_group_all input) at alive bounds refl in
          let are = group_all_of law s inputs kept points outs run some k statement input at stands in
          record {
            rows_are = outputs s inputs outs k (p_group_all input) at refl (λ part. refl) (as_many s inputs points outs run k (p_group_all input) at stands);
            bag = are.bag;
            list = λ e. absurd (true≢false (sym e));
            folded = are.folded;
          }
      by_op (p_group keyed) is at bounds =
          let stands = stands_at s k (p_group keyed) at alive bounds refl in
          let are = group_by law s inputs kept points outs run some k statement keyed at stands in
          record {
            rows_are = outputs s inputs outs k (p_group keyed) at refl (λ part. refl) (as_many s inputs points outs run k (p_group keyed) at stands);
            bag = are.bag;
            list = λ e. absurd (true≢false (sym e));
            folded = are.folded;
          }
      by_op (p_join keyed side true) is at bounds =
          let stands = probes_at s k (p_join keyed side true) at alive refl in
          record {
            rows_are = outputs s inputs outs k (p_join keyed side true) at refl (λ part. refl) (probes_as_many s inputs points outs run k keyed side at stands valid);
            bag = λ none. probed_is s inputs kept points outs valid run k statement keyed side is at stands;
            list = λ e. absurd (true≢false (sym e));
            folded = λ b is. never k (p_join keyed side true) at refl b is;
          }
      by_op (p_join keyed side false) is at bounds =
          let stands = stands_at s k (p_join keyed side false) at alive bounds refl in
          let are = join_by law s inputs kept points outs run some k statement keyed side at stands in
          record {
            rows_are = outputs s inputs outs k (p_join keyed side false) at refl (λ part. refl) (as_many s inputs points outs run k (p_join keyed side false) at stands);
            bag = are.bag;
            list = λ e. absurd (true≢false (sym e));
            folded = are.folded;
          }
      by_op (p_distinct input) is at bounds =
          let stands = stands_at s k (p_distinct input) at alive bounds refl in
          record {
            rows_are = outputs s inputs outs k (p_distinct input) at refl (λ part. refl) (as_many s inputs points outs run k (p_distinct input) at stands);
            bag = λ none. distinct_is s inputs points outs run some k input at stands;
            list = λ e. absurd (true≢false (sym e));
            folded = λ b is. never k (p_distinct input) at refl b is;
          }
      by_op (p_order input keys) is at bounds =
          let stands = stands_at s k (p_order input keys) at alive bounds refl in
          let sorted = order_is s inputs points outs run some k input keys at alive stands in
          record {
            rows_are = outputs s inputs outs k (p_order input keys) at refl (λ part. refl) (as_many s inputs points outs run k (p_order input keys) at stands);
            bag = λ none. ap bag_of sorted;
            list = λ e. sorted;
            folded = λ b is. never k (p_order input keys) at refl b is;
          }
      by_op (p_limit input count) is at bounds = limit_found k statement input count is alive at (stands_at s k (p_limit input count) at alive bounds refl)
      by_op (p_rank input keys dense) is at bounds =
          let stands = stands_at s k (p_rank input keys dense) at alive bounds refl in
          let ranked = rank_is s inputs points outs run some k input keys dense at alive stands in
          record {
            rows_are = outputs s inputs outs k (p_rank input keys dense) at refl (λ part. refl) (ranks_as_many s inputs points outs run k input keys dense at stands);
            bag = λ none. ranked ∙ sym (once (rank_rows keys dense (rows input)));
            list = λ e. absurd (true≢false (sym e));
            folded = λ b is. never k (p_rank input keys dense) at refl b is;
          }
      by_op (p_load path delim columns) is at bounds = absurd (true≢false (sym bounds))
      by_op (p_filter input test) is at bounds = absurd (true≢false (sym bounds))
      by_op (p_foreach input block) is at bounds = absurd (true≢false (sym bounds))
      by_op (p_union numbers) is at bounds = absurd (true≢false (sym bounds))
      by_op (p_store input path delim) is at bounds = absurd (true≢false (sym bounds))
      by_op (p_assert input test message) is at bounds = absurd (true≢false (sym bounds))

  -- ---- all nodes, by those before them

  module _ (k : ℕ) (v : PlanNode) (at : slice_get s.plan k ≡ Some v) (alive : is_live s.plan k ≡ true) (lower : (i : ℕ) → i < k → is_live s.plan i ≡ true → IsMeant i) where
    own : op_at s.plan k ≡ Some v.op
    own = ap (option_map (λ n. n.op)) at

    short : k < length s.plan
    short = slice_get_within s.plan k v at

    -- the rows that come to the inputs are what these mean, where none of them folds
    inputs_alike : ((i : ℕ) → names v.op i ≡ true → folds s.plan i ≡ None) → AllByRecursion (Alike (is_list s.plan) rows meant) (inputs_of v.op)
    inputs_alike unfolded =
        each_both (λ i. i < k) (λ i. names v.op i ≡ true) (Alike (is_list s.plan) rows meant)
        (λ i less name.
        let found = some_at s.plan i (omega (arith, less, short)) in
        let is = lower i less (live_input s.plan k v at alive i less found.0 found.1 name) in
        (is.bag (unfolded i name), is.list (unfolded i name)))
        (inputs_of v.op) (names_lower s.plan valid k v at) (named_each (inputs_of v.op) (inputs_of v.op) (λ i h. h))

    no_other : is_foreach v.op ≡ false → (i : ℕ) → names v.op i ≡ true → folds s.plan i ≡ None
    no_other other i name = by_fold (folds s.plan i) refl
      where
        by_fold : (f : Option TypedBlock) → folds s.plan i ≡ f → f ≡ None
        by_fold None e = refl
        by_fold (Some block) e = absurd (true≢false (ap is_foreach (sym (folds_alone s.plan i block e k v at alive name)) ∙ other))

    seen_alike : ((i : ℕ) → names v.op i ≡ true → folds s.plan i ≡ None)
        → (bag_of (operator_rows st v.statement v.op rows) ≡ bag_of (operator_rows st v.statement v.op meant))
        × (lists (is_sorted s.plan) v.op (is_list s.plan) ≡ true → operator_rows st v.statement v.op rows ≡ operator_rows st v.statement v.op meant)
    seen_alike unfolded = seen_as_bags st (is_list s.plan) (sorted_is_list s.plan valid) rows meant v.statement v.op (inputs_alike unfolded)

    is_meaning : meant k ≡ operator_rows st v.statement v.op meant
    is_meaning = meaning_of_node s.plan inputs kept valid k v at

    -- nodes that work row by row
    row_wise : is_source v.op ≡ false → ((i : ℕ) → names v.op i ≡ true → folds s.plan i ≡ None) → ((rs : Rows) → step_rows (folds s.plan) v.op rs ≡ step_rows none_folds v.op rs) → bag_of (rows k) ≡ bag_of (meant k)
    row_wise by_row unfolded same =
        ap bag_of (rows_step (folds s.plan) s.plan (rows_of_parts s inputs outs) valid k v at by_row ∙ same (flat_map rows (inputs_of v.op)))
        ∙ row_step st v.statement v.op by_row rows
        ∙ (seen_alike unfolded).0
        ∙ ap bag_of (sym is_meaning)

    listed : is_list s.plan k ≡ true → lists (is_sorted s.plan) v.op (is_list s.plan) ≡ true
    listed e = sym (list_of_node s.plan valid k v at) ∙ e

    -- boundary nodes
    boundary : is_boundary v.op ≡ true → is_source v.op ≡ true → is_foreach v.op ≡ false → IsMeant k
    boundary bounds source other =
        let found = boundary_found k v.statement v.op at alive bounds in
        let come : rows k ≡ rows_given s.plan outs k v.op = rows_source (folds s.plan) s.plan (rows_of_parts s inputs outs) valid k v at source ∙ found.rows_are in
        let both = seen_alike (no_other other) in
        record {
          bag = λ none. ap bag_of come ∙ found.bag none ∙ both.0 ∙ ap bag_of (sym is_meaning);
          list = λ none e. come ∙ found.list (listed e) ∙ both.1 (listed e) ∙ sym is_meaning;
          folded = λ block is.
              ap bag_of come ∙ found.folded block is
              ∙ foreach_alike block (operator_rows st v.statement v.op rows) (operator_rows st v.statement v.op meant) both.0
              ∙ ap (λ rs. bag_of (foreach_all block rs)) (sym is_meaning);
        }
      where
        foreach_alike : (block : TypedBlock) (xs ys : Rows) → bag_of xs ≡ bag_of ys → bag_of (foreach_all block xs) ≡ bag_of (foreach_all block ys)
        foreach_alike block xs ys same =
            bag_from_permutation row_cmp row_total row_same (foreach_all block xs) (foreach_all block ys)
            (IsPermutation-flat_map (foreach_rows block) xs ys (permutation_from_bag row_cmp xs ys same))

  -- a node whose operator makes no list is none
  unlisted : (k : ℕ) (v : PlanNode) → slice_get s.plan k ≡ Some v → lists (is_sorted s.plan) v.op (is_list s.plan) ≡ false → is_list s.plan k ≡ true → {G : Type 0} → G
  unlisted k v at none e = absurd (true≢false (sym e ∙ list_of_node s.plan valid k v at ∙ none))

  -- a FOREACH on a GROUP that folds hands its rows on
  folded_foreach : (k statement input : ℕ) (block : TypedBlock) (at : slice_get s.plan k ≡ Some (node (p_foreach input block) statement)) → is_live s.plan k ≡ true
      → IsMeant input → (b : TypedBlock) → folds s.plan input ≡ Some b → IsMeant k
  folded_foreach k statement input block at alive before b folding =
      let v : PlanNode = node (p_foreach input block) statement in
      let itself : (input == input) ≡ true = eq-eqb input input refl in
      let named : names v.op input ≡ true = ap (λ t. t || false) itself in
      let same : p_foreach input block ≡ p_foreach input b = folds_alone s.plan input b folding k v at alive named in
      let come : rows k ≡ rows input =
      rows_step (folds s.plan) s.plan (rows_of_parts s inputs outs) valid k v at refl
      ∙ ap (λ f. cond (is_some f) (flat_map rows (input ∷ [])) (foreach_all block (flat_map rows (input ∷ [])))) folding ∙ append-nil (rows input) in
      record {
        bag = λ none.
            ap bag_of come ∙ before.folded b folding
            ∙ sym (once (foreach_all b (meant input)))
            ∙ ap (λ o. bag_of (operator_rows st statement o meant)) (sym same)
            ∙ ap bag_of (sym (meaning_of_node s.plan inputs kept valid k v at));
        list = λ none e. unlisted k v at refl e;
        folded = λ b is. never k (p_foreach input block) (ap (option_map (λ n. n.op)) at) refl b is;
      }

  node_is : (k statement : ℕ) (o : PlanOp) → slice_get s.plan k ≡ Some (node o statement) → is_live s.plan k ≡ true → ((i : ℕ) → i < k → is_live s.plan i ≡ true → IsMeant i) → IsMeant k
  node_is k statement (p_load path delim columns) at alive lower =
      let v : PlanNode = node (p_load path delim columns) statement in
      let come : rows k ≡ load_rows inputs path delim columns =
      rows_source (folds s.plan) s.plan (rows_of_parts s inputs outs) valid k v at refl
      ∙ load_parts s inputs outs k path delim columns (ap (option_map (λ n. n.op)) at) splits (run.sizes k statement delim path columns at alive) in
      record {
        bag = λ none. ap bag_of come ∙ sym (once (load_rows inputs path delim columns)) ∙ ap bag_of (sym (meaning_of_node s.plan inputs kept valid k v at));
        list = λ none e. unlisted k v at refl e;
        folded = λ b is. never k (p_load path delim columns) (ap (option_map (λ n. n.op)) at) refl b is;
      }
  node_is k statement (p_filter input test) at alive lower =
      let v : PlanNode = node (p_filter input test) statement in
      record {
        bag = λ none. row_wise k v at alive lower refl (no_other k v at alive lower refl) (λ rs. refl);
        list = λ none e. unlisted k v at refl e;
        folded = λ b is. never k (p_filter input test) (ap (option_map (λ n. n.op)) at) refl b is;
      }
  node_is k statement (p_foreach input block) at alive lower = by_fold (folds s.plan input) refl
    where
      v : PlanNode
      v = node (p_foreach input block) statement

      only_input : (i : ℕ) → names v.op i ≡ true → i ≡ input
      only_input i h = by_test (input == i) refl h
        where
          by_test : (b : Bool) → (input == i) ≡ b → (b || false) ≡ true → i ≡ input
          by_test true e g = sym (eqb-true input i e)
          by_test false e g = absurd (true≢false (sym g))

      below : input < k
      below = (names_lower s.plan valid k v at).0

      before : IsMeant input
      before =
          let found = some_at s.plan input (let short = slice_get_within s.plan k v at in omega (arith, below, short)) in
          let itself : (input == input) ≡ true = eq-eqb input input refl in
          lower input below (live_input s.plan k v at alive input below found.0 found.1 (ap (λ t. t || false) itself))

      by_fold : (f : Option TypedBlock) → folds s.plan input ≡ f → IsMeant k
      by_fold (Some b) e = folded_foreach k statement input block at alive before b e
      by_fold None e = record {
        bag = λ none.
            row_wise k v at alive lower refl (λ i name. ap (folds s.plan) (only_input i name) ∙ e)
            (λ rs. ap (λ f. cond (is_some f) rs (foreach_all block rs)) e);
        list = λ none is. unlisted k v at refl is;
        folded = λ b is. never k (p_foreach input block) (ap (option_map (λ n. n.op)) at) refl b is;
      }
  node_is k statement (p_union numbers) at alive lower =
      let v : PlanNode = node (p_union numbers) statement in
      record {
        bag = λ none. row_wise k v at alive lower refl (no_other k v at alive lower refl) (λ rs. refl);
        list = λ none e. unlisted k v at refl e;
        folded = λ b is. never k (p_union numbers) (ap (option_map (λ n. n.op)) at) refl b is;
      }
  node_is k statement (p_store input path delim) at alive lower =
      let v : PlanNode = node (p_store input path delim) statement in
      record {
        bag = λ none. row_wise k v at alive lower refl (no_other k v at alive lower refl) (λ rs. refl);
        list = λ none e. unlisted k v at refl e;
        folded = λ b is. never k (p_store input path delim) (ap (option_map (λ n. n.op)) at) refl b is;
      }
  node_is k statement (p_assert input test message) at alive lower =
      let v : PlanNode = node (p_assert input test message) statement in
      let unfolded = no_other k v at alive lower refl in
      record {
        bag = λ none. row_wise k v at alive lower refl unfolded (λ rs. refl);
        list = λ none e.
            rows_step (folds s.plan) s.plan (rows_of_parts s inputs outs) valid k v at refl ∙ append-nil (rows input)
            ∙ (seen_alike k v at alive lower unfolded).1 (listed k v at alive lower e)
            ∙ sym (meaning_of_node s.plan inputs kept valid k v at);
        folded = λ b is. never k (p_assert input test message) (ap (option_map (λ n. n.op)) at) refl b is;
      }
  node_is k statement (p_group_all input) at alive lower = boundary k (node (p_group_all input) statement) at alive lower refl refl refl
  node_is k statement (p_group keyed) at alive lower = boundary k (node (p_group keyed) statement) at alive lower refl refl refl
  node_is k statement (p_join keyed side replicated) at alive lower = boundary k (node (p_join keyed side replicated) statement) at alive lower refl refl refl
  node_is k statement (p_distinct input) at alive lower = boundary k (node (p_distinct input) statement) at alive lower refl refl refl
  node_is k statement (p_order input keys) at alive lower = boundary k (node (p_order input keys) statement) at alive lower refl refl refl
  node_is k statement (p_limit input count) at alive lower = boundary k (node (p_limit input count) statement) at alive lower refl refl refl
  node_is k statement (p_rank input keys dense) at alive lower = boundary k (node (p_rank input keys dense) statement) at alive lower refl refl refl

  all_meant : (n k : ℕ) → k < n → is_live s.plan k ≡ true → IsMeant k
  all_meant zero k below alive = absurd (omega (arith, below))
  all_meant (suc n) k below alive =
      let found = some_at s.plan k (live_within s.plan k alive) in
      node_is k found.0.statement found.0.op found.1 alive (λ i less live_too. all_meant n i (omega (arith, less, below)) live_too)

  pub rows_meant : (k : ℕ) → is_live s.plan k ≡ true → Answers s.plan inputs kept k (rows k)
  rows_meant k alive = all_meant (k + 1) k (omega arith) alive

  -- a boundary node's outputs are the rows that come from it
  pub given_meant : (k : ℕ) (v : PlanNode) → slice_get s.plan k ≡ Some v → is_live s.plan k ≡ true → is_boundary v.op ≡ true → Answers s.plan inputs kept k (rows_given s.plan outs k v.op)
  given_meant k v at alive bounds =
      let found = boundary_found k v.statement v.op at alive bounds in
      subst (Answers s.plan inputs kept k) (rows_source (folds s.plan) s.plan (rows_of_parts s inputs outs) valid k v at (bounds_source v.op bounds) ∙ found.rows_are) (rows_meant k alive)
    where
      bounds_source : (o : PlanOp) → is_boundary o ≡ true → is_source o ≡ true
      bounds_source (p_load path delim columns) h = refl
      bounds_source (p_filter input test) h = h
      bounds_source (p_foreach input block) h = h
      bounds_source (p_group_all input) h = h
      bounds_source (p_group keyed) h = h
      bounds_source (p_join keyed side replicated) h = h
      bounds_source (p_union numbers) h = h
      bounds_source (p_distinct input) h = h
      bounds_source (p_order input keys) h = h
      bounds_source (p_limit input count) h = h
      bounds_source (p_store input path delim) h = h
      bounds_source (p_assert input test message) h = h
      bounds_source (p_rank input keys dense) h = h

  -- what was kept is valid
  pub kept_valid : IsKept s.plan inputs kept
  kept_valid = record {
    entries = given.statements;
    each = λ k statement input count at alive bare.
        let v : PlanNode = node (p_limit input count) statement in
        let own : op_at s.plan k ≡ Some (p_limit input count) = ap (option_map (λ n. n.op)) at in
        let itself : (input == input) ≡ true = eq-eqb input input refl in
        let named : names v.op input ≡ true = ap (λ t. t || false) itself in
        let below : input < k = (names_lower s.plan valid k v at).0 in
        let found = some_at s.plan input (let short = slice_get_within s.plan k v at in omega (arith, below, short)) in
        let is = rows_meant input (live_input s.plan k v at alive input below found.0 found.1 named) in
        let unfolded = no_other k v at alive (λ i less live_too. rows_meant i live_too) refl input named in
        kept_alike count (rows input) (meant input) (kept_at kept statement) (is.bag unfolded)
        (subst (AreKept count (rows input)) (sym (given.each k statement input count at alive bare))
        (limit_keeps s inputs points outs run some k input count own (stands_at s k (p_limit input count) own alive refl refl) bare));
  }

  -- what comes to a STORE answers for the relation that it stores
  pub store_answers : (k statement input delim : ℕ) (path : List ℕ) → slice_get s.plan k ≡ Some (node (p_store input path delim) statement) → is_live s.plan k ≡ true
      → AnswersFor s.plan inputs kept input (rows k)
  store_answers k statement input delim path at alive =
      let v : PlanNode = node (p_store input path delim) statement in
      let itself : (input == input) ≡ true = eq-eqb input input refl in
      let named : names v.op input ≡ true = ap (λ t. t || false) itself in
      let below : input < k = (names_lower s.plan valid k v at).0 in
      let found = some_at s.plan input (let short = slice_get_within s.plan k v at in omega (arith, below, short)) in
      let is = rows_meant input (live_input s.plan k v at alive input below found.0 found.1 named) in
      let unfolded = no_other k v at alive (λ i less live_too. rows_meant i live_too) refl input named in
      let come : rows k ≡ rows input = rows_step (folds s.plan) s.plan (rows_of_parts s inputs outs) valid k v at refl ∙ append-nil (rows input) in
      record { bag = ap bag_of come ∙ is.bag unfolded; list = λ listed. come ∙ is.list unfolded listed }

  -- and to an ASSERT come its input's rows
  pub assert_rows : (k statement input : ℕ) (test : Typed) (message : Option (List ℕ)) → slice_get s.plan k ≡ Some (node (p_assert input test message) statement) → is_live s.plan k ≡ true
      → bag_of (rows input) ≡ bag_of (meant input)
  assert_rows k statement input test message at alive =
      let v : PlanNode = node (p_assert input test message) statement in
      let itself : (input == input) ≡ true = eq-eqb input input refl in
      let named : names v.op input ≡ true = ap (λ t. t || false) itself in
      let below : input < k = (names_lower s.plan valid k v at).0 in
      let found = some_at s.plan input (let short = slice_get_within s.plan k v at in omega (arith, below, short)) in
      (rows_meant input (live_input s.plan k v at alive input below found.0 found.1 named)).bag (no_other k v at alive (λ i less live_too. rows_meant i live_too) refl input named)
