-- An operator sees the rows of its inputs as bags, unless it hands on a list.
use Rattle.std.specs.Prelude.{◌≡◌, ◌+◌, ℕ, Bool, true, false, List, [], ◌∷◌, length, map, pos, take, codes, refl}
use Rattle.std.proofs.Common.{ap, sym, ◌∙◌, true≢false}
use Rattle.std.specs.List.{filter, flat_map, AllByRecursion}
use Rattle.std.specs.List.Sorted.{IsPermutation}
use Rattle.std.specs.Ordering.{is_lt}
use Rattle.std.proofs.lemmas.List.Sorted.{IsPermutation-append, IsPermutation-map, IsPermutation-refl, length_permutation}
use Rattle.pig_value.specs.declared.operators.Side.{Side}
use Rattle.pig_value.specs.declared.operators.Side.TheVariants as side
use Rattle.pig_value.specs.Functions.{long_of}
use Rattle.pig_value.specs.Orders.{bag_of, row_cmp}
use Rattle.pig_value.specs.Trees.{Tree, v_chars}
use Rattle.pig_value.proofs.OrderLaws.{row_total, row_same}
use Rattle.pig_value.proofs.list_laws.Bags.{bag_from_permutation, permutation_from_bag, sort-filter}
use Rattle.pig_value.proofs.list_laws.Distinct.{distinct_permuted}
use Rattle.pig_value.proofs.list_laws.Listing.{each_weaker, each_of_all, map_each}
use Rattle.pig_value.proofs.list_laws.Permutations.{IsPermutation-filter, IsPermutation-flat_map}
use Rattle.pig_typed.specs.declared.blocks.SortKey.{SortKey}
use Rattle.pig_typed.specs.Blocks.{foreach_all, foreach_rows, keys_cmp}
use Rattle.pig_typed.specs.Evaluation.{passes}
use Rattle.pig_plan.proofs.Gathered.{gathered_same}
use Rattle.pig_plan.proofs.Ordered.{keys_same, keys_total}
use Rattle.pig_plan.specs.ByKey.{cogroup_of, entries_of_input, gathered, group_of, join_of, key_of, outer_of}
use Rattle.pig_plan.specs.Laws.{Alike, hands_on}
use Rattle.pig_plan.specs.Nodes.{inputs_of, lists}
use Rattle.pig_plan.specs.Operators.{Setting, group_rows, join_rows, key_fields, keyed_entries, keys_of, limit_rows, operator_rows, rank_of, rank_rows, sort_keys_cmp, stand_before}
use Rattle.pig_plan.specs.Plans.{Keyed, PlanOp, p_load, p_filter, p_foreach, p_group_all, p_group, p_join, p_union, p_distinct, p_order, p_limit, p_store, p_assert, p_rank}

bag_same : (xs ys : List (List Tree)) → IsPermutation xs ys → bag_of xs ≡ bag_of ys
bag_same xs ys h = bag_from_permutation row_cmp row_total row_same xs ys h

permuted : (xs ys : List (List Tree)) → bag_of xs ≡ bag_of ys → IsPermutation xs ys
permuted xs ys h = permutation_from_bag row_cmp xs ys h

-- ---- ranks

module _ (keys : List SortKey) (xs ys : List (List Tree)) (h : IsPermutation xs ys) where
  before_permuted : (row : List Tree) → IsPermutation (stand_before keys xs row) (stand_before keys ys row)
  before_permuted row = IsPermutation-filter (λ other. is_lt (sort_keys_cmp keys other row)) xs ys h

  rank_same : (dense : Bool) (row : List Tree) → rank_of keys dense xs row ≡ rank_of keys dense ys row
  rank_same true row =
      ap (λ counted. long_of (pos (length counted + 1)))
      (distinct_permuted row_cmp row_total row_same (map (key_fields keys) (stand_before keys xs row)) (map (key_fields keys) (stand_before keys ys row))
      (IsPermutation-map (key_fields keys) (stand_before keys xs row) (stand_before keys ys row) (before_permuted row)))
  rank_same false row = ap (λ n. long_of (pos (n + 1))) (sym (length_permutation (stand_before keys xs row) (stand_before keys ys row) (before_permuted row)))

  ranked_same : (dense : Bool) → bag_of (rank_rows keys dense xs) ≡ bag_of (rank_rows keys dense ys)
  ranked_same dense =
      ap bag_of (map_each (λ row. rank_of keys dense xs row ∷ row) (λ row. rank_of keys dense ys row ∷ row) xs (each_of_all _ (λ row. ap (λ v. v ∷ row) (rank_same dense row)) xs))
      ∙ bag_same (map (λ row. rank_of keys dense ys row ∷ row) xs) (rank_rows keys dense ys) (IsPermutation-map (λ row. rank_of keys dense ys row ∷ row) xs ys h)

-- ---- entries

module _ (f g : ℕ → List (List Tree)) where
  abbrev AlikeAsBags : ℕ → Type 0
  AlikeAsBags i = bag_of (f i) ≡ bag_of (g i)

  entries_permuted : (i : ℕ) (inputs : List Keyed) → AllByRecursion AlikeAsBags (map (λ k. k.input) inputs) → IsPermutation (keyed_entries i inputs f) (keyed_entries i inputs g)
  entries_permuted i [] h = IsPermutation-refl []
  entries_permuted i (k ∷ inputs) h =
      IsPermutation-append (entries_of_input (λ row. key_of (keys_of k.keys row)) i (f k.input)) (entries_of_input (λ row. key_of (keys_of k.keys row)) i (g k.input))
      (keyed_entries (i + 1) inputs f) (keyed_entries (i + 1) inputs g)
      (IsPermutation-map _ (f k.input) (g k.input) (permuted (f k.input) (g k.input) h.0)) (entries_permuted (i + 1) inputs h.1)

  union_permuted : (inputs : List ℕ) → AllByRecursion AlikeAsBags inputs → IsPermutation (flat_map f inputs) (flat_map g inputs)
  union_permuted [] h = IsPermutation-refl []
  union_permuted (i ∷ inputs) h = IsPermutation-append (f i) (g i) (flat_map f inputs) (flat_map g inputs) (permuted (f i) (g i) h.0) (union_permuted inputs h.1)

  gathered_alike : (make : Tree → (ℕ → List (List Tree)) → List (List Tree)) (inputs : List Keyed) → AllByRecursion AlikeAsBags (map (λ k. k.input) inputs)
      → gathered make (keyed_entries 0 inputs f) ≡ gathered make (keyed_entries 0 inputs g)
  gathered_alike make inputs h = gathered_same make (keyed_entries 0 inputs f) (keyed_entries 0 inputs g) (entries_permuted 0 inputs h)

  group_alike : (inputs : List Keyed) → AllByRecursion AlikeAsBags (map (λ k. k.input) inputs) → group_rows inputs f ≡ group_rows inputs g
  group_alike [] h = refl
  group_alike (i ∷ []) h = gathered_alike group_of (i ∷ []) h
  group_alike (i ∷ j ∷ inputs) h = gathered_alike (cogroup_of (map (λ k. k.inner) (i ∷ j ∷ inputs)) (length (i ∷ j ∷ inputs))) (i ∷ j ∷ inputs) h

  outer_alike : (s : Side) (width : ℕ → ℕ) (a b : Keyed) (inputs : List Keyed) → AllByRecursion AlikeAsBags (map (λ k. k.input) (a ∷ b ∷ inputs))
      → gathered (outer_of s (width a.input) (width b.input)) (keyed_entries 0 (a ∷ b ∷ inputs) f) ≡ gathered (outer_of s (width a.input) (width b.input)) (keyed_entries 0 (a ∷ b ∷ inputs) g)
  outer_alike s width a b inputs h = gathered_alike (outer_of s (width a.input) (width b.input)) (a ∷ b ∷ inputs) h

  join_alike : (s : Side) (width : ℕ → ℕ) (inputs : List Keyed) → AllByRecursion AlikeAsBags (map (λ k. k.input) inputs) → join_rows s width inputs f ≡ join_rows s width inputs g
  join_alike side.Inner width inputs h = gathered_alike (join_of (length inputs)) inputs h
  join_alike side.Left width [] h = refl
  join_alike side.Right width [] h = refl
  join_alike side.Full width [] h = refl
  join_alike side.Left width (a ∷ []) h = refl
  join_alike side.Right width (a ∷ []) h = refl
  join_alike side.Full width (a ∷ []) h = refl
  join_alike side.Left width (a ∷ b ∷ inputs) h = outer_alike side.Left width a b inputs h
  join_alike side.Right width (a ∷ b ∷ inputs) h = outer_alike side.Right width a b inputs h
  join_alike side.Full width (a ∷ b ∷ inputs) h = outer_alike side.Full width a b inputs h

  -- ---- operators

  pub seen : (s : Setting) (statement : ℕ) (o : PlanOp) → hands_on s.sorted o ≡ false → AllByRecursion AlikeAsBags (inputs_of o) → operator_rows s statement o f ≡ operator_rows s statement o g
  seen s statement (p_load path delim columns) own h = refl
  seen s statement (p_filter input cond) own h =
      sort-filter row_cmp row_total (passes cond) row_same (f input) ∙ ap (filter (passes cond)) h.0 ∙ sym (sort-filter row_cmp row_total (passes cond) row_same (g input))
  seen s statement (p_foreach input block) own h =
      bag_same (foreach_all block (f input)) (foreach_all block (g input)) (IsPermutation-flat_map (foreach_rows block) (f input) (g input) (permuted (f input) (g input) h.0))
  seen s statement (p_group_all input) own h =
      ap bag_of (gathered_same group_of (entries_of_input (λ row. v_chars (codes "all")) 0 (f input)) (entries_of_input (λ row. v_chars (codes "all")) 0 (g input))
      (IsPermutation-map _ (f input) (g input) (permuted (f input) (g input) h.0)))
  seen s statement (p_group inputs) own h = ap bag_of (group_alike inputs h)
  seen s statement (p_join inputs side replicated) own h = ap bag_of (join_alike side s.width inputs h)
  seen s statement (p_union inputs) own h = bag_same (flat_map f inputs) (flat_map g inputs) (union_permuted inputs h)
  seen s statement (p_distinct input) own h = distinct_permuted row_cmp row_total row_same (f input) (g input) (permuted (f input) (g input) h.0)
  seen s statement (p_order input keys) own h = bag_from_permutation (keys_cmp keys) (keys_total keys) (keys_same keys) (f input) (g input) (permuted (f input) (g input) h.0)
  seen s statement (p_limit input count) own h =
      ap (λ b. limit_rows b count (s.kept statement) (f input)) own ∙ sym (ap (λ b. limit_rows b count (s.kept statement) (g input)) own)
  seen s statement (p_store input path delim) own h = absurd (true≢false own)
  seen s statement (p_assert input cond message) own h = absurd (true≢false own)
  seen s statement (p_rank input keys dense) own h = ranked_same keys (f input) (g input) (permuted (f input) (g input) h.0) dense

-- and the others see lists where they hand lists on
module _ (s : Setting) (listed : ℕ → Bool) (sorted_listed : (i : ℕ) → s.sorted i ≡ true → listed i ≡ true) (f g : ℕ → List (List Tree)) (statement : ℕ) where
  abbrev Both : PlanOp → Type 0
  Both o = (bag_of (operator_rows s statement o f) ≡ bag_of (operator_rows s statement o g)) × (lists s.sorted o listed ≡ true → operator_rows s statement o f ≡ operator_rows s statement o g)

  from_own : (o : PlanOp) → hands_on s.sorted o ≡ false → AllByRecursion (Alike listed f g) (inputs_of o) → Both o
  from_own o own h =
      let same : operator_rows s statement o f ≡ operator_rows s statement o g =
      seen f g s statement o own (each_weaker (Alike listed f g) (λ i. bag_of (f i) ≡ bag_of (g i)) (λ i a. a.0) (inputs_of o) h) in
      (ap bag_of same, λ e. same)

  limit_seen : (input count : ℕ) (b : Bool) → s.sorted input ≡ b → AllByRecursion (Alike listed f g) (inputs_of (p_limit input count)) → Both (p_limit input count)
  limit_seen input count true e h =
      let same : operator_rows s statement (p_limit input count) f ≡ operator_rows s statement (p_limit input count) g =
      ap (λ b. limit_rows b count (s.kept statement) (f input)) e ∙ ap (take count) (h.0.1 (sorted_listed input e)) ∙ sym (ap (λ b. limit_rows b count (s.kept statement) (g input)) e) in
      (ap bag_of same, λ i. same)
  limit_seen input count false e h = from_own (p_limit input count) e h

  pub seen_as_bags : (o : PlanOp) → AllByRecursion (Alike listed f g) (inputs_of o) → Both o
  seen_as_bags (p_load path delim columns) h = from_own (p_load path delim columns) refl h
  seen_as_bags (p_filter input cond) h = from_own (p_filter input cond) refl h
  seen_as_bags (p_foreach input block) h = from_own (p_foreach input block) refl h
  seen_as_bags (p_group_all input) h = from_own (p_group_all input) refl h
  seen_as_bags (p_group inputs) h = from_own (p_group inputs) refl h
  seen_as_bags (p_join inputs side replicated) h = from_own (p_join inputs side replicated) refl h
  seen_as_bags (p_union inputs) h = from_own (p_union inputs) refl h
  seen_as_bags (p_distinct input) h = from_own (p_distinct input) refl h
  seen_as_bags (p_order input keys) h = from_own (p_order input keys) refl h
  seen_as_bags (p_limit input count) h = limit_seen input count (s.sorted input) refl h
  seen_as_bags (p_store input path delim) h = (h.0.0, λ e. absurd (true≢false (sym e)))
  seen_as_bags (p_assert input cond message) h = (h.0.0, h.0.1)
  seen_as_bags (p_rank input keys dense) h = from_own (p_rank input keys dense) refl h
