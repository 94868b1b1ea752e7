-- A plan that shares nodes: the node that stands for one is what that one was.
use Rattle.std.specs.Prelude.{◌≡◌, ◌<◌, ℕ, zero, suc, Bool, true, List, [], map, length, take, Some, None, slice_get, refl}
use Rattle.std.proofs.Common.{ap, sym, ◌∙◌, subst, arith, true≢false}
use Rattle.std.specs.List.{AllByRecursion}
use Rattle.std.specs.Option.{option_map, option_map_or, unwrap_or}
use Rattle.std.proofs.lemmas.Option.{slice_get_within}
use Rattle.pig_value.proofs.list_laws.Indexing.{get_map, some_at}
use Rattle.pig_value.proofs.list_laws.Listing.{each_weaker, some_same}
use Rattle.pig_value.specs.declared.inputs.Input.{Input}
use Rattle.pig_value.specs.declared.outcomes.Kept.{Kept}
use Rattle.pig_plan.proofs.Listed.{list_of_node, sorted_of_node}
use Rattle.pig_plan.proofs.Living.{each_mapped}
use Rattle.pig_plan.proofs.Lower.{meaning_of_node, names_lower}
use Rattle.pig_plan.proofs.Meanings.{each_both}
use Rattle.pig_plan.proofs.Unfolds.{before_is, result_before}
use Rattle.pig_plan.specs.Meaning.{kept_at, meaning, width_at}
use Rattle.pig_plan.specs.NodeKinds.{kinds_at, kinds_step}
use Rattle.pig_plan.specs.Nodes.{inputs_of, is_bare, is_list, is_sorted}
use Rattle.pig_plan.specs.Plans.{Plan, PlanNode, PlanOp, p_load, p_filter, p_foreach, p_group_all, p_group, p_join, p_union, p_distinct, p_order, p_limit, p_store, p_assert, p_rank}
use Rattle.pig_plan.specs.Renumbered.{IsSame, rename, renamed}
use Rattle.pig_plan.specs.Results.{at_place, results}
use Rattle.pig_plan.specs.Valid.{IsPlan, in_order}
use Rattle.pig_share.specs.Shared.{IsNamedBy, apart_in, is_apart}
use Rattle.pig_plan.proofs.Renumbering.{gives_moved, inputs_renamed, lists_moved, rows_moved, sorts_moved}

-- what stays apart has its own statement
pub bare_apart : (ordered : Bool) (sorted : ℕ → Bool) (o : PlanOp) → is_bare sorted o ≡ true → is_apart ordered sorted o ≡ true
bare_apart ordered sorted (p_limit input count) h = h
bare_apart ordered sorted (p_store input path delim) h = refl
bare_apart ordered sorted (p_assert input cond message) h = absurd (true≢false (sym h))
bare_apart ordered sorted (p_load path delim columns) h = h
bare_apart ordered sorted (p_filter input cond) h = h
bare_apart ordered sorted (p_foreach input block) h = h
bare_apart ordered sorted (p_group_all input) h = h
bare_apart ordered sorted (p_group inputs) h = h
bare_apart ordered sorted (p_join inputs side replicated) h = h
bare_apart ordered sorted (p_union inputs) h = h
bare_apart ordered sorted (p_distinct input) h = h
bare_apart ordered sorted (p_order input keys) h = h
bare_apart ordered sorted (p_rank input keys dense) h = h

module _ (p : Plan) (at : ℕ → ℕ) (valid : IsPlan p) (valid_q : IsPlan (map (renamed at) p)) (named : (k : ℕ) (v : PlanNode) → slice_get p k ≡ Some v → IsNamedBy p at k v) where
  abbrev pub q : Plan
  q = map (renamed at) p

  pub there : (k : ℕ) (v : PlanNode) → slice_get p k ≡ Some v → slice_get q k ≡ Some (renamed at v)
  there k v stands = get_map (renamed at) p k ∙ ap (option_map (renamed at)) stands

  -- the node that stands for another does the same
  abbrev pub with_op : PlanOp → ℕ → PlanNode
  with_op o statement = record { op = o; statement = statement }

  pub first_there : (k : ℕ) (v : PlanNode) (stands : slice_get p k ≡ Some v) → slice_get q (at k) ≡ Some (with_op (rename at v.op) (named k v stands).first.statement)
  first_there k v stands =
      let by : IsNamedBy p at k v = named k v stands in
      there (at k) by.first by.stands ∙ ap (λ o. Some (with_op o by.first.statement)) by.same

  pub its_own : (k : ℕ) (v : PlanNode) (stands : slice_get p k ≡ Some v) → apart_in p v.op ≡ true → (named k v stands).first ≡ v
  its_own k v stands apart =
      let by : IsNamedBy p at k v = named k v stands in
      some_same by.first v (sym by.stands ∙ ap (slice_get p) (by.apart apart) ∙ stands)

  -- inputs stand before, in both plans
  pub inputs_before : (k : ℕ) (v : PlanNode) (stands : slice_get p k ≡ Some v) → AllByRecursion (λ i. at i < at k) (inputs_of v.op)
  inputs_before k v stands =
      each_mapped (λ i. i < at k) at (inputs_of v.op)
      (subst (AllByRecursion (λ i. i < at k)) (inputs_renamed at v.op) (names_lower q valid_q (at k) (with_op (rename at v.op) (named k v stands).first.statement) (first_there k v stands)))

  -- ---- kinds

  kinds_of : (k : ℕ) (v : PlanNode) → slice_get p k ≡ Some v → AllByRecursion (λ i. kinds_at q (at i) ≡ kinds_at p i) (inputs_of v.op) → kinds_at q (at k) ≡ kinds_at p k
  kinds_of k v stands same =
      let one = each_both (λ i. i < k) (λ i. kinds_at q (at i) ≡ kinds_at p i) (λ i. (i < k) × (kinds_at q (at i) ≡ kinds_at p i)) (λ i a b. (a, b)) (inputs_of v.op) (names_lower p valid k v stands) same in
      let all : AllByRecursion (λ i. at_place None (take (at k) (results kinds_step None q)) (at i) ≡ at_place None (take k (results kinds_step None p)) i) (inputs_of v.op) =
      each_both (λ i. at i < at k) (λ i. (i < k) × (kinds_at q (at i) ≡ kinds_at p i))
      (λ i. at_place None (take (at k) (results kinds_step None q)) (at i) ≡ at_place None (take k (results kinds_step None p)) i)
      (λ i a b. before_is kinds_step None q (at k) (at i) a ∙ b.1 ∙ sym (before_is kinds_step None p k i b.0)) (inputs_of v.op) (inputs_before k v stands) one in
      result_before kinds_step None q (at k) (with_op (rename at v.op) (named k v stands).first.statement) (first_there k v stands)
      ∙ ap (λ o. unwrap_or o None) (gives_moved at (at_place None (take (at k) (results kinds_step None q))) (at_place None (take k (results kinds_step None p))) v.op all)
      ∙ sym (result_before kinds_step None p k v stands)

  -- ---- all that a node is

  module _ (inputs : List Input) (kept : List Kept) where
    abbrev pub Same : ℕ → Type 0
    Same i = IsSame p q at inputs kept i

    node_same : (k : ℕ) (v : PlanNode) → slice_get p k ≡ Some v → ((i : ℕ) → i < k → Same i) → Same k
    node_same k v stands lower =
        let w : PlanNode = with_op (rename at v.op) (named k v stands).first.statement in
        let is_there : slice_get q (at k) ≡ Some w = first_there k v stands in
        let all : AllByRecursion Same (inputs_of v.op) = each_weaker (λ i. i < k) Same lower (inputs_of v.op) (names_lower p valid k v stands) in
        record {
          kinds = kinds_of k v stands (each_weaker Same (λ i. kinds_at q (at i) ≡ kinds_at p i) (λ i s. s.kinds) (inputs_of v.op) all);
          sorted = sorted_of_node q valid_q (at k) w is_there
              ∙ sorts_moved at (is_sorted q) (is_sorted p) v.op (each_weaker Same (λ i. is_sorted q (at i) ≡ is_sorted p i) (λ i s. s.sorted) (inputs_of v.op) all)
              ∙ sym (sorted_of_node p valid k v stands);
          rows = meaning_of_node q inputs kept valid_q (at k) w is_there
              ∙ rows_moved at inputs (kept_at kept) (width_at q) (width_at p) (is_sorted q) (is_sorted p) (meaning q inputs kept) (meaning p inputs kept) w.statement v.statement v.op
              (λ bare. ap (λ n. n.statement) (its_own k v stands (bare_apart (in_order p) (is_sorted p) v.op bare)))
              (each_weaker Same _ (λ i s. record { width = ap (λ o. option_map_or length o 0) s.kinds; sorted = s.sorted; rows = s.rows }) (inputs_of v.op) all)
              ∙ sym (meaning_of_node p inputs kept valid k v stands);
        }

    up_to : (n k : ℕ) (v : PlanNode) → k < n → slice_get p k ≡ Some v → Same k
    up_to zero k v below stands = absurd (omega (arith, below))
    up_to (suc n) k v below stands = node_same k v stands (λ i lower.
        let within : k < length p = slice_get_within p k v stands in
        let found = some_at p i (omega (arith, lower, within)) in
        up_to n i found.0 (omega (arith, lower, below)) found.1)

    pub same_at : (k : ℕ) (v : PlanNode) → slice_get p k ≡ Some v → Same k
    same_at k v stands = up_to (suc k) k v (omega arith) stands

  -- ---- whether it is a list

  list_same : (k : ℕ) (v : PlanNode) → slice_get p k ≡ Some v → ((i : ℕ) → i < k → (is_sorted q (at i) ≡ is_sorted p i) × (is_list q (at i) ≡ is_list p i)) → is_list q (at k) ≡ is_list p k
  list_same k v stands lower =
      let all : AllByRecursion (λ i. (is_sorted q (at i) ≡ is_sorted p i) × (is_list q (at i) ≡ is_list p i)) (inputs_of v.op) =
      each_weaker (λ i. i < k) (λ i. (is_sorted q (at i) ≡ is_sorted p i) × (is_list q (at i) ≡ is_list p i)) lower (inputs_of v.op) (names_lower p valid k v stands) in
      list_of_node q valid_q (at k) (with_op (rename at v.op) (named k v stands).first.statement) (first_there k v stands)
      ∙ lists_moved at (is_list q) (is_list p) (is_sorted q) (is_sorted p) v.op
      (each_weaker (λ i. (is_sorted q (at i) ≡ is_sorted p i) × (is_list q (at i) ≡ is_list p i)) (λ i. is_sorted q (at i) ≡ is_sorted p i) (λ i s. s.0) (inputs_of v.op) all)
      (each_weaker (λ i. (is_sorted q (at i) ≡ is_sorted p i) × (is_list q (at i) ≡ is_list p i)) (λ i. is_list q (at i) ≡ is_list p i) (λ i s. s.1) (inputs_of v.op) all)
      ∙ sym (list_of_node p valid k v stands)

  lists_up_to : (n k : ℕ) (v : PlanNode) → k < n → slice_get p k ≡ Some v → is_list q (at k) ≡ is_list p k
  lists_up_to zero k v below stands = absurd (omega (arith, below))
  lists_up_to (suc n) k v below stands = list_same k v stands (λ i lower.
      let within : k < length p = slice_get_within p k v stands in
      let found = some_at p i (omega (arith, lower, within)) in
      ((same_at [] [] i found.0 found.1).sorted, lists_up_to n i found.0 (omega (arith, lower, below)) found.1))

  pub lists_at : (k : ℕ) (v : PlanNode) → slice_get p k ≡ Some v → is_list q (at k) ≡ is_list p k
  lists_at k v stands = lists_up_to (suc k) k v (omega arith) stands
