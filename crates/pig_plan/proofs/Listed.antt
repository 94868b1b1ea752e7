-- A sorted node is a list.
use Rattle.std.specs.Prelude.{◌≡◌, ◌<◌, ◌+◌, ℕ, Bool, true, false, List, [], ◌∷◌, length, Some, slice_get, refl}
use Rattle.std.proofs.Common.{sym, ◌∙◌, arith, suc, zero, true≢false}
use Rattle.std.specs.List.{AllByRecursion}
use Rattle.pig_value.proofs.list_laws.Indexing.{some_at}
use Rattle.pig_value.proofs.list_laws.Listing.{each_weaker}
use Rattle.pig_plan.proofs.Lower.{names_lower}
use Rattle.pig_plan.proofs.Unfolds.{length-results, result_is}
use Rattle.pig_plan.specs.Nodes.{inputs_of, is_list, is_sorted, lists, sorts}
use Rattle.pig_plan.specs.Plans.{Plan, PlanNode, PlanOp, p_load, p_filter, p_foreach, p_group_all, p_group, p_join, p_union, p_distinct, p_order, p_limit, p_store, p_assert, p_rank}
use Rattle.pig_plan.specs.Results.{at_place, results}
use Rattle.pig_plan.specs.Valid.{IsPlan}

-- what is true of a place is true of one within the list
true_within : (found : List Bool) (k : ℕ) → at_place false found k ≡ true → k < length found
true_within [] k h = absurd (true≢false (sym h))
true_within (b ∷ found) zero h = omega (arith)
true_within (b ∷ found) (suc k) h = let within = true_within found k h in omega (arith, within)

module _ (f g : ℕ → Bool) where
  sorts_looks : (o : PlanOp) → AllByRecursion (λ i. f i ≡ g i) (inputs_of o) → sorts o f ≡ sorts o g
  sorts_looks (p_order input keys) h = refl
  sorts_looks (p_assert input cond message) h = h.0
  sorts_looks (p_load path delim columns) h = refl
  sorts_looks (p_filter input cond) h = refl
  sorts_looks (p_foreach input block) h = refl
  sorts_looks (p_group_all input) h = refl
  sorts_looks (p_group inputs) h = refl
  sorts_looks (p_join inputs side replicated) h = refl
  sorts_looks (p_union inputs) h = refl
  sorts_looks (p_distinct input) h = refl
  sorts_looks (p_limit input count) h = refl
  sorts_looks (p_store input path delim) h = refl
  sorts_looks (p_rank input keys dense) h = refl

  lists_looks : (sorted : ℕ → Bool) (o : PlanOp) → AllByRecursion (λ i. f i ≡ g i) (inputs_of o) → lists sorted o f ≡ lists sorted o g
  lists_looks sorted (p_order input keys) h = refl
  lists_looks sorted (p_assert input cond message) h = h.0
  lists_looks sorted (p_load path delim columns) h = refl
  lists_looks sorted (p_filter input cond) h = refl
  lists_looks sorted (p_foreach input block) h = refl
  lists_looks sorted (p_group_all input) h = refl
  lists_looks sorted (p_group inputs) h = refl
  lists_looks sorted (p_join inputs side replicated) h = refl
  lists_looks sorted (p_union inputs) h = refl
  lists_looks sorted (p_distinct input) h = refl
  lists_looks sorted (p_limit input count) h = refl
  lists_looks sorted (p_store input path delim) h = refl
  lists_looks sorted (p_rank input keys dense) h = refl

-- of an operator that sorts where its sorted inputs are lists
sorts_lists : (sorted listed : ℕ → Bool) (o : PlanOp) → AllByRecursion (λ i. sorted i ≡ true → listed i ≡ true) (inputs_of o) → sorts o sorted ≡ true → lists sorted o listed ≡ true
sorts_lists sorted listed (p_order input keys) h e = refl
sorts_lists sorted listed (p_assert input cond message) h e = h.0 e
sorts_lists sorted listed (p_load path delim columns) h e = absurd (true≢false (sym e))
sorts_lists sorted listed (p_filter input cond) h e = absurd (true≢false (sym e))
sorts_lists sorted listed (p_foreach input block) h e = absurd (true≢false (sym e))
sorts_lists sorted listed (p_group_all input) h e = absurd (true≢false (sym e))
sorts_lists sorted listed (p_group inputs) h e = absurd (true≢false (sym e))
sorts_lists sorted listed (p_join inputs side replicated) h e = absurd (true≢false (sym e))
sorts_lists sorted listed (p_union inputs) h e = absurd (true≢false (sym e))
sorts_lists sorted listed (p_distinct input) h e = absurd (true≢false (sym e))
sorts_lists sorted listed (p_limit input count) h e = absurd (true≢false (sym e))
sorts_lists sorted listed (p_store input path delim) h e = absurd (true≢false (sym e))
sorts_lists sorted listed (p_rank input keys dense) h e = absurd (true≢false (sym e))

module _ (plan : Plan) (valid : IsPlan plan) where
  abbrev IsListed : ℕ → Type 0
  IsListed k = is_sorted plan k ≡ true → is_list plan k ≡ true

  -- whether a node is sorted, or a list, by its operator and its inputs
  pub sorted_of_node : (k : ℕ) (v : PlanNode) → slice_get plan k ≡ Some v → is_sorted plan k ≡ sorts v.op (is_sorted plan)
  sorted_of_node k v at =
      result_is (λ k node. sorts node.op) false plan k v at
      (λ f g same. sorts_looks f g v.op (each_weaker (λ i. i < k) (λ i. f i ≡ g i) same (inputs_of v.op) (names_lower plan valid k v at)))

  pub list_of_node : (k : ℕ) (v : PlanNode) → slice_get plan k ≡ Some v → is_list plan k ≡ lists (is_sorted plan) v.op (is_list plan)
  list_of_node k v at =
      result_is (λ k node. lists (is_sorted plan) node.op) false plan k v at
      (λ f g same. lists_looks f g (is_sorted plan) v.op (each_weaker (λ i. i < k) (λ i. f i ≡ g i) same (inputs_of v.op) (names_lower plan valid k v at)))

  listed_at : (k : ℕ) → ((i : ℕ) → i < k → IsListed i) → IsListed k
  listed_at k lower e =
      let same : length (results (λ k node. sorts node.op) false plan) ≡ length plan = length-results (λ k node. sorts node.op) false plan in
      let within : k < length (results (λ k node. sorts node.op) false plan) = true_within (results (λ k node. sorts node.op) false plan) k e in
      let found = some_at plan k (omega (arith, same, within)) in
      let v : PlanNode = found.0 in
      let below : AllByRecursion (λ i. i < k) (inputs_of v.op) = names_lower plan valid k v found.1 in
      list_of_node k v found.1
      ∙ sorts_lists (is_sorted plan) (is_list plan) v.op (each_weaker (λ i. i < k) IsListed lower (inputs_of v.op) below) (sym (sorted_of_node k v found.1) ∙ e)

  all_listed : (n k : ℕ) → k < n → IsListed k
  all_listed zero k h = absurd (omega (arith, h))
  all_listed (suc n) k h = listed_at k (λ i below. all_listed n i (omega (arith, below, h)))

  pub sorted_is_list : (k : ℕ) → is_sorted plan k ≡ true → is_list plan k ≡ true
  sorted_is_list k = all_listed (k + 1) k (omega (arith))
