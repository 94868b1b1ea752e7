-- In how many parts the rows of each node come, counted up to a limit.
use Rattle.std.specs.Prelude.{◌≡◌, ◌<◌, ◌≤◌, ℕ, zero, suc, true, false, List, [], ◌∷◌, length, min, take, Some, slice_get, refl}
use Rattle.std.proofs.Common.{ap, sym, ◌∙◌, arith, inl, inr}
use Rattle.std.specs.List.{AllByRecursion, sum_by}
use Rattle.std.specs.Option.{option_map, option_map_or, unwrap_or}
use Rattle.std.proofs.lemmas.Bool.{cases_lt}
use Rattle.std.proofs.lemmas.List.Sums.{sum_by-cons}
use Rattle.std.proofs.lemmas.Option.{slice_get_past}
use Rattle.pig_value.proofs.list_laws.Indexing.{some_at}
use Rattle.pig_value.proofs.list_laws.Listing.{each-take, each_weaker}
use Rattle.pig_storage.specs.Splits.{splits_of}
use Rattle.pig_plan.proofs.Lower.{names_lower}
use Rattle.pig_plan.proofs.Unfolds.{length-results, result_is}
use Rattle.pig_plan.specs.Nodes.{inputs_of}
use Rattle.pig_plan.specs.Plans.{PlanNode, PlanOp, p_load, p_filter, p_foreach, p_group_all, p_group, p_join, p_union, p_distinct, p_order, p_limit, p_store, p_assert, p_rank}
use Rattle.pig_plan.specs.Results.{at_place}
use Rattle.pig_plan.specs.Valid.{IsPlan}
use Rattle.pig_physical.specs.Stages.{Sizing, Stages, counted, part_count, parts_at, parts_of}
use Rattle.pig_waves.proofs.Counted.{count_of_node, parts_counted}
use Rattle.pig_cutter.specs.Tables.{count_to, counts_of}

-- sums of numbers that are the same up to the limit
pub sum_cut : {X : Type 0} (limit : ℕ) (f g : X → ℕ) (xs : List X) → AllByRecursion (λ x. min limit (f x) ≡ min limit (g x)) xs → min limit (sum_by f xs) ≡ min limit (sum_by g xs)
sum_cut limit f g [] h = refl
sum_cut limit f g (x ∷ xs) h =
    let a = sum_by-cons f x xs in
    let b = sum_by-cons g x xs in
    let one = h.0 in
    let more = sum_cut limit f g xs h.1 in
    omega (arith, a, b, one, more)

-- what was cut at the limit is the same up to it
pub cut_again : (limit n m : ℕ) → n ≡ min limit m → min limit n ≡ min limit m
cut_again limit n m is = omega (arith, is)

-- ---- one node

-- what the parts of a node are counted by: its own number, or the parts of its inputs, or of the first one
data CountedBy (sizing : Sizing) (o : PlanOp) : Type 0 where
  by_itself : (n : ℕ) → ((count : ℕ → ℕ) → counted sizing o count ≡ n) → CountedBy sizing o
  by_inputs : ((count : ℕ → ℕ) → counted sizing o count ≡ sum_by count (inputs_of o)) → CountedBy sizing o
  by_first : ((count : ℕ → ℕ) → counted sizing o count ≡ sum_by count (take 1 (inputs_of o))) → CountedBy sizing o

counted_by : (sizing : Sizing) (o : PlanOp) → CountedBy sizing o
counted_by sizing (p_load path delim columns) = by_itself (length (splits_of sizing.split (sizing.lengths path))) (λ count. refl)
counted_by sizing (p_filter input test) = by_inputs (λ count. refl)
counted_by sizing (p_foreach input block) = by_inputs (λ count. refl)
counted_by sizing (p_group_all input) = by_itself sizing.reducers (λ count. refl)
counted_by sizing (p_group inputs) = by_itself sizing.reducers (λ count. refl)
counted_by sizing (p_join inputs side true) = by_first (λ count. refl)
counted_by sizing (p_join inputs side false) = by_itself sizing.reducers (λ count. refl)
counted_by sizing (p_union inputs) = by_inputs (λ count. refl)
counted_by sizing (p_distinct input) = by_itself sizing.reducers (λ count. refl)
counted_by sizing (p_order input keys) = by_itself sizing.reducers (λ count. refl)
counted_by sizing (p_limit input n) = by_itself 1 (λ count. refl)
counted_by sizing (p_store input path delim) = by_inputs (λ count. refl)
counted_by sizing (p_assert input test message) = by_inputs (λ count. refl)
counted_by sizing (p_rank input keys dense) = by_itself sizing.reducers (λ count. refl)

-- counts of inputs that are the same up to the limit give counts that are so
cut_counted : (limit : ℕ) (sizing : Sizing) (o : PlanOp) (f g : ℕ → ℕ) → AllByRecursion (λ i. min limit (f i) ≡ min limit (g i)) (inputs_of o)
    → count_to limit sizing o f ≡ count_to limit sizing o g
cut_counted limit sizing o f g h = by (counted_by sizing o)
  where
    by : CountedBy sizing o → min limit (counted sizing o f) ≡ min limit (counted sizing o g)
    by (by_itself n is) = ap (min limit) (is f ∙ sym (is g))
    by (by_inputs is) = ap (min limit) (is f) ∙ sum_cut limit f g (inputs_of o) h ∙ ap (min limit) (sym (is g))
    by (by_first is) =
        ap (min limit) (is f) ∙ sum_cut limit f g (take 1 (inputs_of o)) (each-take (λ i. min limit (f i) ≡ min limit (g i)) 1 (inputs_of o) h) ∙ ap (min limit) (sym (is g))

-- ---- all nodes

module _ (limit : ℕ) (s : Stages) (valid : IsPlan s.plan) where
  abbrev step : ℕ → PlanNode → (ℕ → ℕ) → ℕ
  step k node = count_to limit s.sizing node.op

  abbrev counted_up : ℕ → ℕ
  counted_up = at_place 0 (counts_of limit s.sizing s.plan)

  step_is : (k : ℕ) (node : PlanNode) → slice_get s.plan k ≡ Some node → counted_up k ≡ count_to limit s.sizing node.op counted_up
  step_is k node at =
      result_is step 0 s.plan k node at (λ f g same. cut_counted limit s.sizing node.op f g
      (each_weaker (λ i. i < k) (λ i. min limit (f i) ≡ min limit (g i)) (λ i lower. ap (min limit) (same i lower)) (inputs_of node.op) (names_lower s.plan valid k node at)))

  within : (n k : ℕ) → k < n → k < length s.plan → counted_up k ≡ min limit (length (parts_at s k))
  within zero k below here = absurd (omega (arith, below))
  within (suc n) k below here =
      let found = some_at s.plan k here in
      let v : PlanNode = found.0 in
      step_is k v found.1
      ∙ cut_counted limit s.sizing v.op counted_up (part_count s)
      (each_weaker (λ i. i < k) (λ i. min limit (counted_up i) ≡ min limit (part_count s i))
      (λ i lower. cut_again limit (counted_up i) (part_count s i) (within n i (omega (arith, lower, below)) (omega (arith, lower, here)) ∙ ap (min limit) (parts_counted s valid i)))
      (inputs_of v.op) (names_lower s.plan valid k v found.1))
      ∙ ap (min limit) (sym (parts_counted s valid k ∙ count_of_node s valid k v found.1))

  -- behind the last node there is none
  beyond : (k : ℕ) → length s.plan ≤ k → counted_up k ≡ min limit (length (parts_at s k))
  beyond k past =
      let size = length-results step 0 s.plan in
      let none : min limit 0 ≡ 0 = omega arith in
      ap (λ o. unwrap_or o 0) (slice_get_past (counts_of limit s.sizing s.plan) k (omega (arith, size, past)))
      ∙ sym (ap (λ v. min limit (length (option_map_or (parts_of s k) (option_map {T = PlanNode} (λ node. node.op) v) []))) (slice_get_past s.plan k past) ∙ none)

  -- what is counted of a node is how many parts it has, up to the limit
  pub counts_are : (k : ℕ) → counted_up k ≡ min limit (length (parts_at s k))
  counts_are k = elim (cases_lt k (length s.plan)) [ inl here ↦ within (suc k) k (omega arith) here | inr past ↦ beyond k past ]
