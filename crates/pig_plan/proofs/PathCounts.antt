-- The paths that are counted are those that there are, up to the limit.
use Rattle.std.specs.Prelude.{◌≡◌, ◌<◌, ◌+◌, ℕ, zero, suc, Bool, true, false, List, [], ◌∷◌, length, map, min, Some, slice_get, refl}
use Rattle.std.proofs.Common.{ap, sym, ◌∙◌, arith, cond}
use Rattle.std.specs.List.{AllByRecursion, flat_map, range_with_len, sum_by}
use Rattle.std.proofs.lemmas.List.{length-append, length-map}
use Rattle.std.proofs.lemmas.List.Sums.{sum_by-cons}
use Rattle.pig_value.proofs.list_laws.Indexing.{some_at}
use Rattle.pig_value.proofs.list_laws.Listing.{each_weaker}
use Rattle.pig_plan.proofs.Lower.{names_lower}
use Rattle.pig_plan.proofs.Paths.{paths_of_node}
use Rattle.pig_plan.proofs.Unfolds.{length-results, result_is}
use Rattle.pig_plan.specs.Counts.{counts_of, path_counts, ways_up_to}
use Rattle.pig_plan.specs.Nodes.{Path, and_then, inputs_of, is_source, paths_of}
use Rattle.pig_plan.specs.Plans.{Plan, PlanNode, PlanOp}
use Rattle.pig_plan.specs.Results.{at_place}
use Rattle.pig_plan.specs.Valid.{IsPlan}

sum_same : (f g : ℕ → ℕ) (xs : List ℕ) → AllByRecursion (λ x. f x ≡ g x) xs → sum_by f xs ≡ sum_by g xs
sum_same f g [] h = refl
sum_same f g (x ∷ xs) h =
    let a = sum_by-cons f x xs in
    let b = sum_by-cons g x xs in
    let one = h.0 in
    let more = sum_same f g xs h.1 in
    omega (arith, a, b, one, more)

-- a sum of numbers that were cut at the limit
sum_cut : (limit : ℕ) (f g : ℕ → ℕ) (xs : List ℕ) → AllByRecursion (λ x. f x ≡ min limit (g x)) xs → min limit (sum_by f xs) ≡ min limit (sum_by g xs)
sum_cut limit f g [] h = refl
sum_cut limit f g (x ∷ xs) h =
    let a = sum_by-cons f x xs in
    let b = sum_by-cons g x xs in
    let one = h.0 in
    let more = sum_cut limit f g xs h.1 in
    omega (arith, a, b, one, more)

-- the paths on from those of the inputs
joined_length : (k : ℕ) (paths : ℕ → List Path) (nodes : List ℕ) → length (flat_map (λ i. map (and_then k) (paths i)) nodes) ≡ sum_by (λ i. length (paths i)) nodes
joined_length k paths [] = refl
joined_length k paths (n ∷ nodes) =
    let a = length-append (map (and_then k) (paths n)) (flat_map (λ i. map (and_then k) (paths i)) nodes) in
    let b = length-map (paths n) (and_then k) in
    let c = sum_by-cons (λ i. length (paths i)) n nodes in
    let more = joined_length k paths nodes in
    omega (arith, a, b, c, more)

module _ (limit : ℕ) (plan : Plan) where
  abbrev counted : ℕ → ℕ
  counted = at_place 0 (counts_of limit plan)

  counts_agree : (k : ℕ) (o : PlanOp) (f g : ℕ → ℕ) → ((j : ℕ) → j < k → f j ≡ g j) → AllByRecursion (λ i. i < k) (inputs_of o) → ways_up_to limit o f ≡ ways_up_to limit o g
  counts_agree k o f g same lower =
      ap (λ n. cond (is_source o) (min limit 1) (min limit n)) (sum_same f g (inputs_of o) (each_weaker (λ i. i < k) (λ i. f i ≡ g i) same (inputs_of o) lower))

  module _ (valid : IsPlan plan) where
    counted_node : (k : ℕ) (node : PlanNode) → slice_get plan k ≡ Some node → counted k ≡ ways_up_to limit node.op counted
    counted_node k node at = result_is (λ k node. ways_up_to limit node.op) 0 plan k node at (λ f g same. counts_agree k node.op f g same (names_lower plan valid k node at))

    by_source : (k : ℕ) (o : PlanOp) (b : Bool) → AllByRecursion (λ i. counted i ≡ min limit (length (paths_of plan i))) (inputs_of o)
        → cond b (min limit 1) (min limit (sum_by counted (inputs_of o)))
        ≡ min limit (length (cond b (record { source = k; nodes = [] } ∷ []) (flat_map (λ i. map (and_then k) (paths_of plan i)) (inputs_of o))))
    by_source k o true lower = refl
    by_source k o false lower =
        sum_cut limit counted (λ i. length (paths_of plan i)) (inputs_of o) lower ∙ ap (min limit) (sym (joined_length k (paths_of plan) (inputs_of o)))

    counted_at : (n k : ℕ) → k < n → k < length plan → counted k ≡ min limit (length (paths_of plan k))
    counted_at zero k below within = absurd (omega (arith, below))
    counted_at (suc n) k below within =
        let found = some_at plan k within in
        let v : PlanNode = found.0 in
        counted_node k v found.1
        ∙ by_source k v.op (is_source v.op)
        (each_weaker (λ i. i < k) (λ i. counted i ≡ min limit (length (paths_of plan i))) (λ i lower. counted_at n i (omega (arith, lower, below)) (omega (arith, lower, within))) (inputs_of v.op) (names_lower plan valid k v found.1))
        ∙ sym (ap (λ ps. min limit (length ps)) (paths_of_node plan valid k v found.1))

    -- a list by what stands at its places
    by_places : (p : ℕ → ℕ) (a : ℕ) (found : List ℕ) (n : ℕ) → length found ≡ n → ((k : ℕ) → k < n → at_place 0 found k ≡ p (a + k)) → found ≡ map p (range_with_len a n)
    by_places p a [] zero size each = refl
    by_places p a [] (suc n) size each = absurd (omega (arith, size))
    by_places p a (x ∷ found) zero size each = absurd (omega (arith, size))
    by_places p a (x ∷ found) (suc n) size each =
        let here : a + 0 ≡ a = omega arith in
        ap (λ y. y ∷ found) (each 0 (omega arith) ∙ ap p here)
        ∙ ap (λ more. p a ∷ more) (by_places p (a + 1) found n (omega (arith, size))
        (λ k within. each (suc k) (omega (arith, within)) ∙ (let e : a + suc k ≡ a + 1 + k = omega arith in ap p e)))

    pub counts_are : counts_of limit plan ≡ path_counts limit plan
    counts_are =
        by_places (λ k. min limit (length (paths_of plan k))) 0 (counts_of limit plan) (length plan) (length-results (λ k node. ways_up_to limit node.op) 0 plan)
        (λ k within. counted_at (suc k) k (omega arith) within ∙ (let e : k ≡ 0 + k = omega arith in ap (λ i. min limit (length (paths_of plan i))) e))
