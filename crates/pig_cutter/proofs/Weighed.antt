-- What is counted up to the limit tells whether some wave is too large.
use Rattle.std.specs.Prelude.{◌≡◌, ◌<◌, ◌≤◌, ◌+◌, ℕ, zero, suc, Bool, true, false, nat_lt, ◌||◌, List, [], ◌∷◌, length, map, min, Some, slice_get, refl}
use Rattle.std.proofs.Common.{ap, sym, ◌∙◌, arith, cond, inl, inr, true≢false}
use Rattle.std.specs.List.{AllByRecursion, flat_map, list_any, range_with_len, sum_by}
use Rattle.std.specs.Option.{unwrap_or}
use Rattle.std.proofs.lemmas.Bool.{cases_lt, lt-ltb, le-ltb}
use Rattle.std.proofs.lemmas.List.Sums.{sum_by-append, sum_by-cons}
use Rattle.std.proofs.lemmas.Option.{slice_get_past, slice_get_within}
use Rattle.pig_value.proofs.list_laws.Indexing.{some_at}
use Rattle.pig_value.proofs.list_laws.Listing.{each_of_all, each_weaker}
use Rattle.pig_plan.proofs.Lower.{names_lower}
use Rattle.pig_plan.proofs.Paths.{paths_of_node}
use Rattle.pig_plan.proofs.Unfolds.{length-results, result_is}
use Rattle.pig_plan.specs.Nodes.{Path, and_then, inputs_of, is_source, paths_of, ways}
use Rattle.pig_plan.specs.Plans.{PlanNode, PlanOp}
use Rattle.pig_plan.specs.Results.{at_place}
use Rattle.pig_plan.specs.Valid.{IsPlan}
use Rattle.pig_physical.specs.declared.waves.WaveHead.{WaveHead}
use Rattle.pig_physical.specs.Stages.{Stages, heads, parts_at, stores, wave_size}
use Rattle.pig_cutter.specs.Feeds.{feeds_of}
use Rattle.pig_cutter.specs.Tables.{is_any_over, is_over, weigh, weights_of}
use Rattle.pig_cutter.specs.declared.feeding.Feed.{Feed}
use Rattle.pig_waves.proofs.Among.{any_holds}
use Rattle.pig_waves.proofs.Places.{range_at}
use Rattle.pig_cutter.proofs.Counted.{cut_again, sum_cut}
use Rattle.pig_cutter.proofs.Sized.{feed_weight, node_weight, path_weight, size_is}

-- ---- nodes

module _ (limit : ℕ) (s : Stages) where
  abbrev step : ℕ → PlanNode → (ℕ → ℕ) → ℕ
  step k node = weigh limit (min limit (length (parts_at s k))) node.op

  abbrev weighed : ℕ → ℕ
  weighed = at_place 0 (weights_of limit (λ k. min limit (length (parts_at s k))) s.plan)

  -- the paths on from those of a node count as much
  one_on : (k : ℕ) (ps : List Path) → sum_by (path_weight s) (map (and_then k) ps) ≡ sum_by (path_weight s) ps
  one_on k [] = refl
  one_on k (p ∷ ps) =
      let a = sum_by-cons (path_weight s) (and_then k p) (map (and_then k) ps) in
      let b = sum_by-cons (path_weight s) p ps in
      let more = one_on k ps in
      omega (arith, a, b, more)

  all_on : (k : ℕ) (ns : List ℕ) → sum_by (path_weight s) (flat_map (λ i. map (and_then k) (paths_of s.plan i)) ns) ≡ sum_by (node_weight s) ns
  all_on k [] = refl
  all_on k (n ∷ ns) =
      let a = sum_by-append (path_weight s) (map (and_then k) (paths_of s.plan n)) (flat_map (λ i. map (and_then k) (paths_of s.plan i)) ns) in
      let b = sum_by-cons (node_weight s) n ns in
      let one : sum_by (path_weight s) (map (and_then k) (paths_of s.plan n)) ≡ node_weight s n = one_on k (paths_of s.plan n) in
      let more = all_on k ns in
      omega (arith, a, b, one, more)

  abbrev own : ℕ → Path
  own k = record { source = k; nodes = [] }

  alone : (k : ℕ) → min limit (min limit (length (parts_at s k)) + 1) ≡ min limit (sum_by (path_weight s) (own k ∷ []))
  alone k =
      let a : sum_by (path_weight s) (own k ∷ []) ≡ (length (parts_at s k) + 1) + sum_by (path_weight s) [] = sum_by-cons (path_weight s) (own k) [] in
      let z : sum_by (path_weight s) [] ≡ 0 = refl in
      omega (arith, a, z)

  agree : (k : ℕ) (o : PlanOp) (n : ℕ) (f g : ℕ → ℕ) → ((j : ℕ) → j < k → f j ≡ g j) → AllByRecursion (λ i. i < k) (inputs_of o) → weigh limit n o f ≡ weigh limit n o g
  agree k o n f g same lower =
      ap (λ m. cond (is_source o) (min limit (n + 1)) m)
      (sum_cut limit f g (inputs_of o) (each_weaker (λ i. i < k) (λ i. min limit (f i) ≡ min limit (g i)) (λ i below. ap (min limit) (same i below)) (inputs_of o) lower))

  module _ (valid : IsPlan s.plan) where
    step_is : (k : ℕ) (node : PlanNode) → slice_get s.plan k ≡ Some node → weighed k ≡ step k node weighed
    step_is k node at = result_is step 0 s.plan k node at (λ f g same. agree k node.op (min limit (length (parts_at s k))) f g same (names_lower s.plan valid k node at))

    by_source : (k : ℕ) (o : PlanOp) (b : Bool) → AllByRecursion (λ i. weighed i ≡ min limit (node_weight s i)) (inputs_of o)
        → cond b (min limit (min limit (length (parts_at s k)) + 1)) (min limit (sum_by weighed (inputs_of o)))
        ≡ min limit (sum_by (path_weight s) (cond b (own k ∷ []) (flat_map (λ i. map (and_then k) (paths_of s.plan i)) (inputs_of o))))
    by_source k o true lower = alone k
    by_source k o false lower = sum_cut limit weighed (node_weight s) (inputs_of o) (each_weaker (λ i. weighed i ≡ min limit (node_weight s i)) (λ i. min limit (weighed i) ≡ min limit (node_weight s i)) (λ i is. cut_again limit (weighed i) (node_weight s i) is) (inputs_of o) lower) ∙ ap (min limit) (sym (all_on k (inputs_of o)))

    within : (n k : ℕ) → k < n → k < length s.plan → weighed k ≡ min limit (node_weight s k)
    within zero k below here = absurd (omega (arith, below))
    within (suc n) k below here =
        let found = some_at s.plan k here in
        let v : PlanNode = found.0 in
        step_is k v found.1
        ∙ by_source k v.op (is_source v.op)
        (each_weaker (λ i. i < k) (λ i. weighed i ≡ min limit (node_weight s i)) (λ i lower. within n i (omega (arith, lower, below)) (omega (arith, lower, here))) (inputs_of v.op) (names_lower s.plan valid k v found.1))
        ∙ sym (ap (λ ps. min limit (sum_by (path_weight s) ps)) (paths_of_node s.plan valid k v found.1))

    -- behind the last node there is none
    beyond : (k : ℕ) → length s.plan ≤ k → weighed k ≡ min limit (node_weight s k)
    beyond k past =
        let a = length-results step 0 s.plan in
        let b = length-results (λ j node. ways j node.op) [] s.plan in
        let none : min limit 0 ≡ 0 = omega arith in
        ap (λ o. unwrap_or o 0) (slice_get_past (weights_of limit (λ k. min limit (length (parts_at s k))) s.plan) k (omega (arith, a, past)))
        ∙ sym (ap (λ o. min limit (sum_by (path_weight s) (unwrap_or o []))) (slice_get_past _ k (omega (arith, b, past))) ∙ none)

    weighed_is : (k : ℕ) → weighed k ≡ min limit (node_weight s k)
    weighed_is k = elim (cases_lt k (length s.plan)) [ inl here ↦ within (suc k) k (omega arith) here | inr past ↦ beyond k past ]

    -- ---- waves

    -- what is more than the most is so also where it is cut one behind it
    cut_over : (most n : ℕ) → nat_lt most (min (most + 1) n) ≡ nat_lt most n
    cut_over most n = elim (cases_lt most n) [
      | inl over ↦ lt-ltb most (min (most + 1) n) (omega (arith, over)) ∙ sym (lt-ltb most n over)
      | inr not_over ↦ le-ltb most (min (most + 1) n) (omega (arith, not_over)) ∙ sym (le-ltb most n not_over)
    ]

    over_is : (most w : ℕ) (head : WaveHead) → limit ≡ most + 1 → slice_get (heads s.plan) w ≡ Some head
        → nat_lt most (min limit (sum_by (λ feed. weighed feed.from) (feeds_of s.plan (stores s.plan) head))) ≡ nat_lt most (wave_size s w)
    over_is most w head is at =
        let feeds : List Feed = feeds_of s.plan (stores s.plan) head in
        ap (nat_lt most) (sum_cut limit (λ feed. weighed feed.from) (feed_weight s) feeds
        (each_of_all (λ feed. min limit (weighed feed.from) ≡ min limit (feed_weight s feed)) (λ feed. cut_again limit (weighed feed.from) (feed_weight s feed) (weighed_is feed.from)) feeds))
        ∙ ap (λ l. nat_lt most (min l (sum_by (feed_weight s) feeds))) is
        ∙ cut_over most (sum_by (feed_weight s) feeds)
        ∙ ap (nat_lt most) (sym (size_is s w head at))

-- a test of places, by what stands there
any_placed : {X : Type 0} (f : ℕ → Bool) (g : X → Bool) (a : ℕ) (xs : List X) → ((i : ℕ) (x : X) → slice_get xs i ≡ Some x → g x ≡ f (a + i))
    → list_any g xs ≡ list_any f (range_with_len a (length xs))
any_placed f g a [] each = refl
any_placed f g a (x ∷ xs) each =
    let here : a + 0 ≡ a = omega arith in
    let one : g x ≡ f a = each 0 x refl ∙ ap f here in
    let more = any_placed f g (a + 1) xs (λ i y at. each (suc i) y at ∙ (let e : a + suc i ≡ a + 1 + i = omega arith in ap f e)) in
    λ i. one i || more i

-- some wave counts more than the most
pub any_over_is : (s : Stages) → IsPlan s.plan → (most : ℕ) → is_any_over most s.plan (stores s.plan) (λ k. min (most + 1) (length (parts_at s k))) (heads s.plan)
    ≡ list_any (λ w. nat_lt most (wave_size s w)) (range_with_len 0 (length (heads s.plan)))
any_over_is s valid most =
    any_placed (λ w. nat_lt most (wave_size s w)) (is_over most s.plan (stores s.plan) (at_place 0 (weights_of (most + 1) (λ k. min (most + 1) (length (parts_at s k))) s.plan))) 0 (heads s.plan)
    (λ w head at. over_is (most + 1) s valid most w head refl at ∙ (let e : w ≡ 0 + w = omega arith in ap (λ v. nat_lt most (wave_size s v)) e))

-- where none does, each counts no more
pub each_few : (s : Stages) (most : ℕ) → list_any (λ w. nat_lt most (wave_size s w)) (range_with_len 0 (length (heads s.plan))) ≡ false
    → (w : ℕ) (head : WaveHead) → slice_get (heads s.plan) w ≡ Some head → wave_size s w ≤ most
each_few s most none w head at = elim (cases_lt most (wave_size s w)) [
  | inl over ↦
      let here : slice_get (range_with_len 0 (length (heads s.plan))) w ≡ Some w =
      range_at 0 (length (heads s.plan)) w (slice_get_within (heads s.plan) w head at) ∙ (let e : 0 + w ≡ w = omega arith in ap Some e) in
      let some = any_holds (λ v. nat_lt most (wave_size s v)) (range_with_len 0 (length (heads s.plan))) w (record { at = w; is = here }) (lt-ltb most (wave_size s w) over) in
      absurd (true≢false (sym some ∙ none))
  | inr not_over ↦ not_over
]
