-- Plans that mean the same have the same first ASSERT that is not met.
use Rattle.std.specs.Prelude.{◌≡◌, ◌≤◌, ◌<◌, ◌+◌, ℕ, zero, suc, Bool, true, false, not, List, [], ◌∷◌, length, Some, slice_get, refl}
use Rattle.std.proofs.Common.{ap, sym, ◌∙◌, arith, subst, true≢false}
use Rattle.std.specs.List.{AllByRecursion, filter, filter_map, list_all, range_with_len}
use Rattle.pig_value.specs.declared.inputs.Input.{Input}
use Rattle.pig_value.specs.declared.outcomes.Kept.{Kept}
use Rattle.pig_value.proofs.list_laws.Listing.{each-filter, each-map, each_at, each_filtered}
use Rattle.pig_typed.specs.Evaluation.{passes}
use Rattle.pig_plan.specs.Asserts.{first_unmet, met, unmet}
use Rattle.pig_plan.specs.Meaning.{IsKept, meaning}
use Rattle.pig_plan.specs.Nodes.{is_live, live}
use Rattle.pig_plan.specs.Plans.{Plan, PlanNode, PlanOp, p_load, p_filter, p_foreach, p_group_all, p_group, p_join, p_union, p_distinct, p_order, p_limit, p_store, p_assert, p_rank}
use Rattle.pig_plan.specs.Rewrites.{Fails, FailsBy, Goes, SameMeaning}
use Rattle.pig_plan.proofs.Meanings.{live_within}
use Rattle.pig_rewrites.proofs.Least.{IsLeast, least_found, none, some}
use Rattle.pig_rewrites.proofs.Taken.{each_taken, mapped_held, passing_held, taken_held}

range_held : (P : ℕ → Type 0) (a n k : ℕ) → k < n → AllByRecursion P (range_with_len a n) → P (a + k)
range_held P a zero k h each = absurd (omega (arith, h))
range_held P a (suc n) zero h each = let e : a ≡ a + 0 = omega arith in subst P e each.0
range_held P a (suc n) (suc k) h each = let e : a + 1 + k ≡ a + suc k = omega arith in subst P e (range_held P (a + 1) n k (omega (arith, h)) each.1)

module _ (plan : Plan) (inputs : List Input) (kept : List Kept) where
  abbrev is_unmet : PlanNode → Bool
  is_unmet node = not (met (meaning plan inputs kept) node.op)

  -- ---- each statement that is listed is one of an ASSERT that fails

  flipped : (b : Bool) → not b ≡ true → b ≡ false
  flipped true h = sym h
  flipped false h = refl

  fails_node : (k statement : ℕ) (o : PlanOp) → slice_get plan k ≡ Some (record { op = o; statement = statement }) → is_live plan k ≡ true
      → not (met (meaning plan inputs kept) o) ≡ true → Fails plan inputs kept statement
  fails_node k statement (p_assert input test message) at alive h =
      record { node = k; input = input; cond = test; message = message; stands = at; lives = alive; unmet = flipped (list_all (passes test) (meaning plan inputs kept input)) h }
  fails_node k statement (p_load path delim columns) at alive h = absurd (true≢false (sym h))
  fails_node k statement (p_filter input test) at alive h = absurd (true≢false (sym h))
  fails_node k statement (p_foreach input block) at alive h = absurd (true≢false (sym h))
  fails_node k statement (p_group_all input) at alive h = absurd (true≢false (sym h))
  fails_node k statement (p_group keyed) at alive h = absurd (true≢false (sym h))
  fails_node k statement (p_join keyed side replicated) at alive h = absurd (true≢false (sym h))
  fails_node k statement (p_union numbers) at alive h = absurd (true≢false (sym h))
  fails_node k statement (p_distinct input) at alive h = absurd (true≢false (sym h))
  fails_node k statement (p_order input keys) at alive h = absurd (true≢false (sym h))
  fails_node k statement (p_limit input count) at alive h = absurd (true≢false (sym h))
  fails_node k statement (p_store input path delim) at alive h = absurd (true≢false (sym h))
  fails_node k statement (p_rank input keys dense) at alive h = absurd (true≢false (sym h))

  abbrev FailsIf : PlanNode → Type 0
  FailsIf node = is_unmet node ≡ true → Fails plan inputs kept node.statement

  each_live : AllByRecursion FailsIf (filter_map (slice_get plan) (live plan))
  each_live =
      each_taken FailsIf (slice_get plan) (live plan)
      (λ i k node at stands h. fails_node k node.statement node.op stands (each_at (λ n. is_live plan n ≡ true) (live plan) i k at (each_filtered (is_live plan) (range_with_len 0 (length plan)))) h)

  both_each : (nodes : List PlanNode) → AllByRecursion FailsIf nodes → AllByRecursion (λ node. Fails plan inputs kept node.statement) (filter is_unmet nodes)
  both_each nodes each = by_two (filter is_unmet nodes) (each-filter is_unmet FailsIf nodes each) (each_filtered is_unmet nodes)
    where
      by_two : (left : List PlanNode) → AllByRecursion (λ node. not (met (meaning plan inputs kept) node.op) ≡ true → Fails plan inputs kept node.statement) left
          → AllByRecursion (λ node. not (met (meaning plan inputs kept) node.op) ≡ true) left → AllByRecursion (λ node. Fails plan inputs kept node.statement) left
      by_two [] h g = tt
      by_two (node ∷ left) h g = (h.0 g.0, by_two left h.1 g.1)

  pub each_fails : AllByRecursion (Fails plan inputs kept) (unmet plan inputs kept)
  each_fails =
      each-map (Fails plan inputs kept) (λ node. node.statement) (filter is_unmet (filter_map (slice_get plan) (live plan)))
      (both_each (filter_map (slice_get plan) (live plan)) each_live)

  -- ---- the statement of each that fails is listed

  pub of_fails : (P : ℕ → Type 0) → AllByRecursion P (unmet plan inputs kept) → (statement : ℕ) → Fails plan inputs kept statement → P statement
  of_fails P each statement f =
      let nodes : List PlanNode = filter_map (slice_get plan) (live plan) in
      let listed : AllByRecursion (λ node. is_unmet node ≡ true → P node.statement) nodes =
      passing_held (λ node. P node.statement) is_unmet nodes (mapped_held P (λ node. node.statement) (filter is_unmet nodes) each) in
      let numbered : AllByRecursion (λ k. is_live plan k ≡ true → (node : PlanNode) → slice_get plan k ≡ Some node → is_unmet node ≡ true → P node.statement) (range_with_len 0 (length plan)) =
      passing_held (λ k. (node : PlanNode) → slice_get plan k ≡ Some node → is_unmet node ≡ true → P node.statement) (is_live plan) (range_with_len 0 (length plan))
      (taken_held (λ node. is_unmet node ≡ true → P node.statement) (slice_get plan) (live plan) listed) in
      let here : 0 + f.node ≡ f.node = omega arith in
      subst (λ k. is_live plan k ≡ true → (node : PlanNode) → slice_get plan k ≡ Some node → is_unmet node ≡ true → P node.statement) here
      (range_held (λ k. is_live plan k ≡ true → (node : PlanNode) → slice_get plan k ≡ Some node → is_unmet node ≡ true → P node.statement) 0 (length plan) f.node (live_within plan f.node f.lives) numbered)
      f.lives (record { op = p_assert f.input f.cond f.message; statement = statement }) f.stands (ap not f.unmet)

module _ (p q : Plan) (inputs : List Input) (kept : List Kept) where
  no_later : Goes p q inputs kept → (m n : ℕ) → Fails p inputs kept m → AllByRecursion (λ x. n ≤ x) (unmet q inputs kept) → n ≤ m
  no_later goes m n f least =
      let by : FailsBy q inputs kept m = goes.fails m f in
      let first : n ≤ by.first = of_fails q inputs kept (λ x. n ≤ x) least by.first by.fails in
      let low = by.no_later in
      omega (arith, first, low)

  none_fails : Goes p q inputs kept → (m : ℕ) → Fails p inputs kept m → unmet q inputs kept ≡ [] → ⊥
  none_fails goes m f empty =
      let by : FailsBy q inputs kept m = goes.fails m f in
      of_fails q inputs kept (λ x. ⊥) (subst (AllByRecursion (λ x. ⊥)) (sym empty) tt) by.first by.fails

first_same : (p q : Plan) (inputs : List Input) (kept : List Kept) → Goes p q inputs kept → Goes q p inputs kept
    → IsLeast (Fails p inputs kept) (unmet p inputs kept) (first_unmet p inputs kept) → IsLeast (Fails q inputs kept) (unmet q inputs kept) (first_unmet q inputs kept)
    → first_unmet q inputs kept ≡ first_unmet p inputs kept
first_same p q inputs kept goes comes (none empty is) (none empty_q is_q) = is_q ∙ sym is
first_same p q inputs kept goes comes (none empty is) (some n is_q f_q least_q) = absurd (none_fails q p inputs kept comes n f_q empty)
first_same p q inputs kept goes comes (some m is f least) (none empty_q is_q) = absurd (none_fails p q inputs kept goes m f empty_q)
first_same p q inputs kept goes comes (some m is f least) (some n is_q f_q least_q) =
    let low : n ≤ m = no_later p q inputs kept goes m n f least_q in
    let high : m ≤ n = no_later q p inputs kept comes n m f_q least in
    let same : n ≡ m = omega (arith, low, high) in
    is_q ∙ ap Some same ∙ sym is

pub unmet_same : (p q : Plan) → SameMeaning p q → (inputs : List Input) (kept : List Kept) → IsKept p inputs kept → first_unmet q inputs kept ≡ first_unmet p inputs kept
unmet_same p q same inputs kept is =
    first_same p q inputs kept (same.goes inputs kept is) (same.comes inputs kept (same.kept_on inputs kept is))
    (least_found (Fails p inputs kept) (unmet p inputs kept) (each_fails p inputs kept))
    (least_found (Fails q inputs kept) (unmet q inputs kept) (each_fails q inputs kept))
