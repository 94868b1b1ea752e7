-- What no plan has: a node that names a STORE, and two LIMITs of one statement.
use Rattle.std.specs.Prelude.{◌≡◌, ◌<◌, ◌+◌, ◌==◌, ◌&&◌, ◌||◌, ℕ, zero, suc, Bool, true, false, not, List, [], ◌∷◌, map, take, Option, Some, None, slice_get, if◌then◌else◌, refl}
use Rattle.std.proofs.Common.{ap, sym, subst, ◌∙◌, arith, inl, inr, true≢false}
use Rattle.std.specs.List.{AllByRecursion, cons_option, filter, filter_map, list_any, range_with_len}
use Rattle.std.specs.Option.{is_some, option_and_then, unwrap_or}
use Rattle.std.proofs.lemmas.Bool.Decides.{eqb_tells}
use Rattle.pig_plan.proofs.Lower.{inputs_found}
use Rattle.pig_plan.proofs.Unfolds.{result_is}
use Rattle.pig_plan.specs.NodeKinds.{Before, RowKinds, kinds_at, kinds_step, node_gives}
use Rattle.pig_plan.specs.Nodes.{inputs_of, is_bare, is_live, is_sorted, is_store, names}
use Rattle.pig_plan.specs.Plans.{Plan, PlanNode, PlanOp, p_load, p_filter, p_foreach, p_group_all, p_group, p_join, p_union, p_distinct, p_order, p_limit, p_store, p_assert, p_rank}
use Rattle.pig_plan.specs.Valid.{IsPlan, are_twins, fits, is_twin, op_writes_lf}
use Rattle.pig_plain.specs.SoFar.{bare_before}

and_first : (a b : Bool) → (a && b) ≡ true → a ≡ true
and_first true b h = refl
and_first false b h = h

and_second : (a b : Bool) → (a && b) ≡ true → b ≡ true
and_second true b h = h
and_second false b h = absurd (true≢false (sym h))

get-take : (xs : Plan) (k j : ℕ) → j < k → slice_get (take k xs) j ≡ slice_get xs j
get-take xs zero j h = absurd (omega (arith, h))
get-take [] (suc k) j h = refl
get-take (x ∷ xs) (suc k) zero h = refl
get-take (x ∷ xs) (suc k) (suc j) h = get-take xs k j (omega (arith, h))

-- ---- STOREs

some_given : {A : Type 0} (o : Option A) → is_some o ≡ true → (a : A) × (o ≡ Some a)
some_given None h = absurd (true≢false (sym h))
some_given (Some a) h = (a, refl)

-- a STORE gives no rows to other nodes
store_gives_none : (k : ℕ) (o : PlanOp) (statement : ℕ) (before : Before) → is_store o ≡ true → kinds_step k (record { op = o; statement = statement }) before ≡ None
store_gives_none k (p_load path delim columns) statement before h = absurd (true≢false (sym h))
store_gives_none k (p_filter input cond) statement before h = absurd (true≢false (sym h))
store_gives_none k (p_foreach input block) statement before h = absurd (true≢false (sym h))
store_gives_none k (p_group_all input) statement before h = absurd (true≢false (sym h))
store_gives_none k (p_group keyed) statement before h = absurd (true≢false (sym h))
store_gives_none k (p_join keyed side replicated) statement before h = absurd (true≢false (sym h))
store_gives_none k (p_union numbers) statement before h = absurd (true≢false (sym h))
store_gives_none k (p_distinct input) statement before h = absurd (true≢false (sym h))
store_gives_none k (p_order input keys) statement before h = absurd (true≢false (sym h))
store_gives_none k (p_limit input count) statement before h = absurd (true≢false (sym h))
store_gives_none k (p_store input path delim) statement before h = by_input (before input)
  where
    by_input : (o : Option RowKinds) → unwrap_or (option_and_then {T = RowKinds} {U = Option RowKinds} (λ row. Some None) o) None ≡ None
    by_input None = refl
    by_input (Some row) = refl
store_gives_none k (p_assert input cond message) statement before h = absurd (true≢false (sym h))
store_gives_none k (p_rank input keys dense) statement before h = absurd (true≢false (sym h))

store_kindless : (plan : Plan) (k : ℕ) (node : PlanNode) → slice_get plan k ≡ Some node → is_store node.op ≡ true → kinds_at plan k ≡ None
store_kindless plan k node at h =
    result_is kinds_step None plan k node at (λ f g same. store_gives_none k node.op node.statement f h ∙ sym (store_gives_none k node.op node.statement g h))
    ∙ store_gives_none k node.op node.statement (kinds_at plan) h

-- what holds of each of a list holds of what it names
at_named : (P : ℕ → Type 0) (xs : List ℕ) → AllByRecursion P xs → (k : ℕ) → list_any (λ i. i == k) xs ≡ true → P k
at_named P [] h k named = absurd (true≢false (sym named))
at_named P (x ∷ xs) h k named = elim (eqb_tells x k) [
  | inl same ↦ subst P same.1 h.0
  | inr other ↦ at_named P xs h.1 k (sym (ap (λ b. b || list_any (λ i. i == k) xs) other.0) ∙ named)
]

pub names_no_store : (plan : Plan) → IsPlan plan → (k : ℕ) (node : PlanNode) → slice_get plan k ≡ Some node → is_store node.op ≡ true
    → (n : ℕ) (other : PlanNode) → k < n → slice_get plan n ≡ Some other → names other.op k ≡ true → ⊥
names_no_store plan valid k node at store n other after stands named =
    let before : Plan = take n plan in
    let fitting : fits before other ≡ true = valid n other stands in
    let given = some_given (node_gives (kinds_at before) other.op) (and_first (is_some (node_gives (kinds_at before) other.op)) (not (op_writes_lf other.op)) (and_first (is_some (node_gives (kinds_at before) other.op) && not (op_writes_lf other.op)) (not (list_any (is_twin other) before)) fitting)) in
    let there : is_some (kinds_at before k) ≡ true = at_named (λ i. is_some (kinds_at before i) ≡ true) (inputs_of other.op) (inputs_found (kinds_at before) other.op given.0 given.1) k named in
    true≢false (sym there ∙ ap is_some (store_kindless before k node (get-take plan n k after ∙ at) store))

-- ---- LIMITs

none_there : {X : Type 0} (p : X → Bool) (xs : List X) (k : ℕ) (x : X) → list_any p xs ≡ false → slice_get xs k ≡ Some x → p x ≡ false
none_there p [] k x h at = absurd (cc)
none_there p (y ∷ xs) zero x h at = let same : y ≡ x = cc in ap p (sym same) ∙ either_none (p y) (list_any p xs) h
  where
    either_none : (a b : Bool) → (a || b) ≡ false → a ≡ false
    either_none true b e = e
    either_none false b e = refl
none_there p (y ∷ xs) (suc k) x h at = none_there p xs k x (either_none (p y) (list_any p xs) h) at
  where
    either_none : (a b : Bool) → (a || b) ≡ false → b ≡ false
    either_none true b e = absurd (true≢false e)
    either_none false b e = e

limits_are_twins : (sorted : ℕ → Bool) (input count : ℕ) (o : PlanOp) → is_bare sorted o ≡ true → are_twins (p_limit input count) o ≡ true
limits_are_twins sorted input count (p_load path delim columns) h = absurd (true≢false (sym h))
limits_are_twins sorted input count (p_filter from cond) h = absurd (true≢false (sym h))
limits_are_twins sorted input count (p_foreach from block) h = absurd (true≢false (sym h))
limits_are_twins sorted input count (p_group_all from) h = absurd (true≢false (sym h))
limits_are_twins sorted input count (p_group keyed) h = absurd (true≢false (sym h))
limits_are_twins sorted input count (p_join keyed side replicated) h = absurd (true≢false (sym h))
limits_are_twins sorted input count (p_union numbers) h = absurd (true≢false (sym h))
limits_are_twins sorted input count (p_distinct from) h = absurd (true≢false (sym h))
limits_are_twins sorted input count (p_order from keys) h = absurd (true≢false (sym h))
limits_are_twins sorted input count (p_limit from most) h = refl
limits_are_twins sorted input count (p_store from path delim) h = absurd (true≢false (sym h))
limits_are_twins sorted input count (p_assert from cond message) h = absurd (true≢false (sym h))
limits_are_twins sorted input count (p_rank from keys dense) h = absurd (true≢false (sym h))

range_below : (a n : ℕ) → AllByRecursion (λ k. k < a + n) (range_with_len a n)
range_below a zero = tt
range_below a (suc n) =
    let same : a + 1 + n ≡ a + suc n = omega arith in
    (omega arith, subst (λ m. AllByRecursion (λ k. k < m) (range_with_len (a + 1) n)) same (range_below (a + 1) n))

module _ (plan : Plan) (valid : IsPlan plan) (i : ℕ) (node : PlanNode) (at : slice_get plan i ≡ Some node) (input count : ℕ) (kind : node.op ≡ p_limit input count) where
  abbrev bare : PlanNode → Bool
  bare n = is_bare (is_sorted plan) n.op

  abbrev has : PlanNode → Bool
  has n = n.statement == node.statement

  untwinned : list_any (is_twin node) (take i plan) ≡ false
  untwinned = negated (list_any (is_twin node) (take i plan)) (and_second _ _ (valid i node at))
    where
      negated : (b : Bool) → not b ≡ true → b ≡ false
      negated true h = sym h
      negated false h = refl

  other_statement : (k : ℕ) (n : PlanNode) → k < i → slice_get plan k ≡ Some n → bare n ≡ true → has n ≡ false
  other_statement k n below stands is =
      let twins : are_twins node.op n.op ≡ true = ap (λ o. are_twins o n.op) kind ∙ limits_are_twins (is_sorted plan) input count n.op is in
      ap (λ b. b && has n) (sym twins) ∙ none_there (is_twin node) (take i plan) k n untwinned (get-take plan i k below ∙ stands)

  abbrev statements : List ℕ → List ℕ
  statements ks = map (λ n. n.statement) (filter bare (filter_map (slice_get plan) (filter (is_live plan) ks)))

  kept_one : (k : ℕ) (ks : List ℕ) → k < i → list_any (λ s. s == node.statement) (statements ks) ≡ false → list_any (λ s. s == node.statement) (statements (k ∷ ks)) ≡ false
  kept_one k ks below rest = by_live (is_live plan k)
    where
      more : List ℕ
      more = filter (is_live plan) ks

      by_bare : (n : PlanNode) → slice_get plan k ≡ Some n → (b : Bool) → bare n ≡ b
          → list_any (λ s. s == node.statement) (map (λ n. n.statement) (if b then n ∷ filter bare (filter_map (slice_get plan) more) else filter bare (filter_map (slice_get plan) more))) ≡ false
      by_bare n stands false e = rest
      by_bare n stands true e = ap (λ b. b || list_any (λ s. s == node.statement) (statements ks)) (other_statement k n below stands e) ∙ rest

      by_node : (o : Option PlanNode) → slice_get plan k ≡ o
          → list_any (λ s. s == node.statement) (map (λ n. n.statement) (filter bare (cons_option o (filter_map (slice_get plan) more)))) ≡ false
      by_node None e = rest
      by_node (Some n) e = by_bare n e (bare n) refl

      by_live : (b : Bool) → list_any (λ s. s == node.statement) (map (λ n. n.statement) (filter bare (filter_map (slice_get plan) (if b then k ∷ more else more)))) ≡ false
      by_live false = rest
      by_live true = by_node (slice_get plan k) refl

  kept_other : (ks : List ℕ) → AllByRecursion (λ k. k < i) ks → list_any (λ s. s == node.statement) (statements ks) ≡ false
  kept_other [] h = refl
  kept_other (k ∷ ks) h = kept_one k ks h.0 (kept_other ks h.1)

  -- no bare LIMIT before has this one's statement
  pub no_twin : list_any (λ s. s == node.statement) (map (λ n. n.statement) (bare_before plan i)) ≡ false
  no_twin = kept_other (range_with_len 0 i) (let same : 0 + i ≡ i = omega arith in subst (λ m. AllByRecursion (λ k. k < m) (range_with_len 0 i)) same (range_below 0 i))
