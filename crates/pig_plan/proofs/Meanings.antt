-- What holds of the rows of a plan's inputs holds of the rows of its live nodes.
use Rattle.std.specs.Prelude.{◌≡◌, ◌<◌, ◌≤◌, ◌+◌, ◌-◌, ◌==◌, ℕ, ℤ, Bool, true, false, ◌&&◌, ◌||◌, List, [], ◌∷◌, length, drop, codes, Option, None, Some, slice_get, refl}
use Rattle.std.proofs.Common.{ap, sym, ◌∙◌, subst, arith, suc, zero, true≢false, cond}
use Rattle.std.specs.List.{AllByRecursion, filter, list_any}
use Rattle.std.specs.Option.{option_map_or}
use Rattle.std.specs.Ordering.{is_eq}
use Rattle.std.proofs.lemmas.Bool.{eq-eqb}
use Rattle.std.proofs.lemmas.Cmp.{tied_itself}
use Rattle.std.proofs.lemmas.Option.{slice_get_within}
use Rattle.pig_value.specs.declared.inputs.Column.{Column}
use Rattle.pig_value.specs.declared.inputs.Input.{Input}
use Rattle.pig_value.specs.declared.outcomes.Kept.{Kept}
use Rattle.pig_value.specs.Orders.{row_cmp}
use Rattle.pig_value.specs.Sorts.{times}
use Rattle.pig_value.specs.Functions.{long_of}
use Rattle.pig_value.specs.Trees.{Tree, v_chars}
use Rattle.pig_value.proofs.OrderLaws.{row_total, row_same}
use Rattle.pig_value.proofs.list_laws.Bags.{eq_is, times-cons}
use Rattle.pig_value.proofs.list_laws.Indexing.{drop-add, get-drop, some_at}
use Rattle.pig_value.proofs.list_laws.Listing.{each-filter, each_at, each_filtered, some_same}
use Rattle.pig_typed.proofs.Carried.{IsCarried}
use Rattle.pig_plan.proofs.Carries.{OwnAre, operator_held}
use Rattle.pig_plan.proofs.Lower.{meaning_of_node, names_lower}
use Rattle.pig_plan.specs.Meaning.{EachIsKept, kept_at, meaning, setting}
use Rattle.pig_plan.specs.Laws.{OpLiteralsAre, PlanLiteralsAre}
use Rattle.pig_plan.specs.Nodes.{inputs_of, is_live, is_store, is_used, names}
use Rattle.pig_plan.specs.Operators.{load_rows}
use Rattle.pig_plan.specs.Plans.{Plan, PlanNode, PlanOp, p_load, p_filter, p_foreach, p_group_all, p_group, p_join, p_union, p_distinct, p_order, p_limit, p_store, p_assert, p_rank}
use Rattle.pig_plan.specs.Valid.{IsPlan}

-- ---- rows that stand among others

abbrev unit_or_none : Bool → ℕ
unit_or_none b = cond b 1 0

module _ (P : List Tree → Type 0) where
  first_of : (row : List Tree) (found : List (List Tree)) → 1 ≤ length found → AllByRecursion (λ other. is_eq (row_cmp row other) ≡ true) found → AllByRecursion P found → P row
  first_of row [] h g p = absurd (omega (arith, h))
  first_of row (other ∷ found) h g p = subst P (sym (row_same row other (eq_is (row_cmp row other) g.0))) p.0

  among : (row : List Tree) (rows : List (List Tree)) → 1 ≤ times row_cmp row rows → AllByRecursion P rows → P row
  among row rows h p = first_of row (filter (λ other. is_eq (row_cmp row other)) rows) h (each_filtered (λ other. is_eq (row_cmp row other)) rows) (each-filter (λ other. is_eq (row_cmp row other)) P rows p)

  pub each_held : (kept rows : List (List Tree)) → ((row : List Tree) → times row_cmp row kept ≤ times row_cmp row rows) → AllByRecursion P rows → AllByRecursion P kept
  each_held [] rows h p = tt
  each_held (x ∷ kept) rows h p =
      let one : ◌≡◌ {A = ℕ} (cond (is_eq (row_cmp x x)) 1 0) 1 = ap (λ b. unit_or_none b) (ap is_eq (tied_itself row_total x)) in
      let counted = times-cons row_cmp x x kept in
      let held = h x in (
        among x rows (omega (arith, one, counted, held)) p,
        each_held kept rows (λ row. let more = times-cons row_cmp row x kept in let all = h row in omega (arith, more, all)) p,
      )

-- ---- live nodes

either_first : (a b : Bool) → a ≡ true → (a || b) ≡ true
either_first true b h = refl
either_first false b h = absurd (true≢false (sym h))

either_second : (a b : Bool) → b ≡ true → (a || b) ≡ true
either_second true b h = refl
either_second false b h = h

both_true : (a b : Bool) → a ≡ true → b ≡ true → (a && b) ≡ true
both_true true b h g = g
both_true false b h g = absurd (true≢false (sym h))

-- a node of a list that is live, and names another
used_behind : (i n : ℕ) (nodes : Plan) (j : ℕ) (v : PlanNode) → slice_get nodes j ≡ Some v → names v.op i ≡ true
    → (is_store v.op || is_used (n + j) (n + j + 1) (drop (j + 1) nodes)) ≡ true → is_used i n nodes ≡ true
used_behind i n [] j v at named live = absurd (cc)
used_behind i n (node ∷ nodes) zero v at named live =
    let same : node ≡ v = some_same node v at in
    let here : n + 0 ≡ n = omega (arith) in
    either_first (names node.op i && (is_store node.op || is_used n (n + 1) nodes)) (is_used i (n + 1) nodes)
    (both_true (names node.op i) (is_store node.op || is_used n (n + 1) nodes) (ap (λ w. names w.op i) same ∙ named)
    (ap (λ w. is_store w.op || is_used n (n + 1) nodes) same ∙ ap (λ m. is_store v.op || is_used m (m + 1) nodes) (sym here) ∙ live))
used_behind i n (node ∷ nodes) (suc j) v at named live =
    let next : n + 1 + j ≡ n + suc j = omega (arith) in
    let one : suc j + 1 ≡ suc (j + 1) = omega (arith) in
    either_second (names node.op i && (is_store node.op || is_used n (n + 1) nodes)) (is_used i (n + 1) nodes)
    (used_behind i (n + 1) nodes j v at named
    (ap (λ m. is_store v.op || is_used m (m + 1) (drop (j + 1) nodes)) next ∙ ap (λ m. is_store v.op || is_used (n + suc j) (n + suc j + 1) (drop m (node ∷ nodes))) (sym one) ∙ live))

-- what a list names
pub named_each : (xs ys : List ℕ) → ((i : ℕ) → list_any (λ j. j == i) xs ≡ true → list_any (λ j. j == i) ys ≡ true) → AllByRecursion (λ i. list_any (λ j. j == i) ys ≡ true) xs
named_each [] ys h = tt
named_each (x ∷ xs) ys h =
    (h x (either_first (x == x) (list_any (λ j. j == x) xs) (eq-eqb x x refl)), named_each xs ys (λ i found. h i (either_second (x == i) (list_any (λ j. j == i) xs) found)))

module _ (plan : Plan) where
  -- a live node names live nodes
  pub live_input : (k : ℕ) (v : PlanNode) → slice_get plan k ≡ Some v → is_live plan k ≡ true → (i : ℕ) → i < k → (w : PlanNode) → slice_get plan i ≡ Some w → names v.op i ≡ true → is_live plan i ≡ true
  live_input k v at live i below w stands named =
      let j : ℕ = k - (i + 1) in
      let place : i + 1 + j ≡ k = omega (arith, below) in
      let found : slice_get (drop (i + 1) plan) j ≡ Some v = get-drop plan (i + 1) j ∙ ap (slice_get plan) place ∙ at in
      let behind : drop (j + 1) (drop (i + 1) plan) ≡ drop (k + 1) plan = drop-add plan (i + 1) (j + 1) ∙ ap (λ m. drop m plan) (let e : i + 1 + (j + 1) ≡ k + 1 = omega (arith, below) in e) in
      let itself : (is_store v.op || is_used k (k + 1) (drop (k + 1) plan)) ≡ true = sym (ap (λ o. option_map_or (λ node. is_store node.op || is_used k (k + 1) (drop (k + 1) plan)) o false) at) ∙ live in
      ap (λ o. option_map_or (λ node. is_store node.op || is_used i (i + 1) (drop (i + 1) plan)) o false) stands
      ∙ either_second (is_store w.op) (is_used i (i + 1) (drop (i + 1) plan))
      (used_behind i (i + 1) (drop (i + 1) plan) j v found named
      ((λ m. is_store v.op || is_used (place m) (place m + 1) (behind m)) ∙ itself))

  -- only a node of the plan is live
  pub live_within : (k : ℕ) → is_live plan k ≡ true → k < length plan
  live_within k live = by_found (slice_get plan k) refl
    where
      by_found : (o : Option PlanNode) → slice_get plan k ≡ o → k < length plan
      by_found None e = absurd (true≢false (sym live ∙ ap (λ o. option_map_or (λ node. is_store node.op || is_used k (k + 1) (drop (k + 1) plan)) o false) e))
      by_found (Some v) e = slice_get_within plan k v e

-- two facts of each element give a third
pub each_both : {X : Type 0} (P Q R : X → Type 0) → ((x : X) → P x → Q x → R x) → (xs : List X) → AllByRecursion P xs → AllByRecursion Q xs → AllByRecursion R xs
each_both P Q R f [] h g = tt
each_both P Q R f (x ∷ xs) h g = (f x h.0 g.0, each_both P Q R f xs h.1 g.1)

-- ---- the rows of live nodes

module _ (P : Tree → Type 0) (c : IsCarried P) (long : (z : ℤ) → P (long_of z)) (word : P (v_chars (codes "all")))
    (plan : Plan) (inputs : List Input) (kept : List Kept) (valid : IsPlan plan) (each : EachIsKept plan inputs kept) (ok : PlanLiteralsAre P plan)
    (loads : (path : List ℕ) (delim : ℕ) (columns : List Column) → AllByRecursion (AllByRecursion P) (load_rows inputs path delim columns)) where
  abbrev IsHeld : ℕ → Type 0
  IsHeld k = AllByRecursion (AllByRecursion P) (meaning plan inputs kept k)

  own_held : (k statement : ℕ) (o : PlanOp) → slice_get plan k ≡ Some (record { op = o; statement = statement }) → is_live plan k ≡ true → AllByRecursion IsHeld (inputs_of o)
      → OwnAre P c long word (meaning plan inputs kept) (setting plan inputs kept) statement o
  own_held k statement (p_load path delim columns) at live h = loads path delim columns
  own_held k statement (p_limit input count) at live h = λ unsorted.
      each_held (AllByRecursion P) (kept_at kept statement) (meaning plan inputs kept input) (each k statement input count at live unsorted).held h.0
  own_held k statement (p_filter input test) at live h = tt
  own_held k statement (p_foreach input block) at live h = tt
  own_held k statement (p_group_all input) at live h = tt
  own_held k statement (p_group keyed) at live h = tt
  own_held k statement (p_join keyed side replicated) at live h = tt
  own_held k statement (p_union numbers) at live h = tt
  own_held k statement (p_distinct input) at live h = tt
  own_held k statement (p_order input keys) at live h = tt
  own_held k statement (p_store input path delim) at live h = tt
  own_held k statement (p_assert input test message) at live h = tt
  own_held k statement (p_rank input keys dense) at live h = tt

  node_held : (k : ℕ) (v : PlanNode) → slice_get plan k ≡ Some v → is_live plan k ≡ true → ((i : ℕ) → i < k → is_live plan i ≡ true → IsHeld i) → IsHeld k
  node_held k v at live lower =
      let short : k < length plan = slice_get_within plan k v at in
      let below : AllByRecursion (λ i. i < k) (inputs_of v.op) = names_lower plan valid k v at in
      let named : AllByRecursion (λ i. names v.op i ≡ true) (inputs_of v.op) = named_each (inputs_of v.op) (inputs_of v.op) (λ i h. h) in
      let held : AllByRecursion IsHeld (inputs_of v.op) =
      each_both (λ i. i < k) (λ i. names v.op i ≡ true) IsHeld
      (λ i less name. let found = some_at plan i (omega (arith, less, short)) in lower i less (live_input plan k v at live i less found.0 found.1 name)) (inputs_of v.op) below named in
      subst (AllByRecursion (AllByRecursion P)) (sym (meaning_of_node plan inputs kept valid k v at))
      (operator_held P c long word (meaning plan inputs kept) (setting plan inputs kept) v.statement v.op (each_at (λ node. OpLiteralsAre P node.op) plan k v at ok)
      (own_held k v.statement v.op at live held) held)

  all_held : (n k : ℕ) → k < n → is_live plan k ≡ true → IsHeld k
  all_held zero k h live = absurd (omega (arith, h))
  all_held (suc n) k h live =
      let found = some_at plan k (live_within plan k live) in
      node_held k found.0 found.1 live (λ i below alive. all_held n i (omega (arith, below, h)) alive)

  pub rows_held : (k : ℕ) → is_live plan k ≡ true → AllByRecursion (AllByRecursion P) (meaning plan inputs kept k)
  rows_held k live = all_held (k + 1) k (omega (arith)) live
