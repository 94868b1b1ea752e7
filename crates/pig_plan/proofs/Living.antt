-- Which nodes of a plan are live: a STORE, and what a live node behind names.
use Rattle.std.specs.Prelude.{◌≡◌, ◌<◌, ◌+◌, ◌==◌, ◌&&◌, ◌||◌, ℕ, suc, Bool, true, false, List, [], ◌∷◌, map, drop, Some, slice_get, refl}
use Rattle.std.proofs.Common.{ap, sym, ◌∙◌, subst, arith, true≢false}
use Rattle.std.specs.List.{AllByRecursion, list_any}
use Rattle.std.specs.Option.{option_map_or}
use Rattle.std.proofs.lemmas.Bool.{eq-eqb, eqb-true}
use Rattle.pig_value.proofs.list_laws.Indexing.{drop-add, get-drop}
use Rattle.pig_plan.specs.Nodes.{is_live, is_store, is_used, names}
use Rattle.pig_plan.specs.Plans.{Plan, PlanNode, PlanOp, p_load, p_filter, p_foreach, p_group_all, p_group, p_join, p_union, p_distinct, p_order, p_limit, p_store, p_assert, p_rank}
use Rattle.pig_plan.specs.Renumbered.{rename}

both : (a b : Bool) → (a && b) ≡ true → (a ≡ true) × (b ≡ true)
both true b e = (refl, e)
both false b e = absurd (true≢false (sym e))

-- a node behind that is live, and names the one numbered k
record Named (k n : ℕ) (nodes : Plan) : Type 0 where
  pub j : ℕ
  pub v : PlanNode
  pub stands : slice_get nodes j ≡ Some v
  pub name : names v.op k ≡ true
  pub live : (is_store v.op || is_used (n + j) (n + j + 1) (drop (j + 1) nodes)) ≡ true

later : (k n : ℕ) (v : PlanNode) (nodes : Plan) → Named k (n + 1) nodes → Named k n (v ∷ nodes)
later k n v nodes g =
    let place : n + 1 + g.j ≡ n + suc g.j = omega arith in
    let two : suc g.j + 1 ≡ suc (g.j + 1) = omega arith in
    record {
      j = suc g.j;
      v = g.v;
      stands = g.stands;
      name = g.name;
      live = ap (λ m. is_store g.v.op || is_used (n + suc g.j) (n + suc g.j + 1) (drop m (v ∷ nodes))) two
          ∙ (λ i. is_store g.v.op || is_used (sym place i) (sym place i + 1) (drop (g.j + 1) nodes)) ∙ g.live;
    }

named_by : (k n : ℕ) (nodes : Plan) → is_used k n nodes ≡ true → Named k n nodes
named_by k n [] h = absurd (true≢false (sym h))
named_by k n (v ∷ nodes) h = by_test (named_by k (n + 1) nodes) (names v.op k && (is_store v.op || is_used n (n + 1) nodes)) refl h
  where
    by_test : (is_used k (n + 1) nodes ≡ true → Named k (n + 1) nodes) → (b : Bool) → (names v.op k && (is_store v.op || is_used n (n + 1) nodes)) ≡ b → (b || is_used k (n + 1) nodes) ≡ true → Named k n (v ∷ nodes)
    by_test rest true e g =
        let two = both (names v.op k) (is_store v.op || is_used n (n + 1) nodes) e in
        let here : n + 0 ≡ n = omega arith in
        record { j = 0; v = v; stands = refl; name = two.0; live = (λ i. is_store v.op || is_used (here i) (here i + 1) nodes) ∙ two.1 }
    by_test rest false e g = later k n v nodes (rest g)

pub record User (plan : Plan) (k : ℕ) : Type 0 where
  pub m : ℕ
  pub u : PlanNode
  pub stands : slice_get plan m ≡ Some u
  pub lives : is_live plan m ≡ true
  pub behind : k < m
  pub name : names u.op k ≡ true

-- a live node that is no STORE is named by a live one behind it
pub user_of : (plan : Plan) (k : ℕ) (v : PlanNode) → slice_get plan k ≡ Some v → is_store v.op ≡ false → is_live plan k ≡ true → User plan k
user_of plan k v stands e alive =
    let used : is_used k (k + 1) (drop (k + 1) plan) ≡ true =
    ap (λ b. b || is_used k (k + 1) (drop (k + 1) plan)) (sym e)
    ∙ sym (ap (λ found. option_map_or (λ node. is_store node.op || is_used k (k + 1) (drop (k + 1) plan)) found false) stands) ∙ alive in
    let user : Named k (k + 1) (drop (k + 1) plan) = named_by k (k + 1) (drop (k + 1) plan) used in
    let m : ℕ = k + 1 + user.j in
    let there : slice_get plan (k + 1 + user.j) ≡ Some user.v = sym (get-drop plan (k + 1) user.j) ∙ user.stands in
    let n : m + 1 ≡ k + 1 + (user.j + 1) = omega arith in
    record {
      m = k + 1 + user.j;
      u = user.v;
      stands = there;
      lives = ap (λ found. option_map_or (λ node. is_store node.op || is_used m (m + 1) (drop (m + 1) plan)) found false) there
          ∙ ap (λ rest. is_store user.v.op || is_used m (m + 1) rest) (ap (λ l. drop l plan) n ∙ sym (drop-add plan (k + 1) (user.j + 1)))
          ∙ user.live;
      behind = omega arith;
      name = user.name;
    }

pub store_lives : (plan : Plan) (k : ℕ) (v : PlanNode) → slice_get plan k ≡ Some v → is_store v.op ≡ true → is_live plan k ≡ true
store_lives plan k v stands e =
    ap (λ found. option_map_or (λ node. is_store node.op || is_used k (k + 1) (drop (k + 1) plan)) found false) stands
    ∙ ap (λ b. b || is_used k (k + 1) (drop (k + 1) plan)) e

-- what holds of all of a list holds of what it names
pub member : (P : ℕ → Type 0) (k : ℕ) (ns : List ℕ) → AllByRecursion P ns → list_any (λ i. i == k) ns ≡ true → P k
member P k [] h e = absurd (true≢false (sym e))
member P k (n ∷ ns) h e = by_test (member P k ns h.1) (n == k) refl e
  where
    by_test : (list_any (λ i. i == k) ns ≡ true → P k) → (b : Bool) → (n == k) ≡ b → (b || list_any (λ i. i == k) ns) ≡ true → P k
    by_test rest true g e = subst P (eqb-true n k g) h.0
    by_test rest false g e = rest e

module _ {X Y : Type 0} (P : Y → Type 0) (f : X → Y) where
  pub each_mapped : (xs : List X) → AllByRecursion P (map f xs) → AllByRecursion (λ x. P (f x)) xs
  each_mapped [] h = tt
  each_mapped (x ∷ xs) h = (h.0, each_mapped xs h.1)

module _ (at : ℕ → ℕ) where
  pub store_renamed : (o : PlanOp) → is_store (rename at o) ≡ is_store o
  store_renamed (p_load path delim columns) = refl
  store_renamed (p_filter input cond) = refl
  store_renamed (p_foreach input block) = refl
  store_renamed (p_group_all input) = refl
  store_renamed (p_group inputs) = refl
  store_renamed (p_join inputs side replicated) = refl
  store_renamed (p_union inputs) = refl
  store_renamed (p_distinct input) = refl
  store_renamed (p_order input keys) = refl
  store_renamed (p_limit input count) = refl
  store_renamed (p_store input path delim) = refl
  store_renamed (p_assert input cond message) = refl
  store_renamed (p_rank input keys dense) = refl

  -- an input that is named at another number
  pub record Came (k : ℕ) (ns : List ℕ) : Type 0 where
    pub i : ℕ
    pub there : at i ≡ k
    pub name : list_any (λ j. j == i) ns ≡ true

  or_more : (a b : Bool) → b ≡ true → (a || b) ≡ true
  or_more true b h = refl
  or_more false b h = h

  pub came : (k : ℕ) (ns : List ℕ) → list_any (λ i. i == k) (map at ns) ≡ true → Came k ns
  came k [] e = absurd (true≢false (sym e))
  came k (n ∷ ns) e = by_test (came k ns) (at n == k) refl e
    where
      by_test : (list_any (λ i. i == k) (map at ns) ≡ true → Came k ns) → (b : Bool) → (at n == k) ≡ b → (b || list_any (λ i. i == k) (map at ns)) ≡ true → Came k (n ∷ ns)
      by_test rest true g e = record { i = n; there = eqb-true (at n) k g; name = ap (λ b. b || list_any (λ j. j == n) ns) (eq-eqb n n refl) }
      by_test rest false g e = let c = rest e in record { i = c.i; there = c.there; name = or_more (n == c.i) (list_any (λ j. j == c.i) ns) c.name }

  pub goes : (k : ℕ) (ns : List ℕ) → list_any (λ i. i == k) ns ≡ true → list_any (λ i. i == at k) (map at ns) ≡ true
  goes k [] e = absurd (true≢false (sym e))
  goes k (n ∷ ns) e = by_test (goes k ns) (n == k) refl e
    where
      by_test : (list_any (λ i. i == k) ns ≡ true → list_any (λ i. i == at k) (map at ns) ≡ true) → (b : Bool) → (n == k) ≡ b → (b || list_any (λ i. i == k) ns) ≡ true
          → ((at n == at k) || list_any (λ i. i == at k) (map at ns)) ≡ true
      by_test rest true g e = ap (λ b. b || list_any (λ i. i == at k) (map at ns)) (eq-eqb (at n) (at k) (ap at (eqb-true n k g)))
      by_test rest false g e = or_more (at n == at k) (list_any (λ i. i == at k) (map at ns)) (rest e)
