-- The STOREs of a plan, where their wave stands, and the sums over all waves.
use Rattle.std.specs.Prelude.{◌≡◌, ◌+◌, ◌||◌, ℕ, suc, Bool, true, false, List, [], ◌∷◌, ◌++◌, drop, length, map, take, Option, Some, None, slice_get, refl}
use Rattle.std.proofs.Common.{ap, sym, ◌∙◌, arith, cond, true≢false}
use Rattle.std.specs.List.{AllByRecursion, cons_option, filter, flat_map, range_with_len}
use Rattle.std.specs.Option.{option_map, option_map_or}
use Rattle.std.proofs.lemmas.List.{length-append}
use Rattle.pig_value.specs.Elementwise.{Rising}
use Rattle.pig_value.proofs.list_laws.Elementwise.{filter_rises, get-behind, range_rises}
use Rattle.pig_value.proofs.list_laws.Listing.{each_filtered}
use Rattle.pig_plan.specs.Nodes.{is_live, is_store, is_used, live, op_at}
use Rattle.pig_plan.specs.Plans.{Plan, PlanNode, PlanOp, p_load, p_filter, p_foreach, p_group_all, p_group, p_join, p_union, p_distinct, p_order, p_limit, p_store, p_assert, p_rank}
use Rattle.pig_physical.specs.Running.{store_wave}
use Rattle.pig_physical.specs.Stages.{Stages, boundaries, head_of, heads, heads_at, store_tasks, stores, t_map, tasks_by, tasks_in, tasks_of}
use Rattle.pig_physical.specs.declared.waves.WaveHead.{WaveHead}
use Rattle.pig_physical.specs.declared.waves.WaveKind.TheVariants as kinds
use Rattle.pig_reach.specs.Reach.{store_of, stores_of}
use Rattle.pig_reach.specs.declared.storing.Store.{Store}

abbrev is_storing : Plan → ℕ → Bool
is_storing plan k = option_map_or is_store (op_at plan k) false

pub stores_rise : (plan : Plan) → Rising (stores plan)
stores_rise plan = filter_rises (is_storing plan) (live plan) (filter_rises (is_live plan) (range_with_len 0 (length plan)) (range_rises 0 (length plan)))

-- ---- the wave of the STOREs

abbrev before_stores : Plan → List WaveHead
before_stores plan = flat_map (heads_at plan) (boundaries plan)

abbrev store_heads : Plan → List ℕ → List WaveHead
store_heads plan ks = map (λ k. head_of plan k kinds.Store) (take 1 ks)

pub no_waves : (plan : Plan) → length (heads plan) ≡ 0 → stores plan ≡ []
no_waves plan none = by_stores (stores plan) (length-append (before_stores plan) (store_heads plan (stores plan)))
  where
    by_stores : (ks : List ℕ) → length (heads plan) ≡ length (before_stores plan) + length (store_heads plan ks) → ks ≡ []
    by_stores [] e = refl
    by_stores (k ∷ ks) e = absurd (omega (arith, none, e))

-- the last wave is that of all STOREs, where there is one
pub last_tasks : (s : Stages) (k : ℕ) (ks : List ℕ) → stores s.plan ≡ k ∷ ks → tasks_in s (store_wave s.plan) ≡ map t_map (flat_map (store_tasks s) (stores s.plan))
last_tasks s k ks are =
    let before = before_stores s.plan in
    let head = head_of s.plan k kinds.Store in
    let ends : heads s.plan ≡ before ++ head ∷ [] = ap (λ ns. before ++ store_heads s.plan ns) are in
    let size = length-append before (head ∷ []) in
    let whole = ap length ends in
    let last : store_wave s.plan ≡ length before + 0 = omega (arith, whole, size) in
    ap (λ found. option_map_or (tasks_of s (store_wave s.plan)) found [])
    (ap (slice_get (heads s.plan)) last ∙ ap (λ hs. slice_get hs (length before + 0)) ends ∙ get-behind before (head ∷ []) 0)
    ∙ by_op (op_at s.plan k) (first_stores (stores s.plan) are (each_filtered (is_storing s.plan) (live s.plan)))
  where
    first_stores : (ns : List ℕ) → ns ≡ k ∷ ks → AllByRecursion (λ n. is_storing s.plan n ≡ true) ns → is_storing s.plan k ≡ true
    first_stores [] e h = absurd (cc)
    first_stores (n ∷ ns) e h = let same : n ≡ k = cc in ap (is_storing s.plan) (sym same) ∙ h.0

    by_op : (found : Option PlanOp) → option_map_or is_store found false ≡ true
        → option_map_or (tasks_by s (store_wave s.plan) kinds.Store k) found [] ≡ map t_map (flat_map (store_tasks s) (stores s.plan))
    by_op None h = absurd (true≢false (sym h))
    by_op (Some o) h = refl

-- ---- STOREs are live

store_told : (v : PlanNode) (b : Bool) → is_store v.op ≡ b → length (cons_option (store_of v) []) ≡ cond b 1 0
store_told v b h = by_op v.op h
  where
    by_op : (o : PlanOp) → is_store o ≡ b → length (cons_option (store_of (record { op = o; statement = v.statement })) []) ≡ cond b 1 0
    by_op (p_load path delim columns) e = ap (λ c. cond {A = ℕ} c 1 0) e
    by_op (p_filter input test) e = ap (λ c. cond {A = ℕ} c 1 0) e
    by_op (p_foreach input block) e = ap (λ c. cond {A = ℕ} c 1 0) e
    by_op (p_group_all input) e = ap (λ c. cond {A = ℕ} c 1 0) e
    by_op (p_group keyed) e = ap (λ c. cond {A = ℕ} c 1 0) e
    by_op (p_join keyed side replicated) e = ap (λ c. cond {A = ℕ} c 1 0) e
    by_op (p_union numbers) e = ap (λ c. cond {A = ℕ} c 1 0) e
    by_op (p_distinct input) e = ap (λ c. cond {A = ℕ} c 1 0) e
    by_op (p_order input keys) e = ap (λ c. cond {A = ℕ} c 1 0) e
    by_op (p_limit input count) e = ap (λ c. cond {A = ℕ} c 1 0) e
    by_op (p_store input path delim) e = ap (λ c. cond {A = ℕ} c 1 0) e
    by_op (p_assert input test message) e = ap (λ c. cond {A = ℕ} c 1 0) e
    by_op (p_rank input keys dense) e = ap (λ c. cond {A = ℕ} c 1 0) e

module _ (plan : Plan) where
  abbrev found_stores : List ℕ → List ℕ
  found_stores ks = filter (is_storing plan) (filter (is_live plan) ks)

  one_found : (k : ℕ) (ks : List ℕ) (v : PlanNode) → slice_get plan k ≡ Some v → length (found_stores (k ∷ ks)) ≡ length (cons_option (store_of v) []) + length (found_stores ks)
  one_found k ks v at = by_store (is_store v.op) refl
    where
      here : is_storing plan k ≡ is_store v.op
      here = ap (λ o. option_map_or is_store o false) (ap (option_map (λ n. n.op)) at)

      lives : is_live plan k ≡ (is_store v.op || is_used k (k + 1) (drop (k + 1) plan))
      lives = ap (λ o. option_map_or (λ node. is_store node.op || is_used k (k + 1) (drop (k + 1) plan)) o false) at

      either : (b : Bool) → is_storing plan k ≡ false → length (filter (is_storing plan) (cond b (k ∷ filter (is_live plan) ks) (filter (is_live plan) ks))) ≡ length (found_stores ks)
      either true e = ap (λ c. length (cond c (k ∷ found_stores ks) (found_stores ks))) e
      either false e = refl

      by_store : (b : Bool) → is_store v.op ≡ b → length (found_stores (k ∷ ks)) ≡ length (cons_option (store_of v) []) + length (found_stores ks)
      by_store true e =
          let told = store_told v true e in
          ap (λ c. length (filter (is_storing plan) (cond c (k ∷ filter (is_live plan) ks) (filter (is_live plan) ks)))) (lives ∙ ap (λ c. c || is_used k (k + 1) (drop (k + 1) plan)) e)
          ∙ ap (λ c. length (cond c (k ∷ found_stores ks) (found_stores ks))) (here ∙ e)
          ∙ omega (arith, told)
      by_store false e = let told = store_told v false e in either (is_live plan k) (here ∙ e) ∙ omega (arith, told)

  found_from : (a : ℕ) (nodes : Plan) → ((i : ℕ) → slice_get plan (a + i) ≡ slice_get nodes i) → length (stores_of nodes) ≡ length (found_stores (range_with_len a (length nodes)))
  found_from a [] at = refl
  found_from a (v ∷ nodes) at =
      let zeroth : a ≡ a + 0 = omega arith in
      let here : slice_get plan a ≡ Some v = ap (slice_get plan) zeroth ∙ at 0 in
      let one = one_found a (range_with_len (a + 1) (length nodes)) v here in
      let rest = found_from (a + 1) nodes (λ i. (let e : a + 1 + i ≡ a + suc i = omega arith in ap (slice_get plan) e) ∙ at (suc i)) in
      let cut : length (stores_of (v ∷ nodes)) ≡ length (cons_option (store_of v) []) + length (stores_of nodes) = by_option (store_of v) (stores_of nodes) in
      omega (arith, one, rest, cut)
    where
      by_option : (o : Option Store) (xs : List Store) → length (cons_option o xs) ≡ length (cons_option o []) + length xs
      by_option None xs = omega arith
      by_option (Some x) xs = omega arith

  pub as_many_stores : length (stores_of plan) ≡ length (stores plan)
  as_many_stores = found_from 0 plan (λ i. let e : 0 + i ≡ i = omega arith in ap (slice_get plan) e)

pub no_stores : (plan : Plan) (found : List Store) → length (heads plan) ≡ 0 → found ≡ stores_of plan → found ≡ []
no_stores plan found none is =
    let many = as_many_stores plan in
    let few = ap length (no_waves plan none) in
    is ∙ by_stores (stores_of plan) (omega (arith, many, few))
  where
    by_stores : (xs : List Store) → length xs ≡ 0 → xs ≡ []
    by_stores [] h = refl
    by_stores (x ∷ xs) h = absurd (omega (arith, h))
