-- The bytes of a STORE's parts, joined, are the texts of the rows that come to it.
use Rattle.std.specs.Prelude.{◌≡◌, ◌+◌, ◌==◌, ℕ, Bool, true, false, ◌||◌, nat_lt, List, [], ◌∷◌, ◌++◌, length, map, take, drop, Option, None, Some, slice_get, refl}
use Rattle.std.proofs.Common.{ap, sym, ◌∙◌, arith, subst, append-nil, cond, true≢false}
use Rattle.std.specs.List.{AllByRecursion, filter, flat_map, range_with_len}
use Rattle.std.specs.Option.{option_map, option_map_or}
use Rattle.std.proofs.lemmas.Bool.{eq-eqb, eqb-true}
use Rattle.std.proofs.lemmas.Bool.Decides.{nat_tests}
use Rattle.std.proofs.lemmas.Grind.{flat_map-append}
use Rattle.std.proofs.lemmas.List.{length-append}
use Rattle.pig_value.specs.declared.inputs.Input.{Input}
use Rattle.pig_value.specs.Elementwise.{Each, Rising}
use Rattle.pig_value.specs.Texts.{row_text, rows_text}
use Rattle.pig_value.proofs.list_laws.Elementwise.{filter_rises, get-behind, range_rises, split_off}
use Rattle.pig_value.proofs.list_laws.Listing.{each_weaker, each_filtered, flat_map-flat_map, flat_map_each, flat_map_none, each_of_all}
use Rattle.pig_plan.specs.Nodes.{is_live, is_store, is_used, live, op_at}
use Rattle.pig_plan.specs.Plans.{Plan, PlanNode, PlanOp, p_store}
use Rattle.pig_runs.specs.Cutting.{Point}
use Rattle.pig_physical.specs.declared.waves.WaveKind.TheVariants as kinds
use Rattle.pig_physical.specs.Outs.{Outs, TaskOut, bytes_in, outs_at}
use Rattle.pig_physical.specs.Running.{IsRun, bytes_for, bytes_given, store_wave}
use Rattle.pig_physical.specs.Stages.{MapTask, Stages, boundaries, head_of, heads, heads_at, store_tasks, stores, t_map, tasks_by, tasks_in, tasks_of, ways_to}
use Rattle.pig_physical.specs.Values.{IsValue, task_rows}
use Rattle.pig_waves.proofs.Heads.{live_at}
use Rattle.pig_waves.proofs.Places.{each_left, filtered_at}
use Rattle.pig_waves.proofs.Tasks.{from_store_tasks, name_node, rows_at_node}

-- what stands for one of rising numbers alone
module _ {X : Type 0} (k : ℕ) (f : ℕ → List X) where
  abbrev only_here : ℕ → List X
  only_here n = cond (n == k) (f n) []

  none_here : (ns : List ℕ) → AllByRecursion (λ n. (n == k) ≡ false) ns → flat_map only_here ns ≡ []
  none_here ns h = flat_map_none only_here ns (each_weaker (λ n. (n == k) ≡ false) (λ n. only_here n ≡ []) (λ n e. ap (λ b. cond b (f n) []) e) ns h)

  pub one_here : (ns : List ℕ) (i : ℕ) → Rising ns → slice_get ns i ≡ Some k → flat_map only_here ns ≡ f k
  one_here ns i rise at =
      let before = filter (λ j. nat_lt j k) ns in
      let behind = filter (λ j. nat_lt k j) ns in
      let here : only_here k ≡ f k = ap (λ b. cond b (f k) []) (eq-eqb k k refl) in
      ap (flat_map only_here) (split_off ns i k rise at)
      ∙ flat_map-append only_here before (k ∷ behind)
      ∙ (λ l. none_here before (each_weaker (λ j. nat_lt j k ≡ true) (λ j. (j == k) ≡ false) (λ j h. grind (arith, nat_tests, h)) before (each_filtered (λ j. nat_lt j k) ns)) l
      ++ (here l ++ none_here behind (each_weaker (λ j. nat_lt k j ≡ true) (λ j. (j == k) ≡ false) (λ j h. grind (arith, nat_tests, h)) behind (each_filtered (λ j. nat_lt k j) ns)) l))
      ∙ append-nil (f k)

-- a STORE is live
pub store_lives : (plan : Plan) (k statement input delim : ℕ) (path : List ℕ) → slice_get plan k ≡ Some (record { op = p_store input path delim; statement = statement }) → is_live plan k ≡ true
store_lives plan k statement input delim path at = ap (λ found. option_map_or (λ node. is_store node.op || is_used k (k + 1) (drop (k + 1) plan)) found false) at

-- ---- where the tasks of all STOREs stand

module _ (s : Stages) (k : ℕ) (v : PlanNode) (there : slice_get s.plan k ≡ Some v) (alive : is_live s.plan k ≡ true) (store : is_store v.op ≡ true) where
  abbrev is_here : ℕ → Bool
  is_here n = option_map_or is_store (op_at s.plan n) false

  pub store_among : (i : ℕ) × (slice_get (stores s.plan) i ≡ Some k)
  store_among =
      let found = live_at s.plan k alive in
      filtered_at is_here (live s.plan) found.0 k found.1 (ap (λ o. option_map_or is_store o false) (ap (option_map (λ n. n.op)) there) ∙ store)

  first_store : (ns : List ℕ) (i : ℕ) → slice_get ns i ≡ Some k → AllByRecursion (λ n. is_here n ≡ true) ns → (j : ℕ) × (take 1 ns ≡ j ∷ []) × (is_here j ≡ true)
  first_store [] i found h = absurd (cc)
  first_store (n ∷ ns) i found h = (n, refl, h.0)

  -- the last wave is that of all STOREs
  pub store_tasks_last : tasks_in s (store_wave s.plan) ≡ map t_map (flat_map (store_tasks s) (stores s.plan))
  store_tasks_last =
      let one = first_store (stores s.plan) store_among.0 store_among.1 (each_filtered is_here (live s.plan)) in
      let before = flat_map (heads_at s.plan) (boundaries s.plan) in
      let ends : heads s.plan ≡ before ++ head_of s.plan one.0 kinds.Store ∷ [] = ap (λ ns. before ++ map (λ n. head_of s.plan n kinds.Store) ns) one.1 in
      let size = length-append before (head_of s.plan one.0 kinds.Store ∷ []) in
      let last : store_wave s.plan ≡ length before + 0 = (let e = ap length ends in omega (arith, e, size)) in
      ap (λ found. option_map_or (tasks_of s (store_wave s.plan)) found [])
      (ap (slice_get (heads s.plan)) last ∙ ap (λ hs. slice_get hs (length before + 0)) ends ∙ get-behind before (head_of s.plan one.0 kinds.Store ∷ []) 0)
      ∙ by_store one.0 (op_at s.plan one.0) refl one.2
    where
      by_store : (j : ℕ) (found : Option PlanOp) → op_at s.plan j ≡ found → option_map_or is_store found false ≡ true
          → option_map_or (tasks_by s (store_wave s.plan) kinds.Store j) (op_at s.plan j) [] ≡ map t_map (flat_map (store_tasks s) (stores s.plan))
      by_store j None e h = absurd (true≢false (sym h))
      by_store j (Some o) e h = ap (λ f. option_map_or (tasks_by s (store_wave s.plan) kinds.Store j) f []) e

module _ (s : Stages) (inputs : List Input) (points : ℕ → List Point) (outs : Outs) (run : IsRun s inputs points outs)
    (k statement input delim : ℕ) (path : List ℕ) (at : slice_get s.plan k ≡ Some (record { op = p_store input path delim; statement = statement })) (alive : is_live s.plan k ≡ true) where
  own : op_at s.plan k ≡ Some (p_store input path delim)
  own = ap (option_map (λ n. n.op)) at

  among : (i : ℕ) × (slice_get (stores s.plan) i ≡ Some k)
  among = store_among s k (record { op = p_store input path delim; statement = statement }) at alive refl

  rise : Rising (stores s.plan)
  rise = filter_rises (λ n. option_map_or is_store (op_at s.plan n) false) (live s.plan) (filter_rises (is_live s.plan) (range_with_len 0 (length s.plan)) (range_rises 0 (length s.plan)))

  abbrev tasks : List MapTask
  tasks = flat_map (store_tasks s) (stores s.plan)

  last_tasks : tasks_in s (store_wave s.plan) ≡ map t_map tasks
  last_tasks = store_tasks_last s k (record { op = p_store input path delim; statement = statement }) at alive refl

  abbrev last_outs : List TaskOut
  last_outs = outs_at outs (store_wave s.plan)

  abbrev text : MapTask → List ℕ
  text t = rows_text delim (task_rows s.plan inputs outs t)

  -- the bytes for the STORE are those of its tasks
  of_tasks : (ts : List MapTask) (os : List TaskOut) → Each (λ t out. IsValue s inputs (Some (points (store_wave s.plan))) outs (t_map t) out) ts os
      → bytes_for k (map t_map ts) os ≡ flat_map (λ t. cond (t.node == k) (text t) []) ts
  of_tasks [] [] h = refl
  of_tasks [] (o ∷ os) h = absurd h
  of_tasks (t ∷ ts) [] h = absurd h
  of_tasks (t ∷ ts) (out ∷ os) h = λ i. first (t.node == k) refl i ++ of_tasks ts os h.1 i
    where
      first : (b : Bool) → (t.node == k) ≡ b → cond b (bytes_in out.form) [] ≡ cond b (text t) []
      first true e =
          let same : t.node ≡ k = eqb-true t.node k e in
          let value = h.0 (p_store input path delim) (ap (op_at s.plan) same ∙ own) in
          ap bytes_in value.form
      first false e = refl

  by_store_node : (n : ℕ) → flat_map (λ t. cond (t.node == k) (text t) []) (store_tasks s n) ≡ cond (n == k) (flat_map text (store_tasks s n)) []
  by_store_node n =
      flat_map_each (λ t. cond (t.node == k) (text t) []) (λ t. cond (n == k) (text t) []) (store_tasks s n)
      (each_weaker (λ t. t.node ≡ n) (λ t. cond (t.node == k) (text t) [] ≡ cond (n == k) (text t) []) (λ t e. ap (λ m. cond (m == k) (text t) []) e) (store_tasks s n) (name_node s n (ways_to s.plan n)))
      ∙ by_test (n == k)
    where
      by_test : (b : Bool) → flat_map (λ t. cond b (text t) []) (store_tasks s n) ≡ cond b (flat_map text (store_tasks s n)) []
      by_test true = refl
      by_test false = flat_map_none (λ t. []) (store_tasks s n) (each_of_all (λ t. ◌≡◌ {A = List ℕ} [] []) (λ t. refl) (store_tasks s n))

  pub stored_bytes : bytes_given s outs k ≡ rows_text delim (rows_at_node s inputs outs k)
  stored_bytes =
      ap (λ ts. bytes_for k ts last_outs) last_tasks
      ∙ of_tasks tasks last_outs
      (each_left (IsValue s inputs (Some (points (store_wave s.plan))) outs) t_map tasks last_outs
      (subst (λ ts. Each (IsValue s inputs (Some (points (store_wave s.plan))) outs) ts last_outs) last_tasks (run.values (store_wave s.plan))))
      ∙ flat_map-flat_map (λ t. cond (t.node == k) (text t) []) (store_tasks s) (stores s.plan)
      ∙ flat_map_each (λ n. flat_map (λ t. cond (t.node == k) (text t) []) (store_tasks s n)) (only_here k (λ n. flat_map text (store_tasks s n))) (stores s.plan)
      (each_of_all (λ n. flat_map (λ t. cond (t.node == k) (text t) []) (store_tasks s n) ≡ cond (n == k) (flat_map text (store_tasks s n)) []) by_store_node (stores s.plan))
      ∙ one_here k (λ n. flat_map text (store_tasks s n)) (stores s.plan) among.0 rise among.1
      ∙ from_store_tasks s inputs outs (λ i rows. rows_text delim rows) (λ i. refl) (λ i xs ys. flat_map-append (λ row. row_text delim row ++ 10 ∷ []) xs ys) k
      ∙ append-nil (rows_text delim (rows_at_node s inputs outs k))
