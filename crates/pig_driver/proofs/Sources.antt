-- The sources of the ways on which rows come to nodes: live, and before a bound that is behind these.
use Rattle.std.specs.Prelude.{◌≡◌, ◌<◌, ◌≤◌, ◌+◌, ℕ, Bool, true, false, List, [], ◌∷◌, length, map, Some, slice_get, zero, suc, refl}
use Rattle.std.proofs.Common.{sym, arith, cond, subst}
use Rattle.std.specs.List.{AllByRecursion, flat_map}
use Rattle.std.proofs.lemmas.Option.{slice_get_within}
use Rattle.pig_value.proofs.list_laws.Indexing.{some_at}
use Rattle.pig_value.proofs.list_laws.Listing.{each-append, each-map, each_weaker}
use Rattle.pig_plan.proofs.Lower.{names_lower}
use Rattle.pig_plan.proofs.Meanings.{each_both, live_input, named_each}
use Rattle.pig_plan.proofs.Paths.{paths_of_node}
use Rattle.pig_plan.specs.Nodes.{and_then, entering, inputs_of, is_live, is_source, names, paths_of}
use Rattle.pig_plan.specs.Plans.{Plan, PlanNode}
use Rattle.pig_plan.specs.Valid.{IsPlan}
use Rattle.pig_waves.proofs.Places.{all_flat_where}

module _ (plan : Plan) (valid : IsPlan plan) where
  -- a live source below a number
  pub record IsSourceOf (j source : ℕ) : Type 0 where
    pub node : PlanNode
    pub at : slice_get plan source ≡ Some node
    pub is : is_source node.op ≡ true
    pub alive : is_live plan source ≡ true
    pub below : source < j

  further : (i j source : ℕ) → i ≤ j → IsSourceOf i source → IsSourceOf j source
  further i j source h is = let below = is.below in record { node = is.node; at = is.at; is = is.is; alive = is.alive; below = omega (arith, h, below) }

  -- a live node's inputs are live and stand before it
  abbrev pub IsLower : ℕ → ℕ → Type 0
  IsLower k i = (i < k) × (is_live plan i ≡ true)

  pub inputs_live : (k : ℕ) (v : PlanNode) → slice_get plan k ≡ Some v → is_live plan k ≡ true → AllByRecursion (IsLower k) (inputs_of v.op)
  inputs_live k v at alive =
      let short : k < length plan = slice_get_within plan k v at in
      each_both (λ i. i < k) (λ i. names v.op i ≡ true) (IsLower k)
      (λ i less named. let found = some_at plan i (omega (arith, less, short)) in (less, live_input plan k v at alive i less found.0 found.1 named))
      (inputs_of v.op) (names_lower plan valid k v at) (named_each (inputs_of v.op) (inputs_of v.op) (λ i h. h))

  abbrev HaveSources : ℕ → Type 0
  HaveSources j = AllByRecursion (λ path. IsSourceOf (j + 1) path.source) (paths_of plan j)

  sources_within : (n j : ℕ) → j < n → (v : PlanNode) → slice_get plan j ≡ Some v → is_live plan j ≡ true → HaveSources j
  sources_within zero j below v at alive = absurd (omega (arith, below))
  sources_within (suc n) j below v at alive =
      subst (AllByRecursion (λ path. IsSourceOf (j + 1) path.source)) (sym (paths_of_node plan valid j v at)) (by_source (λ i less u there lives. sources_within n i less u there lives) (is_source v.op) refl)
    where
      short : j < length plan
      short = slice_get_within plan j v at

      onwards : ((i : ℕ) → i < n → (u : PlanNode) → slice_get plan i ≡ Some u → is_live plan i ≡ true → AllByRecursion (λ path. IsSourceOf (i + 1) path.source) (paths_of plan i))
          → (i : ℕ) → IsLower j i → AllByRecursion (λ path. IsSourceOf (j + 1) path.source) (map (and_then j) (paths_of plan i))
      onwards inner i lower =
          let less = lower.0 in
          let found = some_at plan i (omega (arith, less, short)) in
          each-map (λ path. IsSourceOf (j + 1) path.source) (and_then j) (paths_of plan i)
          (each_weaker (λ path. IsSourceOf (i + 1) path.source) (λ path. IsSourceOf (j + 1) path.source) (λ path is. further (i + 1) (j + 1) path.source (omega (arith, less)) is) (paths_of plan i)
          (inner i (omega (arith, less, below)) found.0 found.1 lower.1))

      by_source : ((i : ℕ) → i < n → (u : PlanNode) → slice_get plan i ≡ Some u → is_live plan i ≡ true → AllByRecursion (λ path. IsSourceOf (i + 1) path.source) (paths_of plan i))
          → (b : Bool) → is_source v.op ≡ b
          → AllByRecursion (λ path. IsSourceOf (j + 1) path.source) (cond (is_source v.op) (record { source = j; nodes = [] } ∷ []) (flat_map (λ i. map (and_then j) (paths_of plan i)) (inputs_of v.op)))
      by_source inner true e =
          subst (λ b. AllByRecursion (λ path. IsSourceOf (j + 1) path.source) (cond b (record { source = j; nodes = [] } ∷ []) (flat_map (λ i. map (and_then j) (paths_of plan i)) (inputs_of v.op)))) (sym e)
          (record { node = v; at = at; is = e; alive = alive; below = omega (arith) }, tt)
      by_source inner false e =
          subst (λ b. AllByRecursion (λ path. IsSourceOf (j + 1) path.source) (cond b (record { source = j; nodes = [] } ∷ []) (flat_map (λ i. map (and_then j) (paths_of plan i)) (inputs_of v.op)))) (sym e)
          (all_flat_where (λ path. IsSourceOf (j + 1) path.source) (IsLower j) (λ i. map (and_then j) (paths_of plan i)) (onwards inner) (inputs_of v.op) (inputs_live j v at alive))

  -- the ways that enter nodes below a bound
  pub ways_from : (j i : ℕ) (ns : List ℕ) → AllByRecursion (λ n. (n < j) × (is_live plan n ≡ true) × (n < length plan)) ns
      → AllByRecursion (λ way. IsSourceOf j way.path.source) (entering (paths_of plan) i ns)
  ways_from j i [] h = tt
  ways_from j i (n ∷ ns) h =
      let found = some_at plan n h.0.2 in
      each-append (λ way. IsSourceOf j way.path.source) (map (λ path. record { input = i; path = path }) (paths_of plan n)) (entering (paths_of plan) (i + 1) ns)
      (each-map (λ way. IsSourceOf j way.path.source) (λ path. record { input = i; path = path }) (paths_of plan n)
      (each_weaker (λ path. IsSourceOf (n + 1) path.source) (λ path. IsSourceOf j path.source) (λ path is. (let low = h.0.0 in further (n + 1) j path.source (omega (arith, low)) is)) (paths_of plan n)
      (sources_within (n + 1) n (omega (arith)) found.0 found.1 h.0.1)))
      (ways_from j (i + 1) ns h.1)
