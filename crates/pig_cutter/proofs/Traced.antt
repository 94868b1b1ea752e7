-- The ways of a node, by those of its inputs that go on through it.
use Rattle.std.specs.Prelude.{◌≡◌, ◌<◌, ◌≤◌, ℕ, true, false, List, [], ◌∷◌, ◌++◌, map, drop, length, reverse, Option, Some, None, MatchOption, slice_get, refl}
use Rattle.std.proofs.Common.{ap, sym, ◌∙◌, arith, append_assoc, append-nil, cond, subst}
use Rattle.std.specs.List.{AllByRecursion, flat_map}
use Rattle.std.specs.Option.{option_map, unwrap_or}
use Rattle.std.proofs.lemmas.List.{length-append, reverse-append, reverse-reverse}
use Rattle.std.proofs.lemmas.Option.{none-some, slice_get_past}
use Rattle.pig_value.proofs.list_laws.Listing.{each_of_all, flat_map_each, map-flat_map, some_same}
use Rattle.pig_plan.proofs.Lower.{names_lower}
use Rattle.pig_plan.proofs.Paths.{paths_of_node}
use Rattle.pig_plan.proofs.Unfolds.{length-results}
use Rattle.pig_plan.specs.Nodes.{Entering, Path, and_then, inputs_of, is_source, op_at, paths_of, ways}
use Rattle.pig_plan.specs.Plans.{Plan, PlanNode, PlanOp}
use Rattle.pig_plan.specs.Valid.{IsPlan}
use Rattle.pig_cutter.specs.Traces.{behind}

-- the last of numbers stands first when they are turned
pub turned_last : (xs : List ℕ) (x : ℕ) → reverse (xs ++ x ∷ []) ≡ x ∷ reverse xs
turned_last xs x = reverse-append xs (x ∷ [])

-- what is taken off is what was put on
pub popped : (o : Option ℕ) (front new old : List ℕ) (x : ℕ) → old ≡ front ++ x ∷ [] → MatchOption o ((old ≡ []) × (new ≡ [])) (λ last. old ≡ new ++ last ∷ []) → new ≡ front
popped None front new old x is h =
    let a = length-append front (x ∷ []) in
    let b : length (front ++ x ∷ []) ≡ length {A = ℕ} [] = ap length (sym is ∙ h.0) in
    absurd (omega (arith, a, b))
popped (Some last) front new old x is h =
    let turned : last ∷ reverse new ≡ x ∷ reverse front = sym (turned_last new last) ∙ ap reverse (sym h ∙ is) ∙ turned_last front x in
    sym (reverse-reverse new) ∙ ap (λ xs. reverse (drop 1 xs)) turned ∙ reverse-reverse front

module _ (input : ℕ) where
  through : (k : ℕ) (rest : List ℕ) (ps : List Path) → map (behind input rest) (map (and_then k) ps) ≡ map (behind input (k ∷ rest)) ps
  through k rest [] = refl
  through k rest (p ∷ ps) = λ i. record { input = input; path = record { source = p.source; nodes = append_assoc p.nodes (k ∷ []) rest i } } ∷ through k rest ps i

  whole : (ps : List Path) → map (behind input []) ps ≡ map {B = Entering} (λ path. record { input = input; path = path }) ps
  whole [] = refl
  whole (p ∷ ps) = λ i. record { input = input; path = record { source = p.source; nodes = append-nil p.nodes i } } ∷ whole ps i

module _ (plan : Plan) (input : ℕ) (rest : List ℕ) where
  abbrev traced : ℕ → List Entering
  traced k = map (behind input rest) (paths_of plan k)

  pub traced_source : IsPlan plan → (k : ℕ) (node : PlanNode) → slice_get plan k ≡ Some node → is_source node.op ≡ true
      → traced k ≡ record { input = input; path = record { source = k; nodes = rest } } ∷ []
  traced_source valid k node at source =
      ap (map (behind input rest)) (paths_of_node plan valid k node at ∙ ap (λ b. cond b (record { source = k; nodes = [] } ∷ []) (flat_map (λ i. map (and_then k) (paths_of plan i)) (inputs_of node.op))) source)

  pub traced_through : IsPlan plan → (k : ℕ) (node : PlanNode) → slice_get plan k ≡ Some node → is_source node.op ≡ false
      → traced k ≡ flat_map (λ i. map (behind input (k ∷ rest)) (paths_of plan i)) (inputs_of node.op)
  traced_through valid k node at passes =
      ap (map (behind input rest)) (paths_of_node plan valid k node at ∙ ap (λ b. cond b (record { source = k; nodes = [] } ∷ []) (flat_map (λ i. map (and_then k) (paths_of plan i)) (inputs_of node.op))) passes)
      ∙ map-flat_map (behind input rest) (λ i. map (and_then k) (paths_of plan i)) (inputs_of node.op)
      ∙ flat_map_each (λ i. map (behind input rest) (map (and_then k) (paths_of plan i))) (λ i. map (behind input (k ∷ rest)) (paths_of plan i)) (inputs_of node.op)
      (each_of_all (λ i. map (behind input rest) (map (and_then k) (paths_of plan i)) ≡ map (behind input (k ∷ rest)) (paths_of plan i)) (λ i. through input k rest (paths_of plan i)) (inputs_of node.op))

  pub traced_none : (k : ℕ) → length plan ≤ k → (before : List Entering) → before ≡ before ++ traced k
  traced_none k past before =
      let size = length-results (λ j node. ways j node.op) [] plan in
      sym (append-nil before) ∙ ap (λ o. before ++ map (behind input rest) (unwrap_or o [])) (sym (slice_get_past _ k (omega (arith, size, past))))

-- a node by its operator
pub node_by : (plan : Plan) (k : ℕ) (o : PlanOp) → op_at plan k ≡ Some o → (node : PlanNode) × ((slice_get plan k ≡ Some node) × (node.op ≡ o))
node_by plan k o at = by_node (slice_get plan k) refl at
  where
    by_node : (found : Option PlanNode) → slice_get plan k ≡ found → option_map (λ node. node.op) found ≡ Some o → (node : PlanNode) × ((slice_get plan k ≡ Some node) × (node.op ≡ o))
    by_node None e h = absurd (none-some o h)
    by_node (Some node) e h = (node, (e, some_same node.op o h))

module _ (plan : Plan) (input : ℕ) (rest : List ℕ) (valid : IsPlan plan) (k : ℕ) (o : PlanOp) (at : op_at plan k ≡ Some o) where
  pub from_source : true ≡ is_source o → map (behind input rest) (paths_of plan k) ≡ record { input = input; path = record { source = k; nodes = rest } } ∷ []
  from_source source = let found = node_by plan k o at in traced_source plan input rest valid k found.0 found.1.0 (ap is_source found.1.1 ∙ sym source)

  pub from_inputs : false ≡ is_source o → map (behind input rest) (paths_of plan k) ≡ flat_map (λ i. map (behind input (k ∷ rest)) (paths_of plan i)) (inputs_of o)
  from_inputs passes =
      let found = node_by plan k o at in
      traced_through plan input rest valid k found.0 found.1.0 (ap is_source found.1.1 ∙ sym passes)
      ∙ ap (λ p. flat_map (λ i. map (behind input (k ∷ rest)) (paths_of plan i)) (inputs_of p)) found.1.1

pub inputs_lower : (plan : Plan) → IsPlan plan → (k : ℕ) (o : PlanOp) → op_at plan k ≡ Some o → AllByRecursion (λ i. i < k) (inputs_of o)
inputs_lower plan valid k o at =
    let found = node_by plan k o at in
    subst (λ p. AllByRecursion (λ i. i < k) (inputs_of p)) found.1.1 (names_lower plan valid k found.0 found.1.0)
