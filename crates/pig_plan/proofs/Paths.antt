-- The paths of a node are those of its inputs, each with the node behind it, and the paths that enter a node are those of its inputs.
use Rattle.std.specs.Prelude.{◌≡◌, ◌<◌, ◌+◌, ℕ, List, [], ◌∷◌, ◌++◌, map, Some, slice_get, refl}
use Rattle.std.proofs.Common.{ap, ◌∙◌, cond}
use Rattle.std.specs.List.{AllByRecursion, flat_map}
use Rattle.std.proofs.lemmas.List.{map-append}
use Rattle.pig_plan.proofs.Lower.{names_lower}
use Rattle.pig_plan.proofs.Unfolds.{result_is}
use Rattle.pig_plan.specs.Nodes.{Entering, Path, and_then, entering, inputs_of, is_source, paths_of, ways}
use Rattle.pig_plan.specs.Plans.{Plan, PlanNode, PlanOp}
use Rattle.pig_plan.specs.Valid.{IsPlan}

-- paths look at lower nodes alone
ways_agree : (k : ℕ) (o : PlanOp) (f g : ℕ → List Path) → ((j : ℕ) → j < k → f j ≡ g j) → AllByRecursion (λ i. i < k) (inputs_of o) → ways k o f ≡ ways k o g
ways_agree k o f g same lower = ap (λ xs. cond (is_source o) (record { source = k; nodes = [] } ∷ []) xs) (each (inputs_of o) lower)
  where
    each : (ns : List ℕ) → AllByRecursion (λ i. i < k) ns → flat_map (λ i. map (and_then k) (f i)) ns ≡ flat_map (λ i. map (and_then k) (g i)) ns
    each [] h = refl
    each (n ∷ ns) h = ap (λ ps. map (and_then k) ps ++ flat_map (λ i. map (and_then k) (f i)) ns) (same n h.0) ∙ ap (λ qs. map (and_then k) (g n) ++ qs) (each ns h.1)

pub paths_of_node : (plan : Plan) → IsPlan plan → (k : ℕ) (node : PlanNode) → slice_get plan k ≡ Some node → paths_of plan k ≡ ways k node.op (paths_of plan)
paths_of_node plan valid k node at = result_is (λ k node. ways k node.op) [] plan k node at (λ f g same. ways_agree k node.op f g same (names_lower plan valid k node at))

-- the paths that enter are those of all inputs, in turn
pub entering_paths : (paths : ℕ → List Path) (i : ℕ) (nodes : List ℕ) → map (λ e. e.path) (entering paths i nodes) ≡ flat_map paths nodes
entering_paths paths i [] = refl
entering_paths paths i (node ∷ nodes) =
    map-append (λ e. e.path) (map (λ path. record { input = i; path = path }) (paths node)) (entering paths (i + 1) nodes)
    ∙ ap (λ ps. ps ++ map (λ e. e.path) (entering paths (i + 1) nodes)) (themselves (paths node))
    ∙ ap (λ ps. paths node ++ ps) (entering_paths paths (i + 1) nodes)
  where
    themselves : (ps : List Path) → map {A = Entering} (λ e. e.path) (map (λ path. record { input = i; path = path }) ps) ≡ ps
    themselves [] = refl
    themselves (p ∷ ps) = ap (λ qs. p ∷ qs) (themselves ps)
