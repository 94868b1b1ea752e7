-- A plan with a further node that fits it, and the kinds of its nodes.
use Rattle.std.specs.Prelude.{◌≡◌, ℕ, true, List, [], ◌∷◌, ◌++◌, take, Option, Some, None, slice_get, refl}
use Rattle.std.proofs.Common.{ap, sym, ◌∙◌, subst, suc, zero}
use Rattle.std.specs.Option.{unwrap_or}
use Rattle.std.proofs.lemmas.Option.{none-some}
use Rattle.std.proofs.lemmas.List.{map-append}
use Rattle.pig_plan.proofs.Unfolds.{results-append}
use Rattle.pig_plan.specs.NodeKinds.{RowKinds, kinds_step, kinds_table, node_gives}
use Rattle.pig_plan.specs.Plans.{Plan, PlanNode, node_of, plan_of}
use Rattle.pig_plan.specs.Results.{at_place}
use Rattle.pig_plan.specs.Valid.{IsPlan, fits}
use Rattle.pig_plan.specs.declared.nodes.Node.{Node}

some_same : {A : Type 0} {a b : A} → Some a ≡ Some b → a ≡ b
some_same {A} {a} {b} h = ap (λ o. unwrap_or o a) h

-- what stands in a list with one more element is that element behind all others, or stands in the list
data Stands {X : Type 0} (xs : List X) (x : X) (k : ℕ) (y : X) : Type 0 where
  within : slice_get xs k ≡ Some y → take k (xs ++ x ∷ []) ≡ take k xs → Stands xs x k y
  last : x ≡ y → take k (xs ++ x ∷ []) ≡ xs → Stands xs x k y

stands : {X : Type 0} (xs : List X) (x : X) (k : ℕ) (y : X) → slice_get (xs ++ x ∷ []) k ≡ Some y → Stands xs x k y
stands [] x zero y h = last (some_same h) refl
stands [] x (suc k) y h = absurd (none-some y h)
stands (w ∷ xs) x zero y h = within h refl
stands (w ∷ xs) x (suc k) y h = behind (stands xs x k y h)
  where
    behind : Stands xs x k y → Stands (w ∷ xs) x (suc k) y
    behind (within e t) = within e (ap (λ zs. w ∷ zs) t)
    behind (last e t) = last e (ap (λ zs. w ∷ zs) t)

pub grows : (plan : Plan) (node : PlanNode) → IsPlan plan → fits plan node ≡ true → IsPlan (plan ++ node ∷ [])
grows plan node valid fitting k other h = by_place (stands plan node k other h)
  where
    by_place : Stands plan node k other → fits (take k (plan ++ node ∷ [])) other ≡ true
    by_place (within e t) = ap (λ before. fits before other) t ∙ valid k other e
    by_place (last e t) = ap (λ before. fits before other) t ∙ ap (fits plan) (sym e) ∙ fitting

pub grown_plan : (nodes : List Node) (node : Node) → IsPlan (plan_of nodes) → fits (plan_of nodes) (node_of node) ≡ true → IsPlan (plan_of (nodes ++ node ∷ []))
grown_plan nodes node valid fitting = subst IsPlan (sym (map-append node_of nodes (node ∷ []))) (grows (plan_of nodes) (node_of node) valid fitting)

pub grown_table : (nodes : List Node) (node : Node) (found : List (Option RowKinds)) → found ≡ kinds_table (plan_of nodes)
    → found ++ unwrap_or (node_gives (at_place None found) (node_of node).op) None ∷ [] ≡ kinds_table (plan_of (nodes ++ node ∷ []))
grown_table nodes node found h =
    ap (λ all. all ++ unwrap_or (node_gives (at_place None all) (node_of node).op) None ∷ []) h
    ∙ sym (results-append kinds_step None (plan_of nodes) (node_of node))
    ∙ ap kinds_table (sym (map-append node_of nodes (node ∷ [])))
