-- The nodes of a script's plan stand in the order of its statements: each adds nodes of its own number behind those of lower numbers.
use Rattle.std.proofs.Common.{◌≡◌, ◌∙◌, ◌≤◌, ◌++◌, ◌&&◌, ℕ, Bool, true, false, List, [], ◌∷◌, map, refl, sym, ap, arith, true≢false, le-leb}
use Rattle.std.specs.Prelude.{nat_le}
use Rattle.std.specs.List.{AllByRecursion}
use Rattle.pig_syntax.specs.declared.trees.Stmt.{Stmt}
use Rattle.pig_plan.specs.Plans.{Plan, PlanOp}
use Rattle.pig_plan.specs.Valid.{ascends_from, in_order}
use Rattle.pig_check.specs.Scripts.{IsPlanOf, TypesAll, next_types, none_left, plan_of_all}
use Rattle.pig_check.specs.States.{IsEarlier, State, node_of_statement}
use Rattle.pig_check.proofs.Steps.{all_earlier}

both : (a b : Bool) → (a && b) ≡ true → (a ≡ true) × (b ≡ true)
both true b h = (refl, h)
both false b h = absurd (true≢false (sym h))

-- nodes of one statement are in order
one_statement : (least statement : ℕ) (os : List PlanOp) → least ≤ statement → ascends_from least (map (node_of_statement statement) os) ≡ true
one_statement least statement [] h = refl
one_statement least statement (o ∷ os) h =
    ap (λ b. b && ascends_from statement (map (node_of_statement statement) os)) (le-leb least statement h) ∙ one_statement statement statement os (omega arith)

-- so they are behind nodes of earlier statements
behind_earlier : (least statement : ℕ) (p : Plan) (os : List PlanOp) → least ≤ statement → ascends_from least p ≡ true → AllByRecursion (IsEarlier statement) p
    → ascends_from least (p ++ map (node_of_statement statement) os) ≡ true
behind_earlier least statement [] os h order earlier = one_statement least statement os h
behind_earlier least statement (node ∷ p) os h order earlier =
    let t = both (nat_le least node.statement) (ascends_from node.statement p) order in
    let first = earlier.0 in
    ap (λ b. b && ascends_from node.statement (p ++ map (node_of_statement statement) os)) t.0
    ∙ behind_earlier node.statement statement p os (omega (arith, first)) t.1 earlier.1

all_in_order : {n : ℕ} {s t : State} {ss : List Stmt} → TypesAll n s ss t → in_order s.nodes ≡ true → AllByRecursion (IsEarlier n) s.nodes → in_order t.nodes ≡ true
all_in_order none_left order earlier = order
all_in_order {n = n} {s = s} (next_types {added = added} h hs) order earlier =
    all_in_order hs (behind_earlier 0 n s.nodes added.ops (omega arith) order earlier) (all_earlier n s.nodes added.ops earlier)

pub in_statement_order : {ss : List Stmt} {plan : Plan} → IsPlanOf ss plan → in_order plan ≡ true
in_statement_order (plan_of_all h) = all_in_order h refl tt
