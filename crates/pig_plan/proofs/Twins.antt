-- Statements of a plan that ascend: a later one is no other node's.
use Rattle.std.specs.Prelude.{◌≡◌, ◌≤◌, ◌<◌, ◌==◌, ◌&&◌, ◌||◌, ◌++◌, ℕ, Bool, true, false, [], ◌∷◌, max, refl}
use Rattle.std.proofs.Common.{arith, true≢false}
use Rattle.std.specs.List.{list_any}
use Rattle.std.proofs.lemmas.Bool.{eqb-true}
use Rattle.pig_value.proofs.list_laws.Bags.{either_way}
use Rattle.pig_value.proofs.list_laws.Listing.{each-append, each_weaker}
use Rattle.pig_plan.specs.Plans.{Plan, PlanNode}
use Rattle.pig_plan.specs.Valid.{AreUpTo, are_twins, is_twin}

both_second : (a b : Bool) → b ≡ false → (a && b) ≡ false
both_second true b h = h
both_second false b h = refl

neither : (a b : Bool) → a ≡ false → b ≡ false → (a || b) ≡ false
neither true b h g = absurd (true≢false h)
neither false b h g = g

pub none_later : (latest : ℕ) (node : PlanNode) (plan : Plan) → latest < node.statement → AreUpTo latest plan → list_any (is_twin node) plan ≡ false
none_later latest node [] h are = refl
none_later latest node (other ∷ plan) h are =
    neither (is_twin node other) (list_any (is_twin node) plan)
    (both_second (are_twins node.op other.op) (other.statement == node.statement)
    (either_way (other.statement == node.statement) (λ e. let same = eqb-true other.statement node.statement e in let lower = are.0 in absurd (omega (arith, same, lower, h))) (λ e. e)))
    (none_later latest node plan h are.1)

pub up_to_more : (latest : ℕ) (node : PlanNode) (plan : Plan) → AreUpTo latest plan → AreUpTo (max latest node.statement) (plan ++ node ∷ [])
up_to_more latest node plan are =
    each-append (λ other. other.statement ≤ max latest node.statement) plan (node ∷ [])
    (each_weaker (λ other. other.statement ≤ latest) (λ other. other.statement ≤ max latest node.statement) (λ other h. omega (arith, h)) plan are) (omega (arith), tt)
