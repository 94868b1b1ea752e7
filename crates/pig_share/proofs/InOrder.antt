-- Plans whose nodes stand in the order of their statements.
use Rattle.std.specs.Prelude.{◌≡◌, ◌≤◌, ◌&&◌, ℕ, zero, suc, Bool, true, false, [], ◌∷◌, map, nat_le, Some, slice_get, refl}
use Rattle.std.proofs.Common.{ap, sym, ◌∙◌, arith, true≢false}
use Rattle.std.proofs.lemmas.Bool.{leb-true}
use Rattle.pig_value.proofs.list_laws.Listing.{some_same}
use Rattle.pig_plan.specs.Plans.{Plan, PlanNode}
use Rattle.pig_plan.specs.Renumbered.{renamed}
use Rattle.pig_plan.specs.Valid.{ascends_from, in_order}

both : (a b : Bool) → (a && b) ≡ true → (a ≡ true) × (b ≡ true)
both true b h = (refl, h)
both false b h = absurd (true≢false (sym h))

module _ (at : ℕ → ℕ) where
  from_kept : (n : ℕ) (p : Plan) → ascends_from n (map (renamed at) p) ≡ ascends_from n p
  from_kept n [] = refl
  from_kept n (v ∷ p) = ap (λ b. nat_le n v.statement && b) (from_kept v.statement p)

  -- it is so still once inputs are mapped
  pub order_kept : (p : Plan) → in_order (map (renamed at) p) ≡ in_order p
  order_kept p = from_kept 0 p

behind : (n : ℕ) (p : Plan) → ascends_from n p ≡ true → (k : ℕ) (v : PlanNode) → slice_get p k ≡ Some v → n ≤ v.statement
behind n [] h k v stands = absurd (cc)
behind n (u ∷ p) h zero v stands =
    let t = both (nat_le n u.statement) (ascends_from u.statement p) h in
    let first : n ≤ u.statement = leb-true n u.statement t.0 in
    let same : u.statement ≡ v.statement = ap (λ w. w.statement) (some_same u v stands) in
    omega (arith, first, same)
behind n (u ∷ p) h (suc k) v stands =
    let t = both (nat_le n u.statement) (ascends_from u.statement p) h in
    let first : n ≤ u.statement = leb-true n u.statement t.0 in
    let later : u.statement ≤ v.statement = behind u.statement p t.1 k v stands in
    omega (arith, first, later)

from_on : (n : ℕ) (p : Plan) → ascends_from n p ≡ true → (j k : ℕ) (u v : PlanNode) → j ≤ k → slice_get p j ≡ Some u → slice_get p k ≡ Some v → u.statement ≤ v.statement
from_on n [] h j k u v before at_j at_k = absurd (cc)
from_on n (w ∷ p) h zero zero u v before at_j at_k =
    let same : u.statement ≡ v.statement = ap (λ x. x.statement) (some_same u v (sym at_j ∙ at_k)) in
    omega (arith, same)
from_on n (w ∷ p) h zero (suc k) u v before at_j at_k =
    let t = both (nat_le n w.statement) (ascends_from w.statement p) h in
    let same : w.statement ≡ u.statement = ap (λ x. x.statement) (some_same w u at_j) in
    let later : w.statement ≤ v.statement = behind w.statement p t.1 k v at_k in
    omega (arith, same, later)
from_on n (w ∷ p) h (suc j) zero u v before at_j at_k = absurd (omega (arith, before))
from_on n (w ∷ p) h (suc j) (suc k) u v before at_j at_k =
    let t = both (nat_le n w.statement) (ascends_from w.statement p) h in
    from_on w.statement p t.1 j k u v (omega (arith, before)) at_j at_k

-- of two nodes the earlier has no later statement
pub no_later_before : (p : Plan) → in_order p ≡ true → (j k : ℕ) (u v : PlanNode) → j ≤ k → slice_get p j ≡ Some u → slice_get p k ≡ Some v → u.statement ≤ v.statement
no_later_before p h j k u v before at_j at_k = from_on 0 p h j k u v before at_j at_k
