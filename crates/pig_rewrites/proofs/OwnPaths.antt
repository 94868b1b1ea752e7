-- Where no two STOREs of a plan have one directory, each has a path of its own by its place.
use Rattle.std.specs.Prelude.{◌≡◌, ℕ, zero, suc, Bool, true, false, not, ◌&&◌, ◌||◌, List, [], ◌∷◌, Some, slice_get, refl}
use Rattle.std.proofs.Common.{ap, sym, ◌∙◌, true≢false}
use Rattle.std.proofs.lemmas.Slice.Eq.{bytes_eq-Decides}
use Rattle.pig_value.proofs.list_laws.Listing.{some_same}
use Rattle.pig_plan.specs.Plans.{Plan, PlanNode, PlanOp, p_store}
use Rattle.pig_plan.specs.Valid.{in_order}
use Rattle.pig_reach.specs.Reach.{stores_of}
use Rattle.pig_share.specs.Shared.{HaveOwnPaths, IsSharable, stores_in}
use Rattle.pig_rewrites.specs.Alike.{are_apart, is_stored_in}

-- ---- one node in front of others

-- its STORE has the path just where it is a STORE of that path
front_stored : (path : List ℕ) (statement : ℕ) (o : PlanOp) (p : Plan)
    → is_stored_in path (stores_of (record { op = o; statement = statement } ∷ p)) ≡ (stores_in path o || is_stored_in path (stores_of p))
front_stored path statement (p_store input other delim) p = refl
front_stored path statement o p = refl

later : (a b : Bool) → b ≡ true → (a || b) ≡ true
later true b h = refl
later false b h = h

is_stored : (path : List ℕ) (p : Plan) (k : ℕ) (w : PlanNode) → slice_get p k ≡ Some w → stores_in path w.op ≡ true → is_stored_in path (stores_of p) ≡ true
is_stored path [] k w stands stores = absurd (cc)
is_stored path (v ∷ p) zero w stands stores =
    front_stored path v.statement v.op p
    ∙ ap (λ b. b || is_stored_in path (stores_of p)) (ap (λ n. stores_in path n.op) (some_same v w stands) ∙ stores)
is_stored path (v ∷ p) (suc k) w stands stores =
    front_stored path v.statement v.op p
    ∙ later (stores_in path v.op) (is_stored_in path (stores_of p)) (is_stored path p k w stands stores)

both : (a b : Bool) → (a && b) ≡ true → (a ≡ true) × (b ≡ true)
both true b h = (refl, h)
both false b h = absurd (true≢false (sym h))

never : (b : Bool) → not b ≡ true → b ≡ true → ⊥
never true h e = true≢false (sym h)
never false h e = true≢false (sym e)

others_apart : (statement : ℕ) (o : PlanOp) (p : Plan) → are_apart (stores_of (record { op = o; statement = statement } ∷ p)) ≡ true → are_apart (stores_of p) ≡ true
others_apart statement (p_store input path delim) p apart = (both (not (is_stored_in path (stores_of p))) (are_apart (stores_of p)) apart).1
others_apart statement o p apart = apart

front_alone : (path : List ℕ) (statement : ℕ) (o : PlanOp) (p : Plan) → are_apart (stores_of (record { op = o; statement = statement } ∷ p)) ≡ true
    → stores_in path o ≡ true → is_stored_in path (stores_of p) ≡ true → ⊥
front_alone path statement (p_store input other delim) p apart stores there =
    never (is_stored_in other (stores_of p)) (both (not (is_stored_in other (stores_of p))) (are_apart (stores_of p)) apart).0
    (ap (λ d. is_stored_in d (stores_of p)) ((bytes_eq-Decides other path).0 stores) ∙ there)
front_alone path statement o p apart stores there = true≢false (sym stores)

-- ---- all nodes

own_paths : (p : Plan) → are_apart (stores_of p) ≡ true → HaveOwnPaths p
own_paths [] apart j k v w path at_j at_k stores_v stores_w = absurd (cc)
own_paths (node ∷ p) apart zero zero v w path at_j at_k stores_v stores_w = refl
own_paths (node ∷ p) apart zero (suc k) v w path at_j at_k stores_v stores_w =
    absurd (front_alone path node.statement node.op p apart (ap (λ n. stores_in path n.op) (some_same node v at_j) ∙ stores_v) (is_stored path p k w at_k stores_w))
own_paths (node ∷ p) apart (suc j) zero v w path at_j at_k stores_v stores_w =
    absurd (front_alone path node.statement node.op p apart (ap (λ n. stores_in path n.op) (some_same node w at_k) ∙ stores_w) (is_stored path p j v at_j stores_v))
own_paths (node ∷ p) apart (suc j) (suc k) v w path at_j at_k stores_v stores_w =
    ap suc (own_paths p (others_apart node.statement node.op p apart) j k v w path at_j at_k stores_v stores_w)

pub sharable : (p : Plan) → in_order p ≡ true → are_apart (stores_of p) ≡ true → IsSharable p
sharable p order apart = record { ordered = order; own = own_paths p apart }
