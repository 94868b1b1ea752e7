-- A replicated JOIN of a plan is inner, of two inputs or more, or LEFT of two.
use Rattle.std.specs.Prelude.{◌≡◌, ◌==◌, ◌&&◌, ℕ, suc, Bool, true, false, not, List, [], ◌∷◌, length, take, Option, None, Some, slice_get, refl}
use Rattle.std.proofs.Common.{ap, sym, subst, arith, true≢false}
use Rattle.std.specs.List.{list_all, list_any}
use Rattle.std.specs.Option.{is_some, option_and_then, option_map}
use Rattle.std.proofs.lemmas.Bool.{eqb-true}
use Rattle.pig_value.specs.declared.operators.Side.{Side}
use Rattle.pig_value.specs.declared.operators.Side.TheVariants as side
use Rattle.pig_value.specs.FieldReader.{all_of}
use Rattle.pig_value.proofs.OfRead.{OfRead}
use Rattle.pig_typed.proofs.Found.{found_is, tested, then_found}
use Rattle.pig_plan.specs.NodeKinds.{Before, all_keyed, is_join, join_gives, keyed_kinds, keys_agree, kinds_at, node_gives}
use Rattle.pig_plan.specs.Plans.{Keyed, Plan, PlanNode, p_join}
use Rattle.pig_plan.specs.Valid.{IsPlan, is_twin, op_writes_lf}

-- as many are found as are searched
all_many : {X Y : Type 0} (f : X → Option Y) (xs : List X) → OfRead (λ ys. length ys ≡ length xs) (all_of f xs)
all_many f [] = refl
all_many {Y = Y} f (x ∷ xs) = by_first (f x) (all_of f xs) (all_many f xs)
  where
    by_first : (o : Option Y) (r : Option (List Y)) → OfRead (λ ys. length ys ≡ length xs) r
        → OfRead (λ ys. length ys ≡ length (x ∷ xs)) (option_and_then (λ y. option_map (λ more. y ∷ more) r) o)
    by_first None r h = tt
    by_first (Some y) None h = tt
    by_first (Some y) (Some more) h = ap suc h

both_first : (a b : Bool) → (a && b) ≡ true → a ≡ true
both_first true b h = refl
both_first false b h = h

found_of : {A : Type 0} (o : Option A) → is_some o ≡ true → (a : A) × (o ≡ Some a)
found_of None h = absurd (true≢false (sym h))
found_of (Some a) h = (a, refl)

pub is_joined : (plan : Plan) → IsPlan plan → (k statement : ℕ) (keyed : List Keyed) (sd : Side)
    → slice_get plan k ≡ Some (record { op = p_join keyed sd true; statement = statement }) → is_join sd true (length keyed) ≡ true
is_joined plan valid k statement keyed sd at =
    let node : PlanNode = record { op = p_join keyed sd true; statement = statement } in
    let before : Before = kinds_at (take k plan) in
    let given : Bool = is_some (node_gives before (p_join keyed sd true)) in
    let there : given ≡ true =
    both_first given (not (op_writes_lf (p_join keyed sd true)))
    (both_first (given && not (op_writes_lf (p_join keyed sd true))) (not (list_any (is_twin node) (take k plan))) (valid k node at)) in
    let found = found_of (node_gives before (p_join keyed sd true)) there in
    let many : OfRead (λ fs. length fs ≡ length keyed) (all_keyed before keyed) =
    then_found (λ fs. length fs ≡ length keyed) (λ fs. length fs ≡ length keyed) _
    (λ fs same. tested (λ gs. length gs ≡ length keyed) (keys_agree fs) (Some fs) (λ t. same)) (all_of (keyed_kinds before) keyed) (all_many (keyed_kinds before) keyed) in
    found_is (λ g. is_join sd true (length keyed) ≡ true) (join_gives before keyed sd true) found.0 found.1
    (then_found (λ fs. length fs ≡ length keyed) (λ g. is_join sd true (length keyed) ≡ true) _
    (λ fs same. tested (λ g. is_join sd true (length keyed) ≡ true) (is_join sd true (length fs) && list_all (λ input. not input.inner) keyed) _
    (λ t. subst (λ n. is_join sd true n ≡ true) same (both_first (is_join sd true (length fs)) (list_all (λ input. not input.inner) keyed) t)))
    (all_keyed before keyed) many)

never_both : (a : Bool) → (a && false) ≡ true → ⊥
never_both true h = true≢false (sym h)
never_both false h = true≢false (sym h)

-- it is inner, of two inputs or more, or LEFT of two
pub by_side : (G : List Keyed → Side → Type 0) → ((first second : Keyed) (others : List Keyed) → G (first ∷ second ∷ others) side.Inner)
    → ((first second : Keyed) → G (first ∷ second ∷ []) side.Left)
    → (keyed : List Keyed) (sd : Side) → is_join sd true (length keyed) ≡ true → G keyed sd
by_side G inner left [] side.Inner h = absurd (true≢false (sym h))
by_side G inner left (a ∷ []) side.Inner h = absurd (true≢false (sym h))
by_side G inner left (a ∷ b ∷ others) side.Inner h = inner a b others
by_side G inner left [] side.Left h = absurd (true≢false (sym h))
by_side G inner left (a ∷ []) side.Left h = absurd (true≢false (sym h))
by_side G inner left (a ∷ b ∷ []) side.Left h = left a b
by_side G inner left (a ∷ b ∷ c ∷ others) side.Left h = absurd (let e : length (a ∷ b ∷ c ∷ others) ≡ 2 = eqb-true (length (a ∷ b ∷ c ∷ others)) 2 h in omega (arith, e))
by_side G inner left keyed side.Right h = absurd (never_both (length keyed == 2) h)
by_side G inner left keyed side.Full h = absurd (never_both (length keyed == 2) h)
