-- What a live node names of another is in that node's need.
use Rattle.std.specs.Prelude.{◌≡◌, ◌<◌, ◌==◌, ◌+◌, ◌-◌, ◌&&◌, ◌||◌, ℕ, suc, zero, Bool, true, false, List, [], ◌∷◌, ◌++◌, drop, length, Option, Some, None, slice_get, refl, if◌then◌else◌}
use Rattle.std.specs.List.{list_any}
use Rattle.std.proofs.Common.{ap, sym, ◌∙◌, subst, arith, true≢false}
use Rattle.std.proofs.lemmas.Bool.{and_parts, eq-eqb, eqb-true}
use Rattle.std.proofs.lemmas.Option.{none-some}
use Rattle.pig_value.proofs.list_laws.Indexing.{drop-add, get-drop}
use Rattle.pig_value.proofs.list_laws.Listing.{some_same}
use Rattle.pig_plan.specs.Meaning.{width_at}
use Rattle.pig_plan.specs.Nodes.{is_live}
use Rattle.pig_plan.specs.Plans.{Plan, PlanNode}
use Rattle.pig_needs.specs.declared.lists.Need.{Need}
use Rattle.pig_needs.specs.declared.lists.Part.{Part}
use Rattle.pig_needs.specs.declared.lists.Part.TheVariants as part
use Rattle.pig_needs.specs.declared.lists.Use.{Use}
use Rattle.pig_needs.specs.Needed.{is_needed, named_behind, need_of, or_first, same_need, same_part, uses_of, with_all, with_one, with_use, with_uses}

pub first_of : (a b : Bool) → a ≡ true → (a || b) ≡ true
first_of true b h = refl
first_of false b h = absurd (true≢false (sym h))

pub second_of : (a b : Bool) → b ≡ true → (a || b) ≡ true
second_of true b h = refl
second_of false b h = h

pub either_of : {G : Type 0} (a b : Bool) → (a || b) ≡ true → (a ≡ true → G) → (b ≡ true → G) → G
either_of true b h f g = f refl
either_of false b h f g = g h

part_sound : (a b : Part) → same_part a b ≡ true → a ≡ b
part_sound part.Whole part.Whole h = refl
part_sound part.Rows part.Rows h = refl
part_sound (part.Column q) (part.Column r) h = ap part.Column (eqb-true q r h)
part_sound part.Whole part.Rows h = absurd (true≢false (sym h))
part_sound part.Whole (part.Column r) h = absurd (true≢false (sym h))
part_sound part.Rows part.Whole h = absurd (true≢false (sym h))
part_sound part.Rows (part.Column r) h = absurd (true≢false (sym h))
part_sound (part.Column q) part.Whole h = absurd (true≢false (sym h))
part_sound (part.Column q) part.Rows h = absurd (true≢false (sym h))

part_itself : (a : Part) → same_part a a ≡ true
part_itself part.Whole = refl
part_itself part.Rows = refl
part_itself (part.Column q) = eq-eqb q q refl

pub need_sound : (m n : Need) → same_need m n ≡ true → m ≡ n
need_sound m n h =
    let both = and_parts (m.position == n.position) (same_part m.part n.part) h in
    λ i. record { position = eqb-true m.position n.position both.0 i; part = part_sound m.part n.part both.1 i }

pub need_itself : (m : Need) → same_need m m ≡ true
need_itself m = (λ i. eq-eqb m.position m.position refl i && same_part m.part m.part) ∙ part_itself m.part

any_more : (m : Need) (xs ys : List Need) → is_needed m xs ≡ true → is_needed m (xs ++ ys) ≡ true
any_more m [] ys h = absurd (true≢false (sym h))
any_more m (x ∷ xs) ys h =
    either_of (same_need m x) (is_needed m xs) h (λ e. first_of (same_need m x) (is_needed m (xs ++ ys)) e) (λ e. second_of (same_need m x) (is_needed m (xs ++ ys)) (any_more m xs ys e))

pub any_front : (m : Need) (xs ys : List Need) → is_needed m xs ≡ true → is_needed m (xs ++ ys) ≡ true
any_front = any_more

pub any_back : (m : Need) (xs ys : List Need) → is_needed m ys ≡ true → is_needed m (xs ++ ys) ≡ true
any_back m [] ys h = h
any_back m (x ∷ xs) ys h = second_of (same_need m x) (is_needed m (xs ++ ys)) (any_back m xs ys h)

-- ---- needs grow

one_kept : (m n : Need) (need : List Need) → is_needed m need ≡ true → is_needed m (with_one need n) ≡ true
one_kept m n need h = by_test (is_needed n need)
  where
    by_test : (b : Bool) → is_needed m (if b then need else need ++ n ∷ []) ≡ true
    by_test true = h
    by_test false = any_more m need (n ∷ []) h

one_here : (n : Need) (need : List Need) → is_needed n (with_one need n) ≡ true
one_here n need = by_test (is_needed n need) refl
  where
    by_test : (b : Bool) → is_needed n need ≡ b → is_needed n (if b then need else need ++ n ∷ []) ≡ true
    by_test true e = e
    by_test false e = any_back n need (n ∷ []) (first_of (same_need n n) false (need_itself n))

all_kept : (m : Need) (need ns : List Need) → is_needed m need ≡ true → is_needed m (with_all need ns) ≡ true
all_kept m need [] h = h
all_kept m need (n ∷ ns) h = all_kept m (with_one need n) ns (one_kept m n need h)

all_named : (m : Need) (need ns : List Need) → is_needed m ns ≡ true → is_needed m (with_all need ns) ≡ true
all_named m need [] h = absurd (true≢false (sym h))
all_named m need (n ∷ ns) h =
    either_of (same_need m n) (is_needed m ns) h
    (λ e. all_kept m (with_one need n) ns (subst (λ x. is_needed x (with_one need n) ≡ true) (sym (need_sound m n e)) (one_here n need))) (λ e. all_named m (with_one need n) ns e)

use_kept : (k : ℕ) (m : Need) (need : List Need) (one : Use) → is_needed m need ≡ true → is_needed m (with_use k need one) ≡ true
use_kept k m need one h = by_test (one.input == k)
  where
    by_test : (b : Bool) → is_needed m (if b then with_all need one.named else need) ≡ true
    by_test true = all_kept m need one.named h
    by_test false = h

uses_kept : (k : ℕ) (m : Need) (need : List Need) (uses : List Use) → is_needed m need ≡ true → is_needed m (with_uses k need uses) ≡ true
uses_kept k m need [] h = h
uses_kept k m need (one ∷ uses) h = uses_kept k m (with_use k need one) uses (use_kept k m need one h)

-- a use of the node numbered k names this
abbrev pub is_use : ℕ → Need → Use → Bool
is_use k m one = (one.input == k) && is_needed m one.named

abbrev pub are_uses : ℕ → Need → List Use → Bool
are_uses k m uses = list_any (is_use k m) uses

uses_named : (k : ℕ) (m : Need) (need : List Need) (uses : List Use) → are_uses k m uses ≡ true → is_needed m (with_uses k need uses) ≡ true
uses_named k m need [] h = absurd (true≢false (sym h))
uses_named k m need (one ∷ uses) h =
    either_of (is_use k m one) (are_uses k m uses) h
    (λ e. let both = and_parts (one.input == k) (is_needed m one.named) e in
    uses_kept k m (with_use k need one) uses
    (subst (λ b. is_needed m (if b then with_all need one.named else need) ≡ true) (sym both.0) (all_named m need one.named both.1)))
    (λ e. uses_named k m (with_use k need one) uses e)

-- ---- nodes behind

module _ (width : ℕ → ℕ) (alive : ℕ → Bool) (k : ℕ) (m : Need) where
  named_in : (n : ℕ) (nodes : Plan) (j : ℕ) (v : PlanNode) → slice_get nodes j ≡ Some v → alive (n + j) ≡ true
      → are_uses k m (uses_of width (or_first (named_behind width alive (n + j + 1) (drop (j + 1) nodes) (n + j))) v.op) ≡ true
      → is_needed m (named_behind width alive n nodes k) ≡ true
  named_in n [] j v at live h = absurd (none-some v at)
  named_in n (node ∷ nodes) zero v at live h =
      let same : node ≡ v = some_same node v at in
      let here : n + 0 ≡ n = omega arith in
      let lives : alive n ≡ true = ap alive (sym here) ∙ live in
      subst (λ b. is_needed m (if b then with_uses k (named_behind width alive (n + 1) nodes k) (uses_of width (or_first (named_behind width alive (n + 1) nodes n)) node.op) else named_behind width alive (n + 1) nodes k) ≡ true) (sym lives)
      (uses_named k m (named_behind width alive (n + 1) nodes k) (uses_of width (or_first (named_behind width alive (n + 1) nodes n)) node.op)
      (subst (λ i. are_uses k m (uses_of width (or_first (named_behind width alive (i + 1) nodes i)) node.op) ≡ true) here (subst (λ u. are_uses k m (uses_of width (or_first (named_behind width alive (n + 0 + 1) nodes (n + 0))) u.op) ≡ true) (sym same) h)))
  named_in n (node ∷ nodes) (suc j) v at live h = by_live (alive n)
      (named_in (n + 1) nodes j v at (ap alive next ∙ live)
      (subst (λ i. are_uses k m (uses_of width (or_first (named_behind width alive (i + 1) (drop (j + 1) nodes) i)) v.op) ≡ true) (sym next)
      (subst (λ d. are_uses k m (uses_of width (or_first (named_behind width alive (n + suc j + 1) (drop d (node ∷ nodes)) (n + suc j))) v.op) ≡ true) one h)))
    where
      next : n + 1 + j ≡ n + suc j
      next = omega arith

      one : suc j + 1 ≡ suc (j + 1)
      one = omega arith

      by_live : (b : Bool) → is_needed m (named_behind width alive (n + 1) nodes k) ≡ true
          → is_needed m (if b then with_uses k (named_behind width alive (n + 1) nodes k) (uses_of width (or_first (named_behind width alive (n + 1) nodes n)) node.op) else named_behind width alive (n + 1) nodes k) ≡ true
      by_live true g = uses_kept k m (named_behind width alive (n + 1) nodes k) (uses_of width (or_first (named_behind width alive (n + 1) nodes n)) node.op) g
      by_live false g = g

or_first_kept : (m : Need) (need : List Need) → is_needed m need ≡ true → is_needed m (or_first need) ≡ true
or_first_kept m [] h = absurd (true≢false (sym h))
or_first_kept m (n ∷ need) h = h

-- what a live node names of a lower one is needed of it
pub use_needed : (p : Plan) (i k : ℕ) (v : PlanNode) (m : Need) → i < k → slice_get p k ≡ Some v → is_live p k ≡ true → are_uses i m (uses_of (width_at p) (need_of p k) v.op) ≡ true → is_needed m (need_of p i) ≡ true
use_needed p i k v m low at live h =
    let j : ℕ = k - (i + 1) in
    let place : i + 1 + j ≡ k = omega (arith, low) in
    let found : slice_get (drop (i + 1) p) j ≡ Some v = get-drop p (i + 1) j ∙ ap (slice_get p) place ∙ at in
    let behind : drop (j + 1) (drop (i + 1) p) ≡ drop (k + 1) p = drop-add p (i + 1) (j + 1) ∙ ap (λ n. drop n p) (let e : i + 1 + (j + 1) ≡ k + 1 = omega (arith, low) in e) in
    or_first_kept m (named_behind (width_at p) (is_live p) (i + 1) (drop (i + 1) p) i)
    (named_in (width_at p) (is_live p) i m (i + 1) (drop (i + 1) p) j v found (ap (is_live p) place ∙ live)
    (subst (λ n. are_uses i m (uses_of (width_at p) (or_first (named_behind (width_at p) (is_live p) (n + 1) (drop (j + 1) (drop (i + 1) p)) n)) v.op) ≡ true) (sym place)
    (subst (λ nodes. are_uses i m (uses_of (width_at p) (or_first (named_behind (width_at p) (is_live p) (k + 1) nodes k)) v.op) ≡ true) (sym behind) h)))
