-- Going back over the nodes: what one of them adds to the needs of those before it.
use Rattle.std.specs.Prelude.{◌≡◌, ◌<◌, ◌≤◌, ◌+◌, ◌==◌, ℕ, zero, suc, Bool, true, false, List, [], ◌∷◌, drop, length, map, Some, slice_get, get_or, slice_set, replicate, refl, if◌then◌else◌}
use Rattle.std.proofs.Common.{ap, sym, subst, ◌∙◌, arith, inl, inr}
use Rattle.std.specs.List.{range_with_len}
use Rattle.std.proofs.lemmas.List.{drop_all, get_or-set_same, get_or-set_other}
use Rattle.std.proofs.Math.Nat.{eq-or-lt_of_le}
use Rattle.pig_value.proofs.list_laws.Indexing.{dropped}
use Rattle.pig_plan.specs.Meaning.{width_at}
use Rattle.std.specs.Option.{option_map}
use Rattle.std.proofs.lemmas.List.FromFn.{get_or-map-range_with_len}
use Rattle.std.proofs.lemmas.Option.{get_or_from_slice_get, slice_get-map, slice_get_within}
use Rattle.pig_plan.specs.Nodes.{is_live, live_marks}
use Rattle.pig_plan.specs.declared.nodes.Node.{Node}
use Rattle.pig_plan.specs.Plans.{Plan, PlanNode, node_of, op_of, plan_of}
use Rattle.pig_needs.specs.Found.{AreNeedsFrom, AreUsed}
use Rattle.pig_needs.specs.Needed.{named_behind, need_of, or_first, uses_of, with_all, with_use, with_uses}
use Rattle.pig_needs.specs.declared.lists.Need.{Need}
use Rattle.pig_needs.specs.declared.lists.Use.{Use}

-- some uses are added, and with the others that are left all of them are
pub record StillUsed (i : ℕ) (all left : List Use) (old new : List (List Need)) : Type 0 where
  pub size : length new ≡ length old
  pub behind : (k : ℕ) → i ≤ k → get_or new k [] ≡ get_or old k []
  pub before : (k : ℕ) → k < i → with_uses k (get_or new k []) left ≡ with_uses k (get_or old k []) all

-- ---- one use

other_one : (one : Use) (k : ℕ) (need : List Need) → (one.input == k) ≡ false → with_use k need one ≡ need
other_one one k need h = ap (λ b. if b then with_all need one.named else need) h

-- ---- the nodes in turn

pub none_yet : (plan : Plan) (n : ℕ) (found : List (List Need)) → n ≡ length plan → found ≡ replicate n [] → length found ≡ n → AreNeedsFrom plan n found
none_yet plan n found whole none size = record {
  size = size ∙ whole;
  behind = λ k from below. absurd (omega (arith, whole, from, below));
  before = λ k below. ap (λ xs. get_or xs k []) none ∙ empty n k ∙ sym (nothing k);
}
  where
    empty : (m k : ℕ) → ◌≡◌ {A = List Need} (get_or (replicate m []) k []) []
    empty zero k = refl
    empty (suc m) zero = refl
    empty (suc m) (suc k) = empty m k

    nothing : (k : ℕ) → named_behind (width_at plan) (is_live plan) n (drop n plan) k ≡ []
    nothing k =
        let past : length plan ≤ n = omega (arith, whole) in
        ap (λ nodes. named_behind (width_at plan) (is_live plan) n nodes k) (drop_all n plan past)

module _ (plan : Plan) (i : ℕ) (node : PlanNode) (at : slice_get plan i ≡ Some node) (found mid : List (List Need)) (so_far : AreNeedsFrom plan (i + 1) found)
    (within : i < length found) (done : mid ≡ slice_set found i (or_first (get_or found i []))) where
  behind_it : drop i plan ≡ node ∷ drop (i + 1) plan
  behind_it = dropped plan i node at

  abbrev earlier : ℕ → List Need
  earlier k = named_behind (width_at plan) (is_live plan) (i + 1) (drop (i + 1) plan) k

  pub own_is : get_or mid i [] ≡ need_of plan i
  own_is = ap (λ xs. get_or xs i []) done ∙ get_or-set_same found i (or_first (get_or found i [])) [] within ∙ ap or_first (so_far.before i (omega arith))

  others_are : (k : ℕ) → (k ≡ i → ⊥) → get_or mid k [] ≡ get_or found k []
  others_are k n = ap (λ xs. get_or xs k []) done ∙ get_or-set_other found i k (or_first (get_or found i [])) [] n

  mid_behind : (k : ℕ) → i ≤ k → k < length plan → get_or mid k [] ≡ need_of plan k
  mid_behind k from below = elim (eq-or-lt_of_le from) [
    | inl same ↦ subst (λ n. get_or mid n [] ≡ need_of plan n) same own_is
    | inr more ↦ others_are k (λ e. omega (arith, e, more)) ∙ so_far.behind k (omega (arith, more)) below
  ]

  mid_before : (k : ℕ) → k < i → get_or mid k [] ≡ earlier k
  mid_before k below = others_are k (λ e. omega (arith, e, below)) ∙ so_far.before k (omega (arith, below))

  then_named : (k : ℕ) → named_behind (width_at plan) (is_live plan) i (drop i plan) k
      ≡ (if is_live plan i then with_uses k (earlier k) (uses_of (width_at plan) (need_of plan i) node.op) else earlier k)
  then_named k = ap (λ nodes. named_behind (width_at plan) (is_live plan) i nodes k) behind_it

  pub dead_node : length mid ≡ length found → is_live plan i ≡ false → AreNeedsFrom plan i mid
  dead_node size dead = record {
    size = size ∙ so_far.size;
    behind = mid_behind;
    before = λ k below. mid_before k below
        ∙ sym (then_named k ∙ ap (λ b. if b then with_uses k (earlier k) (uses_of (width_at plan) (need_of plan i) node.op) else earlier k) dead);
  }

  pub live_node : (new : List (List Need)) → length mid ≡ length found → is_live plan i ≡ true
      → AreUsed i (uses_of (width_at plan) (get_or mid i []) node.op) mid new → AreNeedsFrom plan i new
  live_node new size lives used = record {
    size = used.size ∙ size ∙ so_far.size;
    behind = λ k from below. used.behind k from ∙ mid_behind k from below;
    before = λ k below. used.before k below
        ∙ ap (λ need. with_uses k (get_or mid k []) (uses_of (width_at plan) need node.op)) own_is
        ∙ ap (λ need. with_uses k need (uses_of (width_at plan) (need_of plan i) node.op)) (mid_before k below)
        ∙ sym (then_named k ∙ ap (λ b. if b then with_uses k (earlier k) (uses_of (width_at plan) (need_of plan i) node.op) else earlier k) lives);
  }

-- ---- one node of the code

node_there : (nodes : List Node) (k : ℕ) (x : Node) → slice_get nodes k ≡ Some x → slice_get (plan_of nodes) k ≡ Some (node_of x)
node_there nodes k x at = slice_get-map node_of nodes k ∙ ap (option_map node_of) at

mark_is : (p : Plan) (k : ℕ) (b : Bool) (v : PlanNode) → slice_get p k ≡ Some v → slice_get (live_marks p) k ≡ Some b → is_live p k ≡ b
mark_is p k b v at h =
    let within : k < length p = slice_get_within p k v at in
    sym (get_or-map-range_with_len (is_live p) 0 (length p) k k false within (omega arith)) ∙ get_or_from_slice_get (live_marks p) k b false h

module _ (nodes : List Node) (marks : List Bool) (live : marks ≡ live_marks (plan_of nodes)) (i : ℕ) (x : Node) (at : slice_get nodes i ≡ Some x)
    (found mid : List (List Need)) (so_far : AreNeedsFrom (plan_of nodes) (i + 1) found)
    (done : mid ≡ slice_set found i (or_first (get_or found i []))) (size : length mid ≡ length found) where
  here : slice_get (plan_of nodes) i ≡ Some (node_of x)
  here = node_there nodes i x at

  within : i < length found
  within = let less : i < length (plan_of nodes) = slice_get_within (plan_of nodes) i (node_of x) here in let same = so_far.size in omega (arith, less, same)

  lives_as : (b : Bool) → slice_get marks i ≡ Some b → is_live (plan_of nodes) i ≡ b
  lives_as b h = mark_is (plan_of nodes) i b (node_of x) here (ap (λ bs. slice_get bs i) (sym live) ∙ h)

  pub passed_dead : slice_get marks i ≡ Some false → AreNeedsFrom (plan_of nodes) i mid
  passed_dead h = dead_node (plan_of nodes) i (node_of x) here found mid so_far within done size (lives_as false h)

  pub passed_live : (new : List (List Need)) → slice_get marks i ≡ Some true
      → AreUsed i (uses_of (width_at (plan_of nodes)) (get_or mid i []) (op_of x.op)) mid new → AreNeedsFrom (plan_of nodes) i new
  passed_live new h used = live_node (plan_of nodes) i (node_of x) here found mid so_far within done new size (lives_as true h) used

-- ---- all of them

by_places : (f : ℕ → List Need) (a n : ℕ) (found : List (List Need)) → length found ≡ n → ((k : ℕ) → k < n → get_or found k [] ≡ f (a + k)) → found ≡ map f (range_with_len a n)
by_places f a zero [] size each = refl
by_places f a zero (x ∷ found) size each = absurd (omega (arith, size))
by_places f a (suc n) [] size each = absurd (omega (arith, size))
by_places f a (suc n) (x ∷ found) size each =
    let here : a + 0 ≡ a = omega arith in
    ap (λ y. y ∷ found) (each 0 (omega arith) ∙ ap f here)
    ∙ ap (λ more. f a ∷ more) (by_places f (a + 1) n found (omega (arith, size))
    (λ k below. each (suc k) (omega (arith, below)) ∙ (let e : a + suc k ≡ a + 1 + k = omega arith in ap f e)))

pub needs_are : (plan : Plan) (found : List (List Need)) → AreNeedsFrom plan 0 found → found ≡ map (need_of plan) (range_with_len 0 (length plan))
needs_are plan found told =
    by_places (need_of plan) 0 (length plan) found told.size
    (λ k below. told.behind k (omega arith) below ∙ (let e : k ≡ 0 + k = omega arith in ap (need_of plan) e))
