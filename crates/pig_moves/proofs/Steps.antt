-- What the code's loops and tests say of plans, over plain data.
use Rattle.std.specs.Prelude.{◌≡◌, ◌<◌, ◌≤◌, ◌+◌, ◌-◌, ◌==◌, ◌&&◌, ◌||◌, not, ℕ, zero, suc, Bool, true, false, List, [], ◌∷◌, ◌++◌, map, length, take, Option, Some, None, slice_get, slice_set, refl}
use Rattle.std.proofs.Common.{ap, sym, ◌∙◌, subst, arith, true≢false, append_assoc, append-nil}
use Rattle.std.proofs.Math.Nat.{eq-or-lt_of_le}
use Rattle.std.proofs.lemmas.Bool.{cases_lt}
use Rattle.std.proofs.Common.{inl, inr}
use Rattle.std.specs.Prelude.{Err, IfOk, MatchOption, Ok, Result}
use Rattle.std.specs.declared.alloc.AllocError.{AllocError}
use Rattle.std.specs.List.{filter, list_all, list_any}
use Rattle.std.specs.Option.{option_map}
use Rattle.std.proofs.lemmas.Bool.{eq-eqb, eqb-true}
use Rattle.std.proofs.lemmas.List.{length-append, length-map, map-append, map-set}
use Rattle.std.proofs.lemmas.List.FromFn.{get_or-map-range_with_len}
use Rattle.std.proofs.lemmas.Option.{get_or_from_slice_get, none-some, slice_get_past, slice_get_within}
use Rattle.pig_value.proofs.list_laws.Elementwise.{get-behind}
use Rattle.pig_value.proofs.list_laws.Indexing.{get_map, more_taken}
use Rattle.pig_value.proofs.list_laws.Listing.{some_same}
use Rattle.pig_value.specs.declared.operators.ChainOp.{ChainOp}
use Rattle.pig_value.specs.declared.operators.Rel.{Rel}
use Rattle.pig_typed.specs.declared.exprs.TExpr.{TExpr}
use Rattle.pig_typed.specs.declared.exprs.TLink.{TLink}
use Rattle.pig_typed.specs.declared.exprs.TExpr.TheOpen.{TExpr-F}
use Rattle.pig_typed.specs.declared.exprs.TExpr.TheFolds.{fold-roll-TExpr}
use Rattle.pig_typed.specs.declared.exprs.TExpr.TheVariants as expr
use Rattle.pig_typed.specs.Premises.{FunctionsKeepKinds}
use Rattle.pig_typed.specs.Typed.{Typed, args_of, link_of, link_step, links_of, more_args, more_links, typed, typed_step, x_chain, x_choose, x_compare}
use Rattle.pig_plan.proofs.Unfolds.{get-front}
use Rattle.pig_plan.specs.declared.nodes.Node.{Node}
use Rattle.pig_plan.specs.Conjuncts.{conjuncts, link_conjuncts}
use Rattle.pig_plan.specs.Meaning.{width_at}
use Rattle.pig_plan.specs.Moves.{arg_fields, fields_in, link_fields, put, put_args, put_links}
use Rattle.pig_plan.specs.Nodes.{IsOnlyUse, is_live, live_marks, names}
use Rattle.pig_plan.specs.Plans.{Plan, PlanNode, PlanOp, node_of, p_distinct, p_filter, plan_of}
use Rattle.pig_plan.specs.Rewrites.{SameMeaning}
use Rattle.pig_plan.specs.Valid.{IsPlan}
use Rattle.pig_moves.proofs.Chains.{SomeOf, some_of}
use Rattle.pig_moves.proofs.Splits.{others_there, some_pass_there}
use Rattle.pig_moves.proofs.Tidy.{pushed_means}
use Rattle.pig_moves.specs.Pushed.{AreMoves, AreNew, ArePartsOf, CanMove, IsCleared, IsClearedTo, IsMove, IsNext, IsPushed, CanPart, all_pass, may_pass, some_pass, is_union, chained, linked, passes_at, reads_nothing}
use Rattle.pig_moves.specs.Depths.{filter_depth, most_levels}
use Rattle.pig_moves.specs.Putting.{put_link}
use Rattle.pig_moves.proofs.Keeps.{node_with}

-- ---- expressions, and those in lists

-- the trees of two forms
pub typed_compare : (r : Rel) (a b : TExpr) → typed (expr.Compare r a b) ≡ x_compare r (typed a) (typed b)
typed_compare r a b = ap typed (sym (expr.rolls-Compare r a b)) ∙ fold-roll-TExpr Typed (ChainOp × Typed) typed_step link_step (TExpr-F.Compare r a b)

pub typed_choose : (test a b : TExpr) → typed (expr.Choose test a b) ≡ x_choose (typed test) (typed a) (typed b)
typed_choose test a b = ap typed (sym (expr.rolls-Choose test a b)) ∙ fold-roll-TExpr Typed (ChainOp × Typed) typed_step link_step (TExpr-F.Choose test a b)

pub links_put : (f : ℕ → Typed) (ls : List (ChainOp × Typed)) → links_of (map (put_link f) ls) ≡ put_links f (links_of ls)
links_put f [] = refl
links_put f (l ∷ ls) = ap (λ more. more_links l.0 (put f l.1) more) (links_put f ls)

pub args_put : (f : ℕ → Typed) (es : List Typed) → args_of (map (put f) es) ≡ put_args f (args_of es)
args_put f [] = refl
args_put f (e ∷ es) = ap (λ more. more_args (put f e) more) (args_put f es)

-- ---- clearing

-- what stands in a list with one element more
pub data Stands {X : Type 0} (xs : List X) (x : X) (n : ℕ) (y : X) : Type 0 where
  before : slice_get xs n ≡ Some y → Stands xs x n y
  last : n ≡ length xs → x ≡ y → Stands xs x n y

pub stands : {X : Type 0} (xs : List X) (x y : X) (n : ℕ) → slice_get (xs ++ x ∷ []) n ≡ Some y → Stands xs x n y
stands [] x y zero h = last refl (some_same x y h)
stands [] x y (suc n) h = absurd (none-some y (sym (slice_get_past [] n (omega arith)) ∙ h))
stands (w ∷ xs) x y zero h = before h
stands (w ∷ xs) x y (suc n) h = behind (stands xs x y n h)
  where
    behind : Stands xs x n y → Stands (w ∷ xs) x (suc n) y
    behind (before e) = before e
    behind (last e f) = last (ap (λ m. suc m) e) f

pub there_last : {X : Type 0} (xs : List X) (x : X) (n : ℕ) → n ≡ length xs → slice_get (xs ++ x ∷ []) n ≡ Some x
there_last xs x n h =
    let e : n ≡ length xs + 0 = omega (arith, h) in
    ap (slice_get (xs ++ x ∷ [])) e ∙ get-behind xs (x ∷ []) 0

pub cleared_next : (p made grown : Plan) (n : ℕ) (w : PlanNode) → IsClearedTo p made n → IsNext p n w → grown ≡ made ++ w ∷ [] → IsClearedTo p grown (n + 1)
cleared_next p made grown n w so_far next is = subst (λ q. IsClearedTo p q (n + 1)) (sym is) (record {
  size = length-append made (w ∷ []) ∙ (let size = so_far.size in omega (arith, size));
  lives = λ m v below at alive. elim (eq-or-lt_of_le (let e : m ≤ n = omega (arith, below) in e)) [
    | inl same ↦
        let size = so_far.size in
        there_last made w m (omega (arith, same, size))
        ∙ ap Some (next.lives v (ap (slice_get p) (sym same) ∙ at) (ap (is_live p) (sym same) ∙ alive))
    | inr lower ↦
        let size = so_far.size in
        get-front made (w ∷ []) m (omega (arith, lower, size)) ∙ so_far.lives m v lower at alive
  ];
  dead = λ m u there dead. by_place m u dead (stands made w u m there);
})
  where
    by_place : (m : ℕ) (u : PlanNode) → is_live p m ≡ false → Stands made w m u → reads_nothing u.op
    by_place m u dead (before e) = so_far.dead m u e dead
    by_place m u dead (last e f) = let size = so_far.size in
        ap (λ x. x.op) (sym f) ∙ next.dead (ap (is_live p) (let k : n ≡ m = omega (arith, e, size) in k) ∙ dead)

pub cleared_all : (p q : Plan) (n : ℕ) → n ≡ length p → IsClearedTo p q n → IsCleared p q
cleared_all p q n whole so_far = record {
  size = so_far.size ∙ whole;
  lives = λ m v at alive. let within = slice_get_within p m v at in so_far.lives m v (omega (arith, within, whole)) at alive;
  dead = so_far.dead;
}

pub node_there : (nodes : List Node) (k : ℕ) (x : Node) → slice_get nodes k ≡ Some x → slice_get (plan_of nodes) k ≡ Some (node_of x)
node_there nodes k x h = get_map node_of nodes k ∙ ap (option_map node_of) h

mark_is : (p : Plan) (k : ℕ) (b : Bool) (v : PlanNode) → slice_get p k ≡ Some v → slice_get (live_marks p) k ≡ Some b → is_live p k ≡ b
mark_is p k b v at h =
    let within : k < length p = slice_get_within p k v at in
    sym (get_or-map-range_with_len (is_live p) 0 (length p) k k false within (omega arith)) ∙ get_or_from_slice_get (live_marks p) k b false h

module _ (nodes : List Node) (marks : List Bool) (live : marks ≡ live_marks (plan_of nodes)) (k : ℕ) (x : Node) (at : slice_get nodes k ≡ Some x) where
  lives_as : (b : Bool) → slice_get marks k ≡ Some b → is_live (plan_of nodes) k ≡ b
  lives_as b h = mark_is (plan_of nodes) k b (node_of x) (node_there nodes k x at) (ap (λ bs. slice_get bs k) (sym live) ∙ h)

  pub next_live : (w : PlanNode) → slice_get marks k ≡ Some true → w ≡ node_of x → IsNext (plan_of nodes) k w
  next_live w h is = record {
    within = slice_get_within (plan_of nodes) k (node_of x) (node_there nodes k x at);
    lives = λ v stands alive. is ∙ some_same (node_of x) v (sym (node_there nodes k x at) ∙ stands);
    dead = λ dead. absurd (true≢false (sym (lives_as true h) ∙ dead));
  }

  pub next_dead : (w : PlanNode) → slice_get marks k ≡ Some false → reads_nothing w.op → IsNext (plan_of nodes) k w
  next_dead w h is = record {
    within = slice_get_within (plan_of nodes) k (node_of x) (node_there nodes k x at);
    lives = λ v stands alive. absurd (true≢false (sym alive ∙ lives_as false h));
    dead = λ dead. is;
  }

-- ---- what is found below a FILTER

abbrev pub NoMove : List Node → ℕ → Type 0
NoMove nodes k = (i : ℕ) → CanPart (plan_of nodes) i k → ⊥

pub none_there : (nodes : List Node) (k : ℕ) → slice_get nodes k ≡ None → NoMove nodes k
none_there nodes k h i m = none-some (node_with (p_filter i m.cond) m.statement) (sym (get_map node_of nodes k ∙ ap (option_map node_of) h) ∙ m.above)

abbrev input_of : PlanOp → ℕ
input_of (p_filter input c) = input
input_of o = 0

abbrev cond_of : Typed → PlanOp → Typed
cond_of d (p_filter input c) = c
cond_of d o = d

module _ (nodes : List Node) (k : ℕ) (x : Node) (at : slice_get nodes k ≡ Some x) (input : ℕ) (c : Typed) (is : (node_of x).op ≡ p_filter input c) where
  above_is : slice_get (plan_of nodes) k ≡ Some (node_with (p_filter input c) (node_of x).statement)
  above_is = node_there nodes k x at ∙ ap (λ o. Some (node_with o (node_of x).statement)) is

  same_node : (i : ℕ) (m : CanPart (plan_of nodes) i k) → node_with (p_filter input c) (node_of x).statement ≡ node_with (p_filter i m.cond) m.statement
  same_node i m = some_same (node_with (p_filter input c) (node_of x).statement) (node_with (p_filter i m.cond) m.statement) (sym above_is ∙ m.above)

  same_input : (i : ℕ) (m : CanPart (plan_of nodes) i k) → input ≡ i
  same_input i m = ap (λ v. input_of v.op) (same_node i m)

  same_cond : (i : ℕ) (m : CanPart (plan_of nodes) i k) → c ≡ m.cond
  same_cond i m = ap (λ v. cond_of c v.op) (same_node i m)

  pub no_input : slice_get nodes input ≡ None → NoMove nodes k
  no_input h i m = none-some m.below (sym (get_map node_of nodes input ∙ ap (option_map node_of) h) ∙ ap (slice_get (plan_of nodes)) (same_input i m) ∙ m.stands)

  module _ (y : Node) (under : slice_get nodes input ≡ Some y) where
    same_below : (i : ℕ) (m : CanPart (plan_of nodes) i k) → node_of y ≡ m.below
    same_below i m = some_same (node_of y) m.below (sym (node_there nodes input y under) ∙ ap (slice_get (plan_of nodes)) (same_input i m) ∙ m.stands)

    pub not_passing : some_pass (width_at (plan_of nodes)) (node_of y).op c ≡ false → NoMove nodes k
    not_passing h i m = true≢false (sym m.passes ∙ (λ j. some_pass (width_at (plan_of nodes)) ((sym (same_below i m) j).op) (sym (same_cond i m) j)) ∙ h)

    pub not_only : (IsOnlyUse (plan_of nodes) input k → ⊥) → NoMove nodes k
    not_only h i m = h (subst (λ n. IsOnlyUse (plan_of nodes) n k) (sym (same_input i m)) m.only)

    pub can_move : all_pass (width_at (plan_of nodes)) (node_of y).op c ≡ true → IsOnlyUse (plan_of nodes) input k → CanMove (plan_of nodes) input k
    can_move h only = record {
      below = node_of y;
      cond = c;
      statement = (node_of x).statement;
      stands = node_there nodes input y under;
      above = above_is;
      only = only;
      passes = h;
    }

    -- the two parts of its condition, where there are conjuncts of both
    pub parts_of : (place : ℕ) (all lows highs : List Typed) (low high : Typed) → all ≡ conjuncts c
        → lows ≡ filter (passes_at (width_at (plan_of nodes)) (node_of y).op place) all → 0 < length lows → low ≡ chained lows
        → highs ≡ filter (λ e. not (passes_at (width_at (plan_of nodes)) (node_of y).op place e)) all → 0 < length highs → high ≡ chained highs
        → ArePartsOf (plan_of nodes) k input (node_of x).statement low high
    parts_of place all lows highs low high whole low_all low_some low_is high_all high_some high_is =
        let test : Typed → Bool = passes_at (width_at (plan_of nodes)) (node_of y).op place in
        let lows_are : lows ≡ filter test (conjuncts c) = low_all ∙ ap (filter test) whole in
        let highs_are : highs ≡ filter (λ e. not (test e)) (conjuncts c) = high_all ∙ ap (filter (λ e. not (test e))) whole in
        record {
          cond = c;
          parts = record {
            below = node_of y;
            place = place;
            stands = node_there nodes input y under;
            above = above_is;
            some = some_pass_there test (conjuncts c) (subst (λ cs. 0 < length cs) lows_are low_some);
            others = others_there test (conjuncts c) (subst (λ cs. 0 < length cs) highs_are high_some);
          };
          low_is = low_is ∙ ap chained lows_are;
          high_is = high_is ∙ ap chained highs_are;
        }

-- the nodes behind one, and that one
pub one_before : (nodes : List Node) (count behind : ℕ) → behind < count → ((k : ℕ) → count ≤ k + behind → k < count → NoMove nodes k) → NoMove nodes (count - 1 - behind)
    → (k : ℕ) → count ≤ k + (behind + 1) → k < count → NoMove nodes k
one_before nodes count behind within never here k more below = elim (cases_lt (k + behind) count) [
  | inl lower ↦ (let at : count - 1 - behind ≡ k = omega (arith, within, more, lower) in subst (NoMove nodes) at here)
  | inr none ↦ never k (omega (arith, none)) below
]

-- no other use so far, and in all
abbrev pub NoOther : List Node → ℕ → ℕ → ℕ → Type 0
NoOther nodes i k end = (n : ℕ) (v : PlanNode) → n < end → slice_get (plan_of nodes) n ≡ Some v → names v.op i ≡ true → n ≡ k

not_both : (a b : Bool) → (not a && b) ≡ false → b ≡ true → a ≡ true
not_both true b h e = refl
not_both false b h e = absurd (true≢false (sym e ∙ h))

pub no_other_more : (nodes : List Node) (i k n : ℕ) (x : Node) → slice_get nodes n ≡ Some x → (not (n == k) && names (node_of x).op i) ≡ false → NoOther nodes i k n → NoOther nodes i k (n + 1)
no_other_more nodes i k n x at h so_far m v below stands name = elim (eq-or-lt_of_le (let e : m ≤ n = omega (arith, below) in e)) [
  | inl same ↦
      let is : node_of x ≡ v = some_same (node_of x) v (sym (node_there nodes n x at) ∙ ap (slice_get (plan_of nodes)) (sym same) ∙ stands) in
      same ∙ eqb-true n k (not_both (n == k) (names (node_of x).op i) h (ap (λ u. names u.op i) is ∙ name))
  | inr lower ↦ so_far m v lower stands name
]

both_true : (a b : Bool) → (not a && b) ≡ true → (a ≡ false) × (b ≡ true)
both_true true b h = absurd (true≢false (sym h))
both_true false b h = (refl, h)

pub other_use : (nodes : List Node) (i k n : ℕ) (x : Node) → slice_get nodes n ≡ Some x → (not (n == k) && names (node_of x).op i) ≡ true → IsOnlyUse (plan_of nodes) i k → ⊥
other_use nodes i k n x at h only =
    let two = both_true (n == k) (names (node_of x).op i) h in
    true≢false (sym (eq-eqb n k (only n (node_of x) (node_there nodes n x at) two.1)) ∙ two.0)

pub only_use : (nodes : List Node) (i k end : ℕ) → length nodes ≤ end → NoOther nodes i k end → IsOnlyUse (plan_of nodes) i k
only_use nodes i k end whole none n v stands name =
    let within = slice_get_within (plan_of nodes) n v stands in
    let long = length-map nodes node_of in
    none n v (omega (arith, within, long, whole)) stands name

pub none_at_all : (nodes : List Node) (end : ℕ) → end ≡ length nodes → ((k : ℕ) → k < end → NoMove nodes k) → (i k : ℕ) → CanPart (plan_of nodes) i k → ⊥
none_at_all nodes end whole never i k m =
    let within = slice_get_within (plan_of nodes) k (node_with (p_filter i m.cond) m.statement) m.above in
    let long = length-map nodes node_of in
    never k (omega (arith, within, long, whole)) i m

-- ---- a move

pub is_move : (nodes made : List Node) (i k : ℕ) (low high : Node) → CanMove (plan_of nodes) i k → AreNew (plan_of nodes) i k (node_of low) (node_of high) → made ≡ slice_set (slice_set nodes i low) k high
    → IsMove (plan_of nodes) (plan_of made) i k
is_move nodes made i k low high can new is = record {
  can = can;
  is = ap plan_of is ∙ map-set node_of (slice_set nodes i low) k high ∙ ap (λ xs. slice_set xs k (node_of high)) (map-set node_of nodes i low)
      ∙ (λ j. slice_set (slice_set (plan_of nodes) i (new.low_is can.below can.cond can.statement can.stands can.above j)) k (new.high_is can.below can.cond can.statement can.stands can.above j));
  nests = λ inputs e. subst (λ v. filter_depth v.op ≤ most_levels) (new.low_is can.below can.cond can.statement can.stands can.above) (new.nests can.below inputs can.stands e);
}

-- the result as it comes: nothing is known of a refusal
pub all_pushed : (r : Result (List Node) AllocError) (p q : Plan) → IsPlan q → IsCleared p q → IfOk r (λ m. AreMoves q (plan_of m)) → IfOk r (λ m. IsPushed p (plan_of m))
all_pushed (Ok m) p q valid_q is moves = record { cleared = q; valid = valid_q; clears = is; moves = moves }
all_pushed (Err e) p q valid_q is moves = tt

pub means_pushed : FunctionsKeepKinds → (r : Result (List Node) AllocError) (p : Plan) → IsPlan p → IfOk r (λ m. IsPushed p (plan_of m)) → IfOk r (λ m. SameMeaning p (plan_of m))
means_pushed functions (Ok m) p valid pushed = pushed_means functions p (plan_of m) valid pushed
means_pushed functions (Err e) p valid pushed = tt

-- where nothing is found, what holds then
pub first_of : {X A : Type 0} (B : X → Type 0) (o : Option X) → MatchOption o A B → ((x : X) → o ≡ Some x → ⊥) → A
first_of B None h none = h
first_of B (Some x) h none = absurd (none x refl)

-- ---- conjuncts

pub typed_chain : (first : TExpr) (rest : List TLink) → typed (expr.Chain first rest) ≡ x_chain (typed first) (links_of (map link_of rest))
typed_chain first rest = ap typed (sym (expr.rolls-Chain first rest)) ∙ fold-roll-TExpr Typed (ChainOp × Typed) typed_step link_step (TExpr-F.Chain first rest)

pub linked_some : (first : Typed) (rest : List TLink) → (rest ≡ [] → ⊥) → x_chain first (links_of (map link_of rest)) ≡ linked first (links_of (map link_of rest))
linked_some first [] h = absurd (h refl)
linked_some first (l ∷ rest) h = refl

link_conjuncts_joined : (xs ys : List (ChainOp × Typed)) → link_conjuncts (links_of (xs ++ ys)) ≡ link_conjuncts (links_of xs) ++ link_conjuncts (links_of ys)
link_conjuncts_joined [] ys = refl
link_conjuncts_joined (x ∷ xs) ys = ap (λ cs. conjuncts x.1 ++ cs) (link_conjuncts_joined xs ys) ∙ sym (append_assoc (conjuncts x.1) (link_conjuncts (links_of xs)) (link_conjuncts (links_of ys)))

pub links_taken : (links : List TLink) (i : ℕ) (l : TLink) → slice_get links i ≡ Some l
    → link_conjuncts (links_of (map link_of (take (i + 1) links))) ≡ link_conjuncts (links_of (map link_of (take i links))) ++ conjuncts (link_of l).1
links_taken links i l h =
    ap (λ ls. link_conjuncts (links_of (map link_of ls))) (more_taken links i l h)
    ∙ ap (λ ls. link_conjuncts (links_of ls)) (map-append link_of (take i links) (l ∷ []))
    ∙ link_conjuncts_joined (map link_of (take i links)) (link_of l ∷ [])
    ∙ ap (λ cs. link_conjuncts (links_of (map link_of (take i links))) ++ cs) (append-nil (conjuncts (link_of l).1))

-- the loop that adds them
pub links_added : (links : List TLink) (i : ℕ) (l : TLink) (old so_far new : List Typed) → slice_get links i ≡ Some l → so_far ≡ old ++ link_conjuncts (links_of (map link_of (take i links)))
    → new ≡ so_far ++ conjuncts (link_of l).1 → new ≡ old ++ link_conjuncts (links_of (map link_of (take (i + 1) links)))
links_added links i l old so_far new at is added =
    added ∙ ap (λ cs. cs ++ conjuncts (link_of l).1) is
    ∙ append_assoc old (link_conjuncts (links_of (map link_of (take i links)))) (conjuncts (link_of l).1)
    ∙ ap (λ cs. old ++ cs) (sym (links_taken links i l at))

-- ---- columns

link_fields_joined : (xs ys : List (ChainOp × Typed)) → link_fields (links_of (xs ++ ys)) ≡ link_fields (links_of xs) ++ link_fields (links_of ys)
link_fields_joined [] ys = refl
link_fields_joined (x ∷ xs) ys = ap (λ ns. fields_in x.1 ++ ns) (link_fields_joined xs ys) ∙ sym (append_assoc (fields_in x.1) (link_fields (links_of xs)) (link_fields (links_of ys)))

arg_fields_joined : (xs ys : List Typed) → arg_fields (args_of (xs ++ ys)) ≡ arg_fields (args_of xs) ++ arg_fields (args_of ys)
arg_fields_joined [] ys = refl
arg_fields_joined (x ∷ xs) ys = ap (λ ns. fields_in x ++ ns) (arg_fields_joined xs ys) ∙ sym (append_assoc (fields_in x) (arg_fields (args_of xs)) (arg_fields (args_of ys)))

pub link_fields_added : (links : List TLink) (i : ℕ) (l : TLink) (old so_far new : List ℕ) → slice_get links i ≡ Some l → so_far ≡ old ++ link_fields (links_of (map link_of (take i links)))
    → new ≡ so_far ++ fields_in (link_of l).1 → new ≡ old ++ link_fields (links_of (map link_of (take (i + 1) links)))
link_fields_added links i l old so_far new at is added =
    added ∙ ap (λ ns. ns ++ fields_in (link_of l).1) is
    ∙ append_assoc old (link_fields (links_of (map link_of (take i links)))) (fields_in (link_of l).1)
    ∙ ap (λ ns. old ++ (link_fields (links_of (map link_of (take i links))) ++ ns)) (sym (append-nil (fields_in (link_of l).1)))
    ∙ ap (λ ns. old ++ ns) (sym (link_fields_joined (map link_of (take i links)) (link_of l ∷ [])))
    ∙ ap (λ ls. old ++ link_fields (links_of ls)) (sym (map-append link_of (take i links) (l ∷ [])))
    ∙ ap (λ ls. old ++ link_fields (links_of (map link_of ls))) (sym (more_taken links i l at))

pub arg_fields_added : (args : List TExpr) (i : ℕ) (e : TExpr) (old so_far new : List ℕ) → slice_get args i ≡ Some e → so_far ≡ old ++ arg_fields (args_of (map typed (take i args)))
    → new ≡ so_far ++ fields_in (typed e) → new ≡ old ++ arg_fields (args_of (map typed (take (i + 1) args)))
arg_fields_added args i e old so_far new at is added =
    added ∙ ap (λ ns. ns ++ fields_in (typed e)) is
    ∙ append_assoc old (arg_fields (args_of (map typed (take i args)))) (fields_in (typed e))
    ∙ ap (λ ns. old ++ (arg_fields (args_of (map typed (take i args))) ++ ns)) (sym (append-nil (fields_in (typed e))))
    ∙ ap (λ ns. old ++ ns) (sym (arg_fields_joined (map typed (take i args)) (typed e ∷ [])))
    ∙ ap (λ es. old ++ arg_fields (args_of es)) (sym (map-append typed (take i args) (e ∷ [])))
    ∙ ap (λ es. old ++ arg_fields (args_of (map typed es))) (sym (more_taken args i e at))

-- what a test without the conjuncts tells
pub any_true : (c : Typed) → list_any (λ e. true) (conjuncts c) ≡ true
any_true c = let some : SomeOf c = some_of c in ap (list_any (λ e. true)) some.are

all_true : (cs : List Typed) → list_all (λ e. true) cs ≡ true
all_true [] = refl
all_true (c ∷ cs) = all_true cs

pub filter_passes : (width : ℕ → ℕ) (input : ℕ) (first c : Typed) → all_pass width (p_filter input first) c ≡ true
filter_passes width input first c = all_true (conjuncts c)

pub distinct_passes : (width : ℕ → ℕ) (input : ℕ) (c : Typed) → all_pass width (p_distinct input) c ≡ true
distinct_passes width input c = all_true (conjuncts c)

pub none_pass : (width : ℕ → ℕ) (o : PlanOp) (c : Typed) → is_union o ≡ false → ((e : Typed) → may_pass width o e ≡ false) → some_pass width o c ≡ false
none_pass width o c other never = ap (λ b. b || list_any (may_pass width o) (conjuncts c)) other ∙ each (conjuncts c)
  where
    each : (cs : List Typed) → list_any (may_pass width o) cs ≡ false
    each [] = refl
    each (e ∷ cs) = ap (λ b. b || list_any (may_pass width o) cs) (never e) ∙ each cs

pub union_passes : (width : ℕ → ℕ) (o : PlanOp) (c : Typed) → is_union o ≡ true → some_pass width o c ≡ true
union_passes width o c is = ap (λ b. b || list_any (may_pass width o) (conjuncts c)) is

pub no_union_passes : (width : ℕ → ℕ) (o : PlanOp) (c : Typed) → is_union o ≡ false → list_any (may_pass width o) (conjuncts c) ≡ some_pass width o c
no_union_passes width o c other = sym (ap (λ b. b || list_any (may_pass width o) (conjuncts c)) other)
