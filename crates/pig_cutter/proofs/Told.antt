-- Which ASSERTs tasks tell of: those that the meaning does not meet.
use Rattle.std.specs.Prelude.{◌≡◌, ◌&&◌, ◌||◌, ℕ, zero, suc, Bool, true, false, List, [], ◌∷◌, ◌++◌, Option, None, Some, slice_get, refl}
use Rattle.std.proofs.Common.{ap, sym, ◌∙◌, subst, cond}
use Rattle.std.specs.List.{AllByRecursion, list_all, list_any}
use Rattle.std.specs.Option.{option_map_or}
use Rattle.std.specs.Ordering.{nat_cmp}
use Rattle.pig_value.specs.Orders.{bag_of, row_cmp}
use Rattle.pig_value.specs.Sorts.{sort}
use Rattle.pig_value.specs.Trees.{Tree}
use Rattle.pig_value.proofs.list_laws.Bags.{each-sort, permutation_from_bag, sort_permutes}
use Rattle.pig_value.proofs.list_laws.Listing.{each_at, each_weaker, some_same}
use Rattle.pig_value.proofs.list_laws.Permutations.{along_permutation}
use Rattle.pig_typed.specs.Evaluation.{passes}
use Rattle.pig_typed.specs.Typed.{Typed}
use Rattle.pig_plan.specs.Asserts.{not_met, not_met_at, unmet_on}
use Rattle.pig_plan.specs.Plans.{Plan, PlanNode, PlanOp, p_load, p_filter, p_foreach, p_group_all, p_group, p_join, p_union, p_distinct, p_order, p_limit, p_store, p_assert, p_rank}
use Rattle.pig_plan.specs.Steps.{node_step, through}
use Rattle.pig_physical.specs.Combining.{folds}
use Rattle.pig_waves.proofs.Among.{Among, Side, among_behind, among_first, among_front, among_later, in_front, behind, side_of}

abbrev Rows : Type 0
Rows = List (List Tree)

-- ---- tests and order

all_swaps : {X : Type 0} (p : X → Bool) (x y : X) (zs : List X) → list_all p (x ∷ y ∷ zs) ≡ list_all p (y ∷ x ∷ zs)
all_swaps p x y zs = swapped (p x) (p y) (list_all p zs)
  where
    swapped : (a b c : Bool) → (a && (b && c)) ≡ (b && (a && c))
    swapped true true c = refl
    swapped true false c = refl
    swapped false true c = refl
    swapped false false c = refl

pub all_alike : (p : List Tree → Bool) (xs ys : Rows) → bag_of xs ≡ bag_of ys → list_all p xs ≡ list_all p ys
all_alike p xs ys same =
    along_permutation (list_all p) (λ x us vs h. ap (λ b. p x && b) h) (all_swaps p) xs ys (permutation_from_bag row_cmp xs ys same)

pub all_among : {X : Type 0} (xs : List X) → AllByRecursion (λ x. Among x xs) xs
all_among [] = tt
all_among (x ∷ xs) = (among_first x xs, each_weaker (λ y. Among y xs) (λ y. Among y (x ∷ xs)) (λ y h. among_later y x xs h) xs (all_among xs))

-- an element of a sorted list is one of the list, and the other way round
pub from_sorted : (n : ℕ) (xs : List ℕ) → Among n (sort nat_cmp xs) → Among n xs
from_sorted n xs h = each_at (λ m. Among m xs) (sort nat_cmp xs) h.at n h.is (each-sort nat_cmp (λ m. Among m xs) xs (all_among xs))

any_swaps : (p : ℕ → Bool) (x y : ℕ) (zs : List ℕ) → list_any p (x ∷ y ∷ zs) ≡ list_any p (y ∷ x ∷ zs)
any_swaps p x y zs = swapped (p x) (p y) (list_any p zs)
  where
    swapped : (a b c : Bool) → (a || (b || c)) ≡ (b || (a || c))
    swapped true true c = refl
    swapped true false c = refl
    swapped false true c = refl
    swapped false false c = refl

pub any_sorted : (p : ℕ → Bool) (xs : List ℕ) → list_any p xs ≡ list_any p (sort nat_cmp xs)
any_sorted p xs = along_permutation (list_any p) (λ x us vs h. ap (λ b. p x || b) h) (any_swaps p) xs (sort nat_cmp xs) (sort_permutes nat_cmp xs)

pub in_none : {X : Type 0} {x : X} → Among x [] → ⊥
in_none {x = x} h = let at = h.is in absurd (cc)

-- ---- what is told on the way

module _ (plan : Plan) where
  abbrev put : List ℕ → Rows → Rows
  put = through (folds plan) plan

  pub record ToldAt (ns : List ℕ) (rs : Rows) (statement : ℕ) : Type 0 where
    pub before : List ℕ
    pub k : ℕ
    pub after : List ℕ
    pub is : ns ≡ before ++ k ∷ after
    pub v : PlanNode
    pub at : slice_get plan k ≡ Some v
    pub input : ℕ
    pub test : Typed
    pub message : Option (List ℕ)
    pub op : v.op ≡ p_assert input test message
    pub statement_is : v.statement ≡ statement
    pub fails : list_all (passes test) (put before rs) ≡ false

  told_here : (k : ℕ) (ns : List ℕ) (rs : Rows) (statement : ℕ) → Among statement (not_met_at plan k rs) → ToldAt (k ∷ ns) rs statement
  told_here k ns rs statement h = by_node (slice_get plan k) refl h
    where
      by_op : (v : PlanNode) → slice_get plan k ≡ Some v → (o : PlanOp) → v.op ≡ o → Among statement (not_met v.statement o rs) → ToldAt (k ∷ ns) rs statement
      by_op v at (p_assert input test message) op g = by_test (list_all (passes test) rs) refl g
        where
          by_test : (b : Bool) → list_all (passes test) rs ≡ b → Among statement (cond b [] (v.statement ∷ [])) → ToldAt (k ∷ ns) rs statement
          by_test true e none = absurd (in_none none)
          by_test false e one = record {
            before = [];
            k = k;
            after = ns;
            is = refl;
            v = v;
            at = at;
            input = input;
            test = test;
            message = message;
            op = op;
            statement_is = the_one one.at one.is;
            fails = e;
          }
            where
              the_one : (i : ℕ) → slice_get (v.statement ∷ []) i ≡ Some statement → v.statement ≡ statement
              the_one zero f = some_same v.statement statement f
              the_one (suc i) f = absurd (cc)
      by_op v at (p_load path delim columns) op g = absurd (in_none g)
      by_op v at (p_filter input test) op g = absurd (in_none g)
      by_op v at (p_foreach input block) op g = absurd (in_none g)
      by_op v at (p_group_all input) op g = absurd (in_none g)
      by_op v at (p_group keyed) op g = absurd (in_none g)
      by_op v at (p_join keyed side replicated) op g = absurd (in_none g)
      by_op v at (p_union numbers) op g = absurd (in_none g)
      by_op v at (p_distinct input) op g = absurd (in_none g)
      by_op v at (p_order input keys) op g = absurd (in_none g)
      by_op v at (p_limit input count) op g = absurd (in_none g)
      by_op v at (p_store input path delim) op g = absurd (in_none g)
      by_op v at (p_rank input keys dense) op g = absurd (in_none g)

      by_node : (found : Option PlanNode) → slice_get plan k ≡ found → Among statement (option_map_or (λ node. not_met node.statement node.op rs) found []) → ToldAt (k ∷ ns) rs statement
      by_node None e g = absurd (in_none g)
      by_node (Some v) e g = by_op v e v.op refl g

  pub told_at : (ns : List ℕ) (rs : Rows) (statement : ℕ) → Among statement (unmet_on (folds plan) plan ns rs) → ToldAt ns rs statement
  told_at [] rs statement h = absurd (in_none h)
  told_at (k ∷ ns) rs statement h = by_side (told_at ns (node_step (folds plan) plan k rs) statement) (side_of statement (not_met_at plan k rs) (unmet_on (folds plan) plan ns (node_step (folds plan) plan k rs)) h)
    where
      later : ToldAt ns (node_step (folds plan) plan k rs) statement → ToldAt (k ∷ ns) rs statement
      later g = record {
        before = k ∷ g.before;
        k = g.k;
        after = g.after;
        is = ap (λ more. k ∷ more) g.is;
        v = g.v;
        at = g.at;
        input = g.input;
        test = g.test;
        message = g.message;
        op = g.op;
        statement_is = g.statement_is;
        fails = g.fails;
      }

      by_side : (Among statement (unmet_on (folds plan) plan ns (node_step (folds plan) plan k rs)) → ToldAt ns (node_step (folds plan) plan k rs) statement)
          → Side statement (not_met_at plan k rs) (unmet_on (folds plan) plan ns (node_step (folds plan) plan k rs)) → ToldAt (k ∷ ns) rs statement
      by_side rest (in_front g) = told_here k ns rs statement g
      by_side rest (behind g) = later (rest g)

  -- an ASSERT on the way tells of rows that it is not met by
  pub tells : (before : List ℕ) (k : ℕ) (after : List ℕ) (rs : Rows) (statement input : ℕ) (test : Typed) (message : Option (List ℕ))
      → slice_get plan k ≡ Some (record { op = p_assert input test message; statement = statement }) → list_all (passes test) (put before rs) ≡ false
      → Among statement (unmet_on (folds plan) plan (before ++ k ∷ after) rs)
  tells [] k after rs statement input test message at fails =
      among_front statement (not_met_at plan k rs) (unmet_on (folds plan) plan after (node_step (folds plan) plan k rs))
      (subst (Among statement)
      (sym (ap (λ found. option_map_or (λ node. not_met node.statement node.op rs) found []) at ∙ ap (λ b. cond b [] (statement ∷ [])) fails)) (among_first statement []))
  tells (j ∷ before) k after rs statement input test message at fails =
      among_behind statement (not_met_at plan j rs) (unmet_on (folds plan) plan (before ++ k ∷ after) (node_step (folds plan) plan j rs))
      (tells before k after (node_step (folds plan) plan j rs) statement input test message at fails)
