-- Conditions that move nest no deeper than they did, but for one chain, or, where a GROUP has a key that nests, no deeper than is let past it.
use Rattle.std.specs.Prelude.{◌≡◌, ◌≤◌, ◌+◌, ◌-◌, ◌⊎◌, not, ◌||◌, max, ℕ, zero, suc, Bool, true, false, List, [], ◌∷◌, ◌++◌, map, Option, Some, None, slice_get, slice_set, Err, IfOk, Ok, Result, ⊤, if◌then◌else◌, refl}
use Rattle.std.proofs.Common.{ap, sym, ◌∙◌, subst, arith, cond, inl, inr, true≢false}
use Rattle.std.specs.List.{AllByRecursion, filter, list_any}
use Rattle.std.specs.Option.{option_map}
use Rattle.std.specs.declared.alloc.AllocError.{AllocError}
use Rattle.std.proofs.lemmas.Option.{none-some}
use Rattle.pig_value.proofs.list_laws.Bags.{either_way}
use Rattle.pig_value.proofs.list_laws.Indexing.{get_map, some_at}
use Rattle.std.proofs.lemmas.Option.{slice_get_within}
use Rattle.pig_value.proofs.list_laws.Listing.{each-append, each-filter, some_same}
use Rattle.pig_value.specs.declared.operators.ChainOp.TheVariants as op
use Rattle.pig_typed.specs.Typed.{Typed, TypedArgs, TypedLinks, x_null, x_bool, x_int, x_long, x_chars, x_field, x_local, x_chain, x_compare, x_is_null, x_not, x_minus, x_choose, x_cast, x_project, x_look, x_call, no_links, more_links, no_args, more_args}
use Rattle.pig_plan.proofs.Room.{From, insert_from, new, old}
use Rattle.pig_plan.specs.declared.nodes.Node.{Node}
use Rattle.pig_plan.specs.Conjuncts.{all_and, conjuncts, link_conjuncts}
use Rattle.pig_plan.specs.Meaning.{width_at}
use Rattle.pig_plan.specs.Moves.{put, put_args, put_links}
use Rattle.pig_plan.specs.Nodes.{is_live}
use Rattle.pig_plan.specs.Plans.{Keyed, Plan, PlanNode, PlanOp, p_load, p_filter, p_foreach, p_group_all, p_group, p_join, p_union, p_distinct, p_order, p_limit, p_store, p_assert, p_rank, plan_of}
use Rattle.pig_plan.specs.Renumbered.{rename, renamed}
use Rattle.pig_plan.specs.Room.{idle, past, roomy}
use Rattle.pig_moves.specs.declared.joining.Spot.{Spot}
use Rattle.pig_moves.specs.Depths.{NestUpTo, arg_depth, depth, filter_depth, key_levels, key_nests, link_depth, most_levels, nests, one_nests}
use Rattle.pig_moves.specs.Pushed.{AreMoves, IsCleared, IsMove, IsPushed, IsSplit, IsUnited, and_links, at_spot, chained, chained_where, conjoined, filter_as, filter_on, filtered, from_key, high_of, low_of, none, one_more, one_part, one_room, one_union, passes_at, put_from, spot_for}
use Rattle.pig_moves.proofs.Chains.{IsConjunct, chained_back, conjuncts_kept, each_conjunct}
use Rattle.pig_moves.proofs.Keeps.{node_with}

front_each : {X : Type 0} (P : X → Type 0) (xs ys : List X) → AllByRecursion P (xs ++ ys) → AllByRecursion P xs
front_each P [] ys h = tt
front_each P (x ∷ xs) ys h = (h.0, front_each P xs ys h.1)

back_each : {X : Type 0} (P : X → Type 0) (xs ys : List X) → AllByRecursion P (xs ++ ys) → AllByRecursion P ys
back_each P [] ys h = h
back_each P (x ∷ xs) ys h = back_each P xs ys h.1

-- ---- columns in the place of others change no depth

module _ (f : ℕ → Typed) (flat : (n : ℕ) → depth (f n) ≡ 0) where
  mutual
    put_depth : (e : Typed) → depth (put f e) ≡ depth e
    put_depth (x_field n) = flat n
    put_depth (x_chain first links) = λ i. suc (max (put_depth first i) (put_link_depth links i))
    put_depth (x_compare r a b) = λ i. suc (max (put_depth a i) (put_depth b i))
    put_depth (x_is_null a negated) = ap (λ n. suc n) (put_depth a)
    put_depth (x_not a) = ap (λ n. suc n) (put_depth a)
    put_depth (x_minus a) = ap (λ n. suc n) (put_depth a)
    put_depth (x_choose test a b) = λ i. suc (max (put_depth test i) (max (put_depth a i) (put_depth b i)))
    put_depth (x_cast to a) = ap (λ n. suc n) (put_depth a)
    put_depth (x_project a ns single) = ap (λ n. suc n) (put_depth a)
    put_depth (x_look a key) = ap (λ n. suc n) (put_depth a)
    put_depth (x_call function args) = ap (λ n. suc n) (put_arg_depth args)
    put_depth x_null = refl
    put_depth (x_bool b) = refl
    put_depth (x_int z) = refl
    put_depth (x_long z) = refl
    put_depth (x_chars text) = refl
    put_depth (x_local n) = refl

    put_link_depth : (links : TypedLinks) → link_depth (put_links f links) ≡ link_depth links
    put_link_depth no_links = refl
    put_link_depth (more_links operator a links) = λ i. max (put_depth a i) (put_link_depth links i)

    put_arg_depth : (args : TypedArgs) → arg_depth (put_args f args) ≡ arg_depth args
    put_arg_depth no_args = refl
    put_arg_depth (more_args e args) = λ i. max (put_depth e i) (put_arg_depth args i)

-- with others that nest so far it nests so much deeper at most
module _ (f : ℕ → Typed) (most : ℕ) (each : (n : ℕ) → depth (f n) ≤ most) where
  mutual
    pub put_deeper : (e : Typed) → depth (put f e) ≤ depth e + most
    put_deeper (x_field n) = let own = each n in omega (arith, own)
    put_deeper (x_chain first links) = let a = put_deeper first in let b = links_deeper links in omega (arith, a, b)
    put_deeper (x_compare r a b) = let x = put_deeper a in let y = put_deeper b in omega (arith, x, y)
    put_deeper (x_is_null a negated) = let x = put_deeper a in omega (arith, x)
    put_deeper (x_not a) = let x = put_deeper a in omega (arith, x)
    put_deeper (x_minus a) = let x = put_deeper a in omega (arith, x)
    put_deeper (x_choose test a b) = let x = put_deeper test in let y = put_deeper a in let z = put_deeper b in omega (arith, x, y, z)
    put_deeper (x_cast to a) = let x = put_deeper a in omega (arith, x)
    put_deeper (x_project a ns single) = let x = put_deeper a in omega (arith, x)
    put_deeper (x_look a key) = let x = put_deeper a in omega (arith, x)
    put_deeper (x_call function args) = let x = args_deeper args in omega (arith, x)
    put_deeper x_null = omega arith
    put_deeper (x_bool b) = omega arith
    put_deeper (x_int z) = omega arith
    put_deeper (x_long z) = omega arith
    put_deeper (x_chars text) = omega arith
    put_deeper (x_local n) = omega arith

    links_deeper : (links : TypedLinks) → link_depth (put_links f links) ≤ link_depth links + most
    links_deeper no_links = omega arith
    links_deeper (more_links operator a links) = let x = put_deeper a in let y = links_deeper links in omega (arith, x, y)

    args_deeper : (args : TypedArgs) → arg_depth (put_args f args) ≤ arg_depth args + most
    args_deeper no_args = omega arith
    args_deeper (more_args e args) = let x = put_deeper e in let y = args_deeper args in omega (arith, x, y)

-- ---- conjuncts nest no deeper than their condition

mutual
  conjuncts_under : (most : ℕ) (e : Typed) → depth e ≤ most → AllByRecursion (λ c. depth c ≤ most) (conjuncts e)
  conjuncts_under most (x_chain first links) h = by_test (all_and links) (conjuncts_under most first (omega (arith, h))) (links_under most links (omega (arith, h)))
    where
      by_test : (b : Bool) → AllByRecursion (λ c. depth c ≤ most) (conjuncts first) → AllByRecursion (λ c. depth c ≤ most) (link_conjuncts links)
          → AllByRecursion (λ c. depth c ≤ most) (cond b (conjuncts first ++ link_conjuncts links) (x_chain first links ∷ []))
      by_test true front rest = each-append (λ c. depth c ≤ most) (conjuncts first) (link_conjuncts links) front rest
      by_test false front rest = (h, tt)
  conjuncts_under most x_null h = (h, tt)
  conjuncts_under most (x_bool b) h = (h, tt)
  conjuncts_under most (x_int z) h = (h, tt)
  conjuncts_under most (x_long z) h = (h, tt)
  conjuncts_under most (x_chars text) h = (h, tt)
  conjuncts_under most (x_field n) h = (h, tt)
  conjuncts_under most (x_local n) h = (h, tt)
  conjuncts_under most (x_compare r a b) h = (h, tt)
  conjuncts_under most (x_is_null a negated) h = (h, tt)
  conjuncts_under most (x_not a) h = (h, tt)
  conjuncts_under most (x_minus a) h = (h, tt)
  conjuncts_under most (x_choose test a b) h = (h, tt)
  conjuncts_under most (x_cast to a) h = (h, tt)
  conjuncts_under most (x_project a ns single) h = (h, tt)
  conjuncts_under most (x_look a key) h = (h, tt)
  conjuncts_under most (x_call function args) h = (h, tt)

  links_under : (most : ℕ) (links : TypedLinks) → link_depth links ≤ most → AllByRecursion (λ c. depth c ≤ most) (link_conjuncts links)
  links_under most no_links h = tt
  links_under most (more_links operator a links) h =
      each-append (λ c. depth c ≤ most) (conjuncts a) (link_conjuncts links) (conjuncts_under most a (omega (arith, h))) (links_under most links (omega (arith, h)))

-- what is put into the conjuncts is put into the condition
module _ (f : ℕ → Typed) (flat : (n : ℕ) → depth (f n) ≡ 0) (leaf : (n : ℕ) → conjuncts (f n) ≡ f n ∷ []) (most : ℕ) where
  all_and_put : (links : TypedLinks) → all_and (put_links f links) ≡ all_and links
  all_and_put no_links = refl
  all_and_put (more_links op.And a links) = all_and_put links
  all_and_put (more_links op.Or a links) = refl
  all_and_put (more_links op.Add a links) = refl
  all_and_put (more_links op.Sub a links) = refl
  all_and_put (more_links op.Mul a links) = refl
  all_and_put (more_links op.Div a links) = refl
  all_and_put (more_links op.Rem a links) = refl

  same_under : (e : Typed) → depth e ≤ most → depth (put f e) ≤ most
  same_under e h = subst (λ n. n ≤ most) (sym (put_depth f flat e)) h

  mutual
    put_under : (e : Typed) → AllByRecursion (λ c. depth c ≤ most) (conjuncts e) → AllByRecursion (λ c. depth c ≤ most) (conjuncts (put f e))
    put_under (x_field n) h = subst (AllByRecursion (λ c. depth c ≤ most)) (sym (leaf n)) (subst (λ d. d ≤ most) (sym (flat n)) h.0, tt)
    put_under (x_chain first links) h =
        subst (λ b. AllByRecursion (λ c. depth c ≤ most) (cond b (conjuncts (put f first) ++ link_conjuncts (put_links f links)) (x_chain (put f first) (put_links f links) ∷ []))) (sym (all_and_put links))
        (by_test (all_and links) h (λ g. put_under first g) (λ g. put_links_under links g))
      where
        by_test : (b : Bool) → AllByRecursion (λ c. depth c ≤ most) (cond b (conjuncts first ++ link_conjuncts links) (x_chain first links ∷ []))
            → (AllByRecursion (λ c. depth c ≤ most) (conjuncts first) → AllByRecursion (λ c. depth c ≤ most) (conjuncts (put f first)))
            → (AllByRecursion (λ c. depth c ≤ most) (link_conjuncts links) → AllByRecursion (λ c. depth c ≤ most) (link_conjuncts (put_links f links)))
            → AllByRecursion (λ c. depth c ≤ most) (cond b (conjuncts (put f first) ++ link_conjuncts (put_links f links)) (x_chain (put f first) (put_links f links) ∷ []))
        by_test true g front rest =
            each-append (λ c. depth c ≤ most) (conjuncts (put f first)) (link_conjuncts (put_links f links))
            (front (front_each (λ c. depth c ≤ most) (conjuncts first) (link_conjuncts links) g)) (rest (back_each (λ c. depth c ≤ most) (conjuncts first) (link_conjuncts links) g))
        by_test false g front rest = (same_under (x_chain first links) g.0, tt)
    put_under x_null h = h
    put_under (x_bool b) h = h
    put_under (x_int z) h = h
    put_under (x_long z) h = h
    put_under (x_chars text) h = h
    put_under (x_local n) h = h
    put_under (x_compare r a b) h = (same_under (x_compare r a b) h.0, tt)
    put_under (x_is_null a negated) h = (same_under (x_is_null a negated) h.0, tt)
    put_under (x_not a) h = (same_under (x_not a) h.0, tt)
    put_under (x_minus a) h = (same_under (x_minus a) h.0, tt)
    put_under (x_choose test a b) h = (same_under (x_choose test a b) h.0, tt)
    put_under (x_cast to a) h = (same_under (x_cast to a) h.0, tt)
    put_under (x_project a ns single) h = (same_under (x_project a ns single) h.0, tt)
    put_under (x_look a key) h = (same_under (x_look a key) h.0, tt)
    put_under (x_call function args) h = (same_under (x_call function args) h.0, tt)

    put_links_under : (links : TypedLinks) → AllByRecursion (λ c. depth c ≤ most) (link_conjuncts links) → AllByRecursion (λ c. depth c ≤ most) (link_conjuncts (put_links f links))
    put_links_under no_links h = tt
    put_links_under (more_links operator a links) h =
        each-append (λ c. depth c ≤ most) (conjuncts (put f a)) (link_conjuncts (put_links f links))
        (put_under a (front_each (λ c. depth c ≤ most) (conjuncts a) (link_conjuncts links) h)) (put_links_under links (back_each (λ c. depth c ≤ most) (conjuncts a) (link_conjuncts links) h))

-- ---- chains

links_deep : (most : ℕ) (cs : List Typed) → AllByRecursion (λ c. depth c ≤ most) cs → link_depth (and_links cs) ≤ most
links_deep most [] h = omega arith
links_deep most (c ∷ cs) h = let own = h.0 in let rest = links_deep most cs h.1 in omega (arith, own, rest)

chained_deep : (most : ℕ) (cs : List Typed) → AllByRecursion (λ c. depth c ≤ most) cs → depth (chained cs) ≤ most + 1
chained_deep most [] h = omega arith
chained_deep most (c ∷ []) h = let own = h.0 in omega (arith, own)
chained_deep most (c ∷ d ∷ cs) h = let own = h.0 in let rest = links_deep most (d ∷ cs) h.1 in omega (arith, own, rest)

chained_under : (most : ℕ) (cs : List Typed) → AllByRecursion IsConjunct cs → AllByRecursion (λ c. depth c ≤ most) cs → AllByRecursion (λ c. depth c ≤ most) (conjuncts (chained cs))
chained_under most [] one h = (omega arith, tt)
chained_under most (c ∷ cs) one h = subst (AllByRecursion (λ e. depth e ≤ most)) (sym (chained_back c cs (c ∷ cs) refl one)) h

-- ---- conditions of a plan

record IsShallow (most : ℕ) (c : Typed) : Type 0 where
  whole : depth c ≤ most + 1
  each : AllByRecursion (λ e. depth e ≤ most) (conjuncts c)

-- A condition is shallow, and what takes it deeper takes it so far at most.
abbrev ShallowOp : ℕ → PlanOp → Type 0
ShallowOp most (p_filter input c) = IsShallow most c
ShallowOp most (p_group inputs) = key_nests (p_group inputs) ≡ true → most_levels ≤ most
ShallowOp most o = ⊤

abbrev ShallowPlan : ℕ → Plan → Type 0
ShallowPlan most p = (n : ℕ) (v : PlanNode) → slice_get p n ≡ Some v → ShallowOp most v.op

shallow_where : (most : ℕ) (test : Typed → Bool) (c : Typed) → IsShallow most c → IsShallow most (chained_where test c)
shallow_where most test c h =
    let left : AllByRecursion (λ e. depth e ≤ most) (filter test (conjuncts c)) = each-filter test (λ e. depth e ≤ most) (conjuncts c) h.each in
    record {
      whole = chained_deep most (filter test (conjuncts c)) left;
      each = chained_under most (filter test (conjuncts c)) (each-filter test IsConjunct (conjuncts c) (each_conjunct c)) left;
    }

shallow_both : (most : ℕ) (a b : Typed) → IsShallow most a → IsShallow most b → IsShallow most (conjoined a b)
shallow_both most a b h g =
    let all : AllByRecursion (λ e. depth e ≤ most) (conjuncts a ++ conjuncts b) = each-append (λ e. depth e ≤ most) (conjuncts a) (conjuncts b) h.each g.each in
    record {
      whole = chained_deep most (conjuncts a ++ conjuncts b) all;
      each = subst (AllByRecursion (λ e. depth e ≤ most)) (sym (conjuncts_kept a b)) all;
    }

shallow_put : (most : ℕ) (f : ℕ → ℕ) (c : Typed) → IsShallow most c → IsShallow most (put (λ n. x_field (f n)) c)
shallow_put most f c h = record {
  whole = subst (λ n. n ≤ most + 1) (sym (put_depth (λ n. x_field (f n)) (λ n. refl) c)) h.whole;
  each = put_under (λ n. x_field (f n)) (λ n. refl) (λ n. refl) most c h.each;
}

shallow_at : (most : ℕ) (o : Option Spot) (c : Typed) → IsShallow most c → ShallowOp most (filter_as (at_spot o c))
shallow_at most None c h = h
shallow_at most (Some spot) c h = shallow_put most (λ n. n - spot.first) c h

-- an expression that nests nothing
flat_depth : (n : ℕ) → nests n ≡ false → n ≡ 0
flat_depth zero h = refl
flat_depth (suc n) h = absurd (true≢false h)

flat_leaf : (e : Typed) → nests (depth e) ≡ false → conjuncts e ≡ e ∷ []
flat_leaf (x_chain first links) h = absurd (true≢false h)
flat_leaf (x_compare r a b) h = refl
flat_leaf (x_is_null a negated) h = refl
flat_leaf (x_not a) h = refl
flat_leaf (x_minus a) h = refl
flat_leaf (x_choose test a b) h = refl
flat_leaf (x_cast to a) h = refl
flat_leaf (x_project a ns single) h = refl
flat_leaf (x_look a key) h = refl
flat_leaf (x_call function args) h = refl
flat_leaf x_null h = refl
flat_leaf (x_bool b) h = refl
flat_leaf (x_int z) h = refl
flat_leaf (x_long z) h = refl
flat_leaf (x_chars text) h = refl
flat_leaf (x_field n) h = refl
flat_leaf (x_local n) h = refl

-- a key that nests nothing takes a condition no deeper, and one that does so far at most
shallow_key : (most : ℕ) (key c : Typed) → (nests (depth key) ≡ true → most_levels ≤ most) → depth (put (λ n. key) c) ≤ most_levels → IsShallow most c → IsShallow most (put (λ n. key) c)
shallow_key most key c far up_to h = either_way (nests (depth key)) deeper no_deeper
  where
    deeper : nests (depth key) ≡ true → IsShallow most (put (λ n. key) c)
    deeper deep = let le = far deep in record { whole = omega (arith, le, up_to); each = conjuncts_under most (put (λ n. key) c) (omega (arith, le, up_to)) }

    no_deeper : nests (depth key) ≡ false → IsShallow most (put (λ n. key) c)
    no_deeper flat =
        let none : depth key ≡ 0 = flat_depth (depth key) flat in
        record {
          whole = subst (λ n. n ≤ most + 1) (sym (put_depth (λ n. key) (λ n. none) c)) h.whole;
          each = put_under (λ n. key) (λ n. none) (λ n. flat_leaf key flat) most c h.each;
        }

shallow_keys : (most : ℕ) (keys : List Typed) (c : Typed) → (one_nests keys ≡ true → most_levels ≤ most) → depth (put (from_key keys) c) ≤ most_levels → IsShallow most c → IsShallow most (put (from_key keys) c)
shallow_keys most [] c far up_to h = shallow_put most (λ n. n) c h
shallow_keys most (key ∷ []) c far up_to h = shallow_key most key c far up_to h
shallow_keys most (a ∷ b ∷ keys) c far up_to h = shallow_put most (λ n. n) c h

shallow_low : (most : ℕ) (width : ℕ → ℕ) (o : PlanOp) (c : Typed) → ((inputs : List Keyed) → o ≡ p_group inputs → filter_depth (low_of width o c) ≤ most_levels)
    → ShallowOp most o → IsShallow most c → ShallowOp most (low_of width o c)
shallow_low most width (p_filter x first) c nests own h = tt
shallow_low most width (p_distinct x) c nests own h = h
shallow_low most width (p_foreach x block) c nests own h = shallow_put most _ c h
shallow_low most width (p_load path delim columns) c nests own h = h
shallow_low most width (p_group_all input) c nests own h = h
shallow_low most width (p_group []) c nests own h = h
shallow_low most width (p_group (keyed ∷ [])) c nests own h = shallow_keys most keyed.keys c own (nests (keyed ∷ []) refl) h
shallow_low most width (p_group (a ∷ b ∷ inputs)) c nests own h = h
shallow_low most width (p_join inputs side replicated) c nests own h = shallow_at most (spot_for width inputs c) c h
shallow_low most width (p_union inputs) c nests own h = h
shallow_low most width (p_order input keys) c nests own h = h
shallow_low most width (p_limit input count) c nests own h = h
shallow_low most width (p_store input path delim) c nests own h = h
shallow_low most width (p_assert input test message) c nests own h = h
shallow_low most width (p_rank input keys dense) c nests own h = h

shallow_high : (most : ℕ) (width : ℕ → ℕ) (i : ℕ) (o : PlanOp) (c : Typed) → ShallowOp most o → IsShallow most c → ShallowOp most (high_of width i o c)
shallow_high most width i (p_filter x first) c own h = shallow_both most first c own h
shallow_high most width i (p_distinct x) c own h = tt
shallow_high most width i (p_foreach x block) c own h = tt
shallow_high most width i (p_load path delim columns) c own h = tt
shallow_high most width i (p_group_all input) c own h = tt
shallow_high most width i (p_group []) c own h = own
shallow_high most width i (p_group (keyed ∷ [])) c own h = own
shallow_high most width i (p_group (a ∷ b ∷ inputs)) c own h = own
shallow_high most width i (p_join inputs side replicated) c own h = tt
shallow_high most width i (p_union inputs) c own h = tt
shallow_high most width i (p_order input keys) c own h = tt
shallow_high most width i (p_limit input count) c own h = tt
shallow_high most width i (p_store input path delim) c own h = tt
shallow_high most width i (p_assert input test message) c own h = tt
shallow_high most width i (p_rank input keys dense) c own h = tt

shallow_renamed : (most : ℕ) (f : ℕ → ℕ) (o : PlanOp) → ShallowOp most o → ShallowOp most (rename f o)
shallow_renamed most f (p_filter x first) h = h
shallow_renamed most f (p_distinct x) h = tt
shallow_renamed most f (p_foreach x block) h = tt
shallow_renamed most f (p_load path delim columns) h = tt
shallow_renamed most f (p_group_all input) h = tt
shallow_renamed most f (p_group []) h = h
shallow_renamed most f (p_group (keyed ∷ [])) h = h
shallow_renamed most f (p_group (a ∷ b ∷ inputs)) h = h
shallow_renamed most f (p_join inputs side replicated) h = tt
shallow_renamed most f (p_union inputs) h = tt
shallow_renamed most f (p_order input keys) h = tt
shallow_renamed most f (p_limit input count) h = tt
shallow_renamed most f (p_store input path delim) h = tt
shallow_renamed most f (p_assert input test message) h = tt
shallow_renamed most f (p_rank input keys dense) h = tt

-- ---- nodes that are set

set_from : {X : Type 0} (xs : List X) (j n : ℕ) (y w : X) → slice_get (slice_set xs j y) n ≡ Some w → (w ≡ y) ⊎ (slice_get xs n ≡ Some w)
set_from [] j n y w h = inr h
set_from (x ∷ xs) zero zero y w h = inl (sym (some_same y w h))
set_from (x ∷ xs) zero (suc n) y w h = inr h
set_from (x ∷ xs) (suc j) zero y w h = inr h
set_from (x ∷ xs) (suc j) (suc n) y w h = set_from xs j n y w h

shallow_set : (most : ℕ) (p : Plan) (j : ℕ) (y : PlanNode) → ShallowPlan most p → ShallowOp most y.op → ShallowPlan most (slice_set p j y)
shallow_set most p j y h own n w at = elim (set_from p j n y w at) [
  | inl e ↦ subst (λ v. ShallowOp most v.op) (sym e) own
  | inr old_at ↦ h n w old_at
]

shallow_room : (most k : ℕ) (p : Plan) → ShallowPlan most p → ShallowPlan most (roomy k p)
shallow_room most k p h j w at = by_from (insert_from idle k j (map (renamed (past k)) p) w at)
  where
    by_node : (n : ℕ) (o : Option PlanNode) → slice_get p n ≡ o → option_map (renamed (past k)) o ≡ Some w → ShallowOp most w.op
    by_node n None g e = absurd (none-some w e)
    by_node n (Some v) g e = subst (λ u. ShallowOp most u.op) (some_same (renamed (past k) v) w e) (shallow_renamed most (past k) v.op (h n v g))

    by_from : From idle k (map (renamed (past k)) p) j w → ShallowOp most w.op
    by_from (new e here) = subst (λ u. ShallowOp most u.op) e tt
    by_from (old n e g) = by_node n (slice_get p n) refl (sym (get_map (renamed (past k)) p n) ∙ g)

-- ---- moves

move_shallow : (most : ℕ) (p q : Plan) (i k : ℕ) → IsMove p q i k → ShallowPlan most p → ShallowPlan most q
move_shallow most p q i k m h =
    let c : IsShallow most m.can.cond = h k (node_with (p_filter i m.can.cond) m.can.statement) m.can.above in
    let o : ShallowOp most m.can.below.op = h i m.can.below m.can.stands in
    subst (ShallowPlan most) (sym m.is)
    (shallow_set most (slice_set p i (node_with (low_of _ m.can.below.op m.can.cond) m.can.statement)) k (node_with (high_of _ i m.can.below.op m.can.cond) m.can.below.statement)
    (shallow_set most p i (node_with (low_of _ m.can.below.op m.can.cond) m.can.statement) h (shallow_low most _ m.can.below.op m.can.cond m.nests o c))
    (shallow_high most _ i m.can.below.op m.can.cond o c))

split_shallow : (most : ℕ) (p q : Plan) (k : ℕ) → IsSplit p q k → ShallowPlan most p → ShallowPlan most q
split_shallow most p q k s h =
    let c : IsShallow most s.cond = h k (node_with (p_filter s.input s.cond) s.statement) s.parts.above in
    let test : Typed → Bool = passes_at (width_at p) s.parts.below.op s.parts.place in
    subst (ShallowPlan most) (sym s.is)
    (shallow_set most (slice_set (roomy k p) k (node_with (p_filter s.input (chained_where test s.cond)) s.statement)) (k + 1) (node_with (p_filter k (chained_where (λ e. not (test e)) s.cond)) s.statement)
    (shallow_set most (roomy k p) k (node_with (p_filter s.input (chained_where test s.cond)) s.statement) (shallow_room most k p h) (shallow_where most test s.cond c))
    (shallow_where most (λ e. not (test e)) s.cond c))

shallow_from : (most first : ℕ) (c : Typed) (statement : ℕ) (ns : List ℕ) (p : Plan) → IsShallow most c → ShallowPlan most p → ShallowPlan most (put_from first (map (filter_on c statement) ns) p)
shallow_from most first c statement [] p own h = h
shallow_from most first c statement (n ∷ ns) p own h = shallow_from most (first + 1) c statement ns (slice_set p first (filter_on c statement n)) own (shallow_set most p first (filter_on c statement n) h own)

union_shallow : (most : ℕ) (p q : Plan) (i k : ℕ) → IsUnited p q i k → ShallowPlan most p → ShallowPlan most q
union_shallow most p q i k s h =
    let c : IsShallow most s.cond = h k (node_with (p_filter i s.cond) s.statement) s.can.above in
    let begun : Plan = put_from s.first (map (filter_on s.cond s.statement) s.each) p in
    subst (ShallowPlan most) (sym s.is)
    (shallow_set most (slice_set begun i idle) k (node_with (p_union (map (filtered s.first s.each) s.inputs)) s.own)
    (shallow_set most begun i idle (shallow_from most s.first s.cond s.statement s.each p c h) tt) tt)

moves_shallow : (most : ℕ) (p r : Plan) → AreMoves p r → ShallowPlan most p → ShallowPlan most r
moves_shallow most p _ none h = h
moves_shallow most p _ (one_more q r i k before valid move) h = move_shallow most q r i k move (moves_shallow most p q before h)
moves_shallow most p _ (one_room q r k before valid within is) h = subst (ShallowPlan most) (sym is) (shallow_room most k q (moves_shallow most p q before h))
moves_shallow most p _ (one_union q r i k before valid union) h = union_shallow most q r i k union (moves_shallow most p q before h)
moves_shallow most p _ (one_part q s r i k before room valid_s split valid move) h =
    move_shallow most s r i k move (split_shallow most q s k split (moves_shallow most p q before h))

begun_op : (most : ℕ) (o : PlanOp) → (key_nests o ≡ true → most_levels ≤ most) → filter_depth o ≤ most → ShallowOp most o
begun_op most (p_filter x c) far h = record { whole = omega (arith, h); each = conjuncts_under most c h }
begun_op most (p_distinct x) far h = tt
begun_op most (p_foreach x block) far h = tt
begun_op most (p_load path delim columns) far h = tt
begun_op most (p_group_all input) far h = tt
begun_op most (p_group inputs) far h = far
begun_op most (p_join inputs side replicated) far h = tt
begun_op most (p_union inputs) far h = tt
begun_op most (p_order input keys) far h = tt
begun_op most (p_limit input count) far h = tt
begun_op most (p_store input path delim) far h = tt
begun_op most (p_assert input test message) far h = tt
begun_op most (p_rank input keys dense) far h = tt

ended_op : (most : ℕ) (o : PlanOp) → ShallowOp most o → filter_depth o ≤ most + 1
ended_op most (p_filter x c) h = h.whole
ended_op most (p_distinct x) h = omega arith
ended_op most (p_foreach x block) h = omega arith
ended_op most (p_load path delim columns) h = omega arith
ended_op most (p_group_all input) h = omega arith
ended_op most (p_group inputs) h = omega arith
ended_op most (p_join inputs side replicated) h = omega arith
ended_op most (p_union inputs) h = omega arith
ended_op most (p_order input keys) h = omega arith
ended_op most (p_limit input count) h = omega arith
ended_op most (p_store input path delim) h = omega arith
ended_op most (p_assert input test message) h = omega arith
ended_op most (p_rank input keys dense) h = omega arith

-- a plan's levels reach as far as each of its keys takes a condition
any_at : {X : Type 0} (test : X → Bool) (xs : List X) (n : ℕ) (x : X) → slice_get xs n ≡ Some x → test x ≡ true → list_any test xs ≡ true
any_at test [] n x at is = absurd (none-some x at)
any_at test (y ∷ ys) zero x at is = ap (λ b. b || list_any test ys) (ap test (some_same y x at) ∙ is)
any_at test (y ∷ ys) (suc n) x at is = ap (λ b. test y || b) (any_at test ys n x at is) ∙ or_true (test y)
  where
    or_true : (b : Bool) → (b || true) ≡ true
    or_true true = refl
    or_true false = refl

levels_at : (p : Plan) (n : ℕ) (v : PlanNode) (most : ℕ) → slice_get p n ≡ Some v → key_levels p ≤ most → key_nests v.op ≡ true → most_levels ≤ most
levels_at p n v most at far nests =
    subst (λ b. (if b then most_levels else 0) ≤ most) (any_at (λ u. key_nests u.op) p n v at nests) far

cleared_shallow : (most : ℕ) (p q : Plan) → IsCleared p q → key_levels p ≤ most → NestUpTo most p → ShallowPlan most q
cleared_shallow most p q c keys h n w at =
    let within = slice_get_within q n w at in
    let long = c.size in
    let found = some_at p n (omega (arith, within, long)) in
    either_way (is_live p n)
    (λ alive. subst (λ v. ShallowOp most v.op) (some_same found.0 w (sym (c.lives n found.0 found.1 alive) ∙ at)) (begun_op most found.0.op (levels_at p n found.0 most found.1 keys) (h n found.0 found.1)))
    (λ dead. subst (ShallowOp most) (sym (c.dead n w at dead)) tt)

pub pushed_shallow : (p r : Plan) → IsPushed p r → (most : ℕ) → NestUpTo most p → NestUpTo (max most (key_levels p) + 1) r
pushed_shallow p r pushed most h n v at =
    let far : ℕ = max most (key_levels p) in
    let up : NestUpTo far p = λ k u there. let own = h k u there in omega (arith, own) in
    ended_op far v.op (moves_shallow far pushed.cleared r pushed.moves (cleared_shallow far p pushed.cleared pushed.clears (omega arith) up) n v at)

pub shallow_pushed : (r : Result (List Node) AllocError) (p : Plan) → IfOk r (λ m. IsPushed p (plan_of m)) → IfOk r (λ m. (most : ℕ) → NestUpTo most p → NestUpTo (max most (key_levels p) + 1) (plan_of m))
shallow_pushed (Ok m) p pushed = pushed_shallow p (plan_of m) pushed
shallow_pushed (Err e) p pushed = tt
