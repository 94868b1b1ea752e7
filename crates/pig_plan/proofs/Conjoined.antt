-- A row passes a condition just where it passes each of its conjuncts.
use Rattle.std.specs.Prelude.{◌≡◌, Bool, true, false, ◌&&◌, List, [], ◌∷◌, ◌++◌, Option, None, Some, refl}
use Rattle.std.proofs.Common.{ap, sym, ◌∙◌, cond, true≢false}
use Rattle.std.specs.List.{list_all}
use Rattle.pig_value.specs.declared.operators.ChainOp.TheVariants as op
use Rattle.pig_value.specs.Trees.{Tree, v_null, v_bool, v_int, v_long, v_chars, v_bytes, v_tuple, v_bag, v_listed, v_map}
use Rattle.pig_typed.specs.Evaluation.{ev, ev_links, passes}
use Rattle.pig_typed.specs.Operators.{and_truth, chain_tree, is_true, truth_of, truth_tree}
use Rattle.pig_typed.specs.Typed.{Typed, TypedLinks, x_null, x_bool, x_int, x_long, x_chars, x_field, x_local, x_chain, x_compare, x_is_null, x_not, x_minus, x_choose, x_cast, x_project, x_look, x_call, no_links, more_links}
use Rattle.pig_plan.specs.Conjuncts.{all_and, conjuncts, link_conjuncts}

abbrev holds : Option Bool → Bool
holds (Some b) = b
holds None = false

is_holds : (v : Tree) → is_true v ≡ holds (truth_of v)
is_holds v_null = refl
is_holds (v_bool b) = refl
is_holds (v_int z) = refl
is_holds (v_long z) = refl
is_holds (v_chars text) = refl
is_holds (v_bytes text) = refl
is_holds (v_tuple vs) = refl
is_holds (v_bag rows) = refl
is_holds (v_listed rows) = refl
is_holds (v_map entries) = refl

tree_holds : (o : Option Bool) → is_true (truth_tree o) ≡ holds o
tree_holds None = refl
tree_holds (Some b) = refl

and_holds : (p q : Option Bool) → holds (and_truth p q) ≡ (holds p && holds q)
and_holds None None = refl
and_holds None (Some true) = refl
and_holds None (Some false) = refl
and_holds (Some true) None = refl
and_holds (Some true) (Some true) = refl
and_holds (Some true) (Some false) = refl
and_holds (Some false) None = refl
and_holds (Some false) (Some true) = refl
and_holds (Some false) (Some false) = refl

both_true : (a b : Tree) → is_true (chain_tree op.And a b) ≡ (is_true a && is_true b)
both_true a b =
    tree_holds (and_truth (truth_of a) (truth_of b)) ∙ and_holds (truth_of a) (truth_of b)
    ∙ ap (λ p. p && holds (truth_of b)) (sym (is_holds a)) ∙ ap (λ q. is_true a && q) (sym (is_holds b))

one : (b : Bool) → b ≡ (b && true)
one true = refl
one false = refl

regroup : (a b c : Bool) → ((a && b) && c) ≡ (a && (b && c))
regroup true b c = refl
regroup false b c = refl

all_joined : {X : Type 0} (p : X → Bool) (xs ys : List X) → list_all p (xs ++ ys) ≡ (list_all p xs && list_all p ys)
all_joined p [] ys = refl
all_joined p (x ∷ xs) ys = ap (λ b. p x && b) (all_joined p xs ys) ∙ sym (regroup (p x) (list_all p xs) (list_all p ys))

module _ (row : List Tree) where
  abbrev all : List Typed → Bool
  all es = list_all (λ c. passes c row) es

  mutual
    pub by_conjuncts : (e : Typed) → passes e row ≡ list_all (λ c. passes c row) (conjuncts e)
    by_conjuncts (x_chain first links) = by_test (all_and links) refl (by_conjuncts first) (λ h so_far. by_links links so_far h)
      where
        by_test : (b : Bool) → all_and links ≡ b → passes first row ≡ list_all (λ c. passes c row) (conjuncts first)
            → (all_and links ≡ true → (so_far : Tree) → is_true (ev_links so_far links row []) ≡ (is_true so_far && list_all (λ c. passes c row) (link_conjuncts links)))
            → passes (x_chain first links) row ≡ list_all (λ c. passes c row) (cond b (conjuncts first ++ link_conjuncts links) (x_chain first links ∷ []))
        by_test true h front rest =
            rest h (ev first row []) ∙ ap (λ b. b && all (link_conjuncts links)) front ∙ sym (all_joined (λ c. passes c row) (conjuncts first) (link_conjuncts links))
        by_test false h front rest = one (passes (x_chain first links) row)
    by_conjuncts x_null = one (passes x_null row)
    by_conjuncts (x_bool b) = one (passes (x_bool b) row)
    by_conjuncts (x_int z) = one (passes (x_int z) row)
    by_conjuncts (x_long z) = one (passes (x_long z) row)
    by_conjuncts (x_chars text) = one (passes (x_chars text) row)
    by_conjuncts (x_field n) = one (passes (x_field n) row)
    by_conjuncts (x_local n) = one (passes (x_local n) row)
    by_conjuncts (x_compare r a b) = one (passes (x_compare r a b) row)
    by_conjuncts (x_is_null a negated) = one (passes (x_is_null a negated) row)
    by_conjuncts (x_not a) = one (passes (x_not a) row)
    by_conjuncts (x_minus a) = one (passes (x_minus a) row)
    by_conjuncts (x_choose test a b) = one (passes (x_choose test a b) row)
    by_conjuncts (x_cast to a) = one (passes (x_cast to a) row)
    by_conjuncts (x_project a ns single) = one (passes (x_project a ns single) row)
    by_conjuncts (x_look a key) = one (passes (x_look a key) row)
    by_conjuncts (x_call function args) = one (passes (x_call function args) row)

    by_links : (links : TypedLinks) (so_far : Tree) → all_and links ≡ true
        → is_true (ev_links so_far links row []) ≡ (is_true so_far && list_all (λ c. passes c row) (link_conjuncts links))
    by_links no_links so_far h = one (is_true so_far)
    by_links (more_links op.And a links) so_far h =
        by_links links (chain_tree op.And so_far (ev a row [])) h
        ∙ ap (λ b. b && all (link_conjuncts links)) (both_true so_far (ev a row []))
        ∙ regroup (is_true so_far) (is_true (ev a row [])) (all (link_conjuncts links))
        ∙ ap (λ b. is_true so_far && (b && all (link_conjuncts links))) (by_conjuncts a)
        ∙ ap (λ b. is_true so_far && b) (sym (all_joined (λ c. passes c row) (conjuncts a) (link_conjuncts links)))
    by_links (more_links op.Or a links) so_far h = absurd (true≢false (sym h))
    by_links (more_links op.Add a links) so_far h = absurd (true≢false (sym h))
    by_links (more_links op.Sub a links) so_far h = absurd (true≢false (sym h))
    by_links (more_links op.Mul a links) so_far h = absurd (true≢false (sym h))
    by_links (more_links op.Div a links) so_far h = absurd (true≢false (sym h))
    by_links (more_links op.Rem a links) so_far h = absurd (true≢false (sym h))
