-- Conditions in one chain: a row passes it just where it passes each of them, and its conjuncts are theirs.
use Rattle.std.specs.Prelude.{◌≡◌, Bool, true, false, ◌&&◌, List, [], ◌∷◌, ◌++◌, refl}
use Rattle.std.proofs.Common.{ap, sym, ◌∙◌, cond}
use Rattle.std.specs.List.{AllByRecursion, list_all}
use Rattle.std.proofs.lemmas.List.Folds.{list_all-append}
use Rattle.pig_value.proofs.list_laws.Listing.{each-append}
use Rattle.pig_value.specs.Trees.{Tree}
use Rattle.pig_typed.specs.Evaluation.{passes}
use Rattle.pig_typed.specs.Typed.{Typed, TypedLinks, x_null, x_bool, x_int, x_long, x_chars, x_field, x_local, x_chain, x_compare, x_is_null, x_not, x_minus, x_choose, x_cast, x_project, x_look, x_call, no_links, more_links}
use Rattle.pig_plan.proofs.Conjoined.{by_conjuncts}
use Rattle.pig_plan.specs.Conjuncts.{all_and, conjuncts, link_conjuncts}
use Rattle.pig_moves.specs.Pushed.{ConjunctsAreKept, and_links, chained, linked}

one : (b : Bool) → b ≡ (b && true)
one true = refl
one false = refl

all_and_links : (cs : List Typed) → all_and (and_links cs) ≡ true
all_and_links [] = refl
all_and_links (c ∷ cs) = all_and_links cs

module _ (row : List Tree) where
  link_passes : (cs : List Typed) → list_all (λ c. passes c row) (link_conjuncts (and_links cs)) ≡ list_all (λ c. passes c row) cs
  link_passes [] = refl
  link_passes (c ∷ cs) =
      list_all-append (λ d. passes d row) (conjuncts c) (link_conjuncts (and_links cs))
      ∙ (λ i. sym (by_conjuncts row c) i && link_passes cs i)

  linked_passes : (c : Typed) (cs : List Typed) → passes (linked c (and_links cs)) row ≡ (passes c row && list_all (λ d. passes d row) cs)
  linked_passes c [] = one (passes c row)
  linked_passes c (d ∷ cs) =
      by_conjuncts row (x_chain c (and_links (d ∷ cs)))
      ∙ ap (λ b. list_all (λ e. passes e row) (cond b (conjuncts c ++ link_conjuncts (and_links (d ∷ cs))) (x_chain c (and_links (d ∷ cs)) ∷ []))) (all_and_links (d ∷ cs))
      ∙ list_all-append (λ e. passes e row) (conjuncts c) (link_conjuncts (and_links (d ∷ cs)))
      ∙ (λ i. sym (by_conjuncts row c) i && link_passes (d ∷ cs) i)

  pub chained_passes : (cs : List Typed) → passes (chained cs) row ≡ list_all (λ c. passes c row) cs
  chained_passes [] = refl
  chained_passes (c ∷ cs) = linked_passes c cs

-- ---- the conjuncts of a conjunct are itself

abbrev pub IsConjunct : Typed → Type 0
IsConjunct c = conjuncts c ≡ c ∷ []

mutual
  pub each_conjunct : (e : Typed) → AllByRecursion IsConjunct (conjuncts e)
  each_conjunct (x_chain first links) = by_test (all_and links) refl (each_conjunct first) (each_link_conjunct links)
    where
      by_test : (b : Bool) → all_and links ≡ b → AllByRecursion IsConjunct (conjuncts first) → AllByRecursion IsConjunct (link_conjuncts links)
          → AllByRecursion IsConjunct (cond b (conjuncts first ++ link_conjuncts links) (x_chain first links ∷ []))
      by_test true e front rest = each-append IsConjunct (conjuncts first) (link_conjuncts links) front rest
      by_test false e front rest = (ap (λ b. cond b (conjuncts first ++ link_conjuncts links) (x_chain first links ∷ [])) e, tt)
  each_conjunct x_null = (refl, tt)
  each_conjunct (x_bool b) = (refl, tt)
  each_conjunct (x_int z) = (refl, tt)
  each_conjunct (x_long z) = (refl, tt)
  each_conjunct (x_chars text) = (refl, tt)
  each_conjunct (x_field n) = (refl, tt)
  each_conjunct (x_local n) = (refl, tt)
  each_conjunct (x_compare r a b) = (refl, tt)
  each_conjunct (x_is_null a negated) = (refl, tt)
  each_conjunct (x_not a) = (refl, tt)
  each_conjunct (x_minus a) = (refl, tt)
  each_conjunct (x_choose test a b) = (refl, tt)
  each_conjunct (x_cast to a) = (refl, tt)
  each_conjunct (x_project a ns single) = (refl, tt)
  each_conjunct (x_look a key) = (refl, tt)
  each_conjunct (x_call function args) = (refl, tt)

  each_link_conjunct : (links : TypedLinks) → AllByRecursion IsConjunct (link_conjuncts links)
  each_link_conjunct no_links = tt
  each_link_conjunct (more_links operator a links) = each-append IsConjunct (conjuncts a) (link_conjuncts links) (each_conjunct a) (each_link_conjunct links)

-- ---- and those of a chain are its own

link_back : (cs : List Typed) → AllByRecursion IsConjunct cs → link_conjuncts (and_links cs) ≡ cs
link_back [] h = refl
link_back (c ∷ cs) h = λ i. h.0 i ++ link_back cs h.1 i

linked_back : (c : Typed) (cs : List Typed) → AllByRecursion IsConjunct (c ∷ cs) → conjuncts (linked c (and_links cs)) ≡ c ∷ cs
linked_back c [] h = h.0
linked_back c (d ∷ cs) h =
    ap (λ b. cond b (conjuncts c ++ link_conjuncts (and_links (d ∷ cs))) (x_chain c (and_links (d ∷ cs)) ∷ [])) (all_and_links (d ∷ cs))
    ∙ (λ i. h.0 i ++ link_back (d ∷ cs) h.1 i)

pub chained_back : (c : Typed) (cs xs : List Typed) → xs ≡ c ∷ cs → AllByRecursion IsConjunct xs → conjuncts (chained xs) ≡ xs
chained_back c cs [] e h = absurd (cc)
chained_back c cs (x ∷ xs) e h = linked_back x xs h

-- there is a conjunct
pub record SomeOf (e : Typed) : Type 0 where
  pub first : Typed
  pub more : List Typed
  pub are : conjuncts e ≡ first ∷ more

alone : (e : Typed) → conjuncts e ≡ e ∷ [] → SomeOf e
alone e is = record { first = e; more = []; are = is }

pub some_of : (e : Typed) → SomeOf e
some_of (x_chain first links) = by_test (all_and links) refl (some_of first)
  where
    by_test : (b : Bool) → all_and links ≡ b → SomeOf first → SomeOf (x_chain first links)
    by_test true e s = record {
      first = s.first;
      more = s.more ++ link_conjuncts links;
      are = ap (λ b. cond b (conjuncts first ++ link_conjuncts links) (x_chain first links ∷ [])) e ∙ ap (λ cs. cs ++ link_conjuncts links) s.are;
    }
    by_test false e s = alone (x_chain first links) (ap (λ b. cond b (conjuncts first ++ link_conjuncts links) (x_chain first links ∷ [])) e)
some_of x_null = alone x_null refl
some_of (x_bool b) = alone (x_bool b) refl
some_of (x_int z) = alone (x_int z) refl
some_of (x_long z) = alone (x_long z) refl
some_of (x_chars text) = alone (x_chars text) refl
some_of (x_field n) = alone (x_field n) refl
some_of (x_local n) = alone (x_local n) refl
some_of (x_compare r a b) = alone (x_compare r a b) refl
some_of (x_is_null a negated) = alone (x_is_null a negated) refl
some_of (x_not a) = alone (x_not a) refl
some_of (x_minus a) = alone (x_minus a) refl
some_of (x_choose test a b) = alone (x_choose test a b) refl
some_of (x_cast to a) = alone (x_cast to a) refl
some_of (x_project a ns single) = alone (x_project a ns single) refl
some_of (x_look a key) = alone (x_look a key) refl
some_of (x_call function args) = alone (x_call function args) refl

pub conjuncts_kept : ConjunctsAreKept
conjuncts_kept first more =
    let s : SomeOf first = some_of first in
    chained_back s.first (s.more ++ conjuncts more) (conjuncts first ++ conjuncts more) (ap (λ cs. cs ++ conjuncts more) s.are)
    (each-append IsConjunct (conjuncts first) (conjuncts more) (each_conjunct first) (each_conjunct more))
