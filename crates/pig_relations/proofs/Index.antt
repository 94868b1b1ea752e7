-- The index of aliases: what it tells is what an alias means, also behind one more statement.
use Rattle.std.proofs.Common.{◌≡◌, ◌∙◌, ◌<◌, ℕ, zero, suc, List, [], ◌∷◌, ◌++◌, length, refl, sym, ap, Bool, true, false, arith}
use Rattle.std.specs.Prelude.{Option, Some, None, IfSome, slice_get, slice_set, if◌then◌else◌}
use Rattle.std.specs.Option.{option_map, unwrap_or}
use Rattle.std.specs.Str.{bytes_eq}
use Rattle.std.proofs.lemmas.Cmp.{nat_list_eq_equiv}
use Rattle.pig_typing.specs.Columns.{later_or}
use Rattle.pig_relations.specs.declared.aliases.Named.{Named}
use Rattle.pig_relations.specs.Aliases.{IsIndex, aliases_of, named_relation, relation_at, relation_in, relation_tree}
use Rattle.pig_relations.proofs.Tables.{relation_behind}

-- what is found at the place of an alias
pub index_tells : (given : List Named) (place : Option ℕ) (alias : List ℕ) (p : ℕ) (found : Option Named) → relation_in given place ≡ relation_at alias (aliases_of given)
    → Some p ≡ place → found ≡ slice_get given p → option_map (λ n. relation_tree n.relation) found ≡ relation_at alias (aliases_of given)
index_tells given place alias p found e at is = ap (option_map (λ n. relation_tree n.relation)) is ∙ ap (relation_in given) at ∙ e

last_one : (given : List Named) (n : Named) → slice_get (given ++ n ∷ []) (length given) ≡ Some n
last_one [] n = refl
last_one (m ∷ given) n = last_one given n

-- one more changes what stands at no place before
earlier : (given : List Named) (n : Named) (place : Option ℕ) → IfSome place (λ p. p < length given) → relation_in (given ++ n ∷ []) place ≡ relation_in given place
earlier given n None h = refl
earlier given n (Some p) h = ap (option_map (λ m. relation_tree m.relation)) (stays given p h)
  where
    stays : (ms : List Named) (p : ℕ) → p < length ms → slice_get (ms ++ n ∷ []) p ≡ slice_get ms p
    stays [] p h = absurd (omega (arith, h))
    stays (m ∷ ms) zero h = refl
    stays (m ∷ ms) (suc p) h = stays ms p (omega (arith, h))

within : (given : List Named) (n : Named) (place : Option ℕ) → IfSome place (λ p. p < length given) → IfSome place (λ p. p < length (given ++ n ∷ []))
within given n None h = h
within given n (Some p) h = let e = longer given in omega (arith, h, e)
  where
    longer : (ms : List Named) → length (ms ++ n ∷ []) ≡ suc (length ms)
    longer [] = refl
    longer (m ∷ ms) = ap suc (longer ms)

last_within : (given : List Named) (n : Named) → length given < length (given ++ n ∷ [])
last_within [] n = omega arith
last_within (m ∷ given) n = let e = last_within given n in omega (arith, e)

aliases_behind : (given : List Named) (n : Named) → aliases_of (given ++ n ∷ []) ≡ aliases_of given ++ named_relation n ∷ []
aliases_behind [] n = refl
aliases_behind (m ∷ given) n = ap (λ more. named_relation m ∷ more) (aliases_behind given n)

-- bytes are equal either way round
turned : (a b : List ℕ) → bytes_eq a b ≡ bytes_eq b a
turned a b = nat_list_eq_equiv.symm a b

pub index_behind : (given : List Named) (n : Named) (old new : List ℕ → Option ℕ) → IsIndex given old
    → ((name : List ℕ) → new name ≡ (if bytes_eq name n.alias then Some (length given) else old name)) → IsIndex (given ++ n ∷ []) new
index_behind given n old new h e name = by (bytes_eq name n.alias) refl
  where
    means : (b : Bool) → bytes_eq name n.alias ≡ b
        → relation_at name (aliases_of (given ++ n ∷ [])) ≡ later_or (if b then Some (relation_tree n.relation) else None) (relation_at name (aliases_of given))
    means b w = ap (relation_at name) (aliases_behind given n) ∙ relation_behind name (aliases_of given) (named_relation n)
        ∙ ap (λ test. later_or (if test then Some (relation_tree n.relation) else None) (relation_at name (aliases_of given))) (turned n.alias name ∙ w)

    by : (b : Bool) → bytes_eq name n.alias ≡ b
        → (relation_in (given ++ n ∷ []) (new name) ≡ relation_at name (aliases_of (given ++ n ∷ []))) × IfSome (new name) (λ p. p < length (given ++ n ∷ []))
    by true w =
        let at : new name ≡ Some (length given) = e name ∙ ap (λ b. if b then Some (length given) else old name) w in
        rw (at) (ap (option_map (λ m. relation_tree m.relation)) (last_one given n) ∙ sym (means true w), last_within given n)
    by false w =
        let at : new name ≡ old name = e name ∙ ap (λ b. if b then Some (length given) else old name) w in
        rw (at) (earlier given n (old name) (h name).1 ∙ (h name).0 ∙ sym (means false w), within given n (old name) (h name).1)

-- what stands at a place, put there again, changes nothing
pub put_back : {X : Type 0} (xs : List X) (p : ℕ) (x y : X) → Some x ≡ slice_get xs p → y ≡ x → slice_set xs p y ≡ xs
put_back [] p x y at is = refl
put_back (z ∷ xs) zero x y at is = ap (λ first. first ∷ xs) (is ∙ ap (λ found. unwrap_or found x) at)
put_back (z ∷ xs) (suc p) x y at is = ap (λ rest. z ∷ rest) (put_back xs p x y at is)
