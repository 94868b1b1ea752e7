-- Prefixes, and what tests of them tell.
use Rattle.std.proofs.Common.{◌≡◌, ℕ, List, [], ◌∷◌, ◌++◌, ◌≢◌, Bool, true, false, cond, Bor, refl, sym, subst, arith}
use Rattle.std.specs.Prelude.{MatchOption, option_map, Option, Some, None, ◌==◌}
use Rattle.std.proofs.lemmas.Grind.{common_steps}
use Rattle.pig_syntax.specs.Tokens.{strip}

-- a number is itself
pub itself : (n : ℕ) → (n == n) ≡ true
itself n = grind (arith, common_steps)

-- a prefix is read off
pub strip-append : (p r : List ℕ) → strip p (p ++ r) ≡ Some r
unfolding strip
strip-append [] r = refl
strip-append (c ∷ ps) r = rw (itself c) (strip-append ps r)

-- what stands behind a prefix
pub strip_split : (p bs r : List ℕ) → strip p bs ≡ Some r → bs ≡ p ++ r
unfolding strip
strip_split [] bs r h = cc
strip_split (c ∷ ps) [] r h = absurd (cc)
strip_split (c ∷ ps) (b ∷ bs) r h = by_test (strip_split ps bs r) (c == b) refl h
  where
    by_test : (strip ps bs ≡ Some r → bs ≡ ps ++ r) → (t : Bool) → (c == b) ≡ t → cond t (strip ps bs) None ≡ Some r → b ∷ bs ≡ c ∷ (ps ++ r)
    by_test ih true e g = let rest : bs ≡ ps ++ r = ih g in grind (arith, common_steps)
    by_test ih false e g = absurd (cc)

unmatched : (p bs : List ℕ) (o : Option (List ℕ)) → strip p bs ≡ o → ((rest : List ℕ) → bs ≢ p ++ rest) → None ≡ o
unmatched p bs None e h = refl
unmatched p bs (Some r) e h = absurd (h r (strip_split p bs r e))

-- what a test of a prefix tells
pub strip_told : (p bs : List ℕ) (r : Option (Bor (List ℕ))) → MatchOption r ((rest : List ℕ) → bs ≢ p ++ rest) (λ x. bs ≡ p ++ x.now) → option_map (λ rest. rest.now) r ≡ strip p bs
strip_told p bs None h = unmatched p bs (strip p bs) refl h
strip_told p bs (Some x) h = sym (subst (λ v. strip p v ≡ Some x.now) (sym h) (strip-append p x.now))
