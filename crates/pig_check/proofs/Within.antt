-- A path is within another where that one goes on behind it, at its end or with a slash.
use Rattle.std.proofs.Common.{◌≡◌, ◌++◌, ◌≢◌, ℕ, true, false, List, [], ◌∷◌, refl, sym, subst, append-nil}
use Rattle.std.specs.Prelude.{◌==◌}
use Rattle.std.proofs.lemmas.Bool.{and_parts, eqb-true, false_from_ne_true, false≢true}
use Rattle.std.proofs.lemmas.Bool.Decides.{Decides-eqb}
use Rattle.pig_check.specs.Paths.{is_within}

-- what stands behind the path decides
pub within_front : (path rest : List ℕ) → is_within path (path ++ rest) ≡ is_within [] rest
within_front [] rest = refl
within_front (b ∷ path) rest = rw ((Decides-eqb b b).1 refl) (within_front path rest)

pub within_itself : (path : List ℕ) → is_within path path ≡ true
within_itself path = subst (λ other. is_within path other ≡ true) (append-nil path) (within_front path [])

begins_so : (path other : List ℕ) → is_within path other ≡ true → (rest : List ℕ) × (other ≡ path ++ rest)
begins_so [] other e = (other, refl)
begins_so (a ∷ path) [] e = absurd (false≢true e)
begins_so (a ∷ path) (b ∷ other) e =
    let parts = and_parts (a == b) (is_within path other) e in
    let more = begins_so path other parts.1 in
    (more.0, λ i. sym (eqb-true a b parts.0) i ∷ more.1 i)

pub not_within : (path other : List ℕ) → ((rest : List ℕ) → other ≢ path ++ rest) → is_within path other ≡ false
not_within path other none = false_from_ne_true (is_within path other) (λ e. let more = begins_so path other e in none more.0 more.1)
