-- The places that a test finds: none, one or two of them stand for no field, one or two that have the property.
use Rattle.std.proofs.Common.{◌≡◌, ◌+◌, ℕ, zero, suc, List, [], ◌∷◌, Bool, true, false, refl, ap, subst, arith}
use Rattle.std.specs.Prelude.{Option, if◌then◌else◌}
use Rattle.std.specs.Bool.{Decides}
use Rattle.pig_schema.specs.Names.{StandsAt, Nowhere, IsOnly, AreTwo, places}

abbrev pub Counted : (Option (List ℕ) → Type 0) → List (Option (List ℕ)) → ℕ → List ℕ → Type 0
Counted P fields at [] = Nowhere P fields
Counted P fields at (p ∷ []) = (place : ℕ) × (p ≡ at + place) × IsOnly P fields place
Counted P fields at (p ∷ q ∷ ps) = AreTwo P fields

module _ (P : Option (List ℕ) → Type 0) where
  later_two : (f : Option (List ℕ)) (fields : List (Option (List ℕ))) → AreTwo P fields → AreTwo P (f ∷ fields)
  later_two f fields two = record { one = suc two.one; other = suc two.other; apart = λ e. two.apart (let k : two.one ≡ two.other = omega (arith, e) in k); here = two.here; there = two.there }

  first_two : (f : Option (List ℕ)) (fields : List (Option (List ℕ))) (i : ℕ) → P f → StandsAt P fields i → AreTwo P (f ∷ fields)
  first_two f fields i h k = record { one = 0; other = suc i; apart = λ e. omega (arith, e); here = (f, refl, h); there = k }

  first_only : (f : Option (List ℕ)) (fields : List (Option (List ℕ))) → P f → Nowhere P fields → IsOnly P (f ∷ fields) 0
  first_only f fields h none = record { here = (f, refl, h); alone = alone }
    where
      alone : (other : ℕ) → StandsAt P (f ∷ fields) other → other ≡ 0
      alone zero k = refl
      alone (suc i) k = absurd (none i k)

  not_first : (f : Option (List ℕ)) (fields : List (Option (List ℕ))) → (P f → ⊥) → StandsAt P (f ∷ fields) 0 → ⊥
  not_first f fields h (g, e, k) = h (subst P (let same : g ≡ f = cc in same) k)

  later_only : (f : Option (List ℕ)) (fields : List (Option (List ℕ))) (i : ℕ) → (P f → ⊥) → IsOnly P fields i → IsOnly P (f ∷ fields) (suc i)
  later_only f fields i h only = record { here = only.here; alone = alone }
    where
      alone : (other : ℕ) → StandsAt P (f ∷ fields) other → other ≡ suc i
      alone zero k = absurd (not_first f fields h k)
      alone (suc j) k = ap suc (only.alone j k)

  later_none : (f : Option (List ℕ)) (fields : List (Option (List ℕ))) → (P f → ⊥) → Nowhere P fields → Nowhere P (f ∷ fields)
  later_none f fields h none zero k = not_first f fields h k
  later_none f fields h none (suc i) k = none i k

  step : (f : Option (List ℕ)) (fields : List (Option (List ℕ))) (at : ℕ) (b : Bool) → Decides b (P f) → (ps : List ℕ) → Counted P fields (at + 1) ps → Counted P (f ∷ fields) at (if b then at ∷ ps else ps)
  step f fields at true d [] none = (0, omega arith, first_only f fields (d.0 refl) none)
  step f fields at true d (p ∷ []) (i, e, only) = first_two f fields i (d.0 refl) only.here
  step f fields at true d (p ∷ q ∷ ps) two = first_two f fields two.one (d.0 refl) two.here
  step f fields at false d [] none = later_none f fields (λ h. let wrong = d.1 h in cc) none
  step f fields at false d (p ∷ []) (i, e, only) = (suc i, omega (arith, e), later_only f fields i (λ h. let wrong = d.1 h in cc) only)
  step f fields at false d (p ∷ q ∷ ps) two = later_two f fields two

  module _ (test : Option (List ℕ) → Bool) (decides : (f : Option (List ℕ)) → Decides (test f) (P f)) where
    pub counted : (fields : List (Option (List ℕ))) (at : ℕ) → Counted P fields at (places test at fields)
    counted [] at = nowhere
      where
        nowhere : (place : ℕ) → StandsAt P [] place → ⊥
        nowhere place (f, e, h) = absurd (cc)
    counted (f ∷ fields) at = choose (test f) (decides f) (places test (at + 1) fields) (counted fields (at + 1))
      where
        choose : (b : Bool) → Decides b (P f) → (ps : List ℕ) → Counted P fields (at + 1) ps → Counted P (f ∷ fields) at (if b then at ∷ ps else ps)
        choose = step f fields at
