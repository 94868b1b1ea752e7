-- What a name means in a schema.
use Rattle.std.proofs.Common.{◌≡◌, ◌∙◌, ◌<◌, ◌+◌, ℕ, List, [], ◌∷◌, length, refl, sym, ap, subst, arith, ◌⊎◌, inl, inr}
use Rattle.std.specs.Prelude.{Option, Result, Ok, Err, IfOk, IfErr}
use Rattle.std.proofs.lemmas.Option.{slice_get_within}
use Rattle.pig_schema.specs.declared.naming.NameFault.{NameFault}
use Rattle.pig_schema.specs.declared.naming.NameFault.TheVariants as fault
use Rattle.pig_schema.specs.Names.{
  HasName,
  FitsField,
  StandsAt,
  Nowhere,
  IsOnly,
  AreTwo,
  IsMeant,
  named,
  fitting,
  IsUnknown,
  IsAmbiguous,
  IsNameFault,
  has_name,
  fits_field,
  places_from,
  only_of,
  meaning,
}
use Rattle.pig_schema.proofs.Fitting.{has_fits, named_is, fitting_is}
use Rattle.pig_schema.proofs.Counting.{Counted, counted}

fits_there : (s : List (Option (List ℕ))) (name : List ℕ) (place : ℕ) → StandsAt (HasName name) s place → StandsAt (FitsField name) s place
fits_there s name place (field, e, h) = (field, e, has_fits name field h)

no_two : (P : Option (List ℕ) → Type 0) (s : List (Option (List ℕ))) (place : ℕ) → IsOnly P s place → AreTwo P s → ⊥
no_two P s place only two = two.apart (only.alone two.one two.here ∙ sym (only.alone two.other two.there))

two_named : (s : List (Option (List ℕ))) (name : List ℕ) → AreTwo (HasName name) s → IsAmbiguous s name
two_named s name two = record { known = λ none. none two.one (fits_there s name two.one two.here); unmeant = unmeant }
  where
    unmeant : (place : ℕ) → IsMeant s name place → ⊥
    unmeant place (named only) = no_two (HasName name) s place only two
    unmeant place (fitting none only) = none two.one two.here

two_fitting : (s : List (Option (List ℕ))) (name : List ℕ) → Nowhere (HasName name) s → AreTwo (FitsField name) s → IsAmbiguous s name
two_fitting s name unnamed two = record { known = λ none. none two.one two.here; unmeant = unmeant }
  where
    unmeant : (place : ℕ) → IsMeant s name place → ⊥
    unmeant place (named only) = unnamed place only.here
    unmeant place (fitting none only) = no_two (FitsField name) s place only two

-- ---- the answer is right

abbrev pub IsTold : List (Option (List ℕ)) → List ℕ → Result ℕ NameFault → Type 0
IsTold s name r = IfOk r (IsMeant s name) × IfErr r (IsNameFault s name)

only_at : (P : Option (List ℕ) → Type 0) (s : List (Option (List ℕ))) (p place : ℕ) → p ≡ 0 + place → IsOnly P s place → IsOnly P s p
only_at P s p place e only = subst (IsOnly P s) (let k : place ≡ p = omega (arith, e) in k) only

pub told : (s : List (Option (List ℕ))) (name : List ℕ) → IsTold s name (meaning s name)
told s name =
    by (places_from (has_name name) s 0) (counted (HasName name) (has_name name) (named_is name) s 0)
    (places_from (fits_field name) s 0) (counted (FitsField name) (fits_field name) (fitting_is name) s 0)
  where
    by : (ns : List ℕ) → Counted (HasName name) s 0 ns → (fs : List ℕ) → Counted (FitsField name) s 0 fs → IsTold s name (only_of ns (only_of fs (Err fault.Unknown)))
    by [] none [] unfit = (tt, unfit)
    by [] none (p ∷ []) (place, e, only) = (fitting none (only_at (FitsField name) s p place e only), tt)
    by [] none (p ∷ q ∷ ps) two = (tt, two_fitting s name none two)
    by (p ∷ []) (place, e, only) fs count = (named (only_at (HasName name) s p place e only), tt)
    by (p ∷ q ∷ ps) two fs count = (tt, two_named s name two)

-- ---- and the only one

one_meant : (s : List (Option (List ℕ))) (name : List ℕ) (p q : ℕ) → IsMeant s name p → IsMeant s name q → p ≡ q
one_meant s name p q (named a) (named b) = b.alone p a.here
one_meant s name p q (named a) (fitting none b) = absurd (none p a.here)
one_meant s name p q (fitting none a) (named b) = absurd (none q b.here)
one_meant s name p q (fitting none a) (fitting none' b) = b.alone p a.here

meant_known : (s : List (Option (List ℕ))) (name : List ℕ) (place : ℕ) → IsMeant s name place → IsUnknown s name → ⊥
meant_known s name place (named only) unnamed = unnamed place (fits_there s name place only.here)
meant_known s name place (fitting none only) unnamed = unnamed place only.here

pub meant_is : (s : List (Option (List ℕ))) (name : List ℕ) (place : ℕ) → IsMeant s name place → meaning s name ≡ Ok place
meant_is s name place h = by (meaning s name) (told s name)
  where
    by : (r : Result ℕ NameFault) → IsTold s name r → r ≡ Ok place
    by (Ok p) (k, t) = ap Ok (one_meant s name p place k h)
    by (Err fault.Unknown) (t, k) = absurd (meant_known s name place h k)
    by (Err fault.Ambiguous) (t, k) = absurd (k.unmeant place h)
    by (Err fault.PositionOut) (t, k) = absurd k

pub unknown_is : (s : List (Option (List ℕ))) (name : List ℕ) → IsUnknown s name → meaning s name ≡ Err fault.Unknown
unknown_is s name h = by (meaning s name) (told s name)
  where
    by : (r : Result ℕ NameFault) → IsTold s name r → r ≡ Err fault.Unknown
    by (Ok p) (k, t) = absurd (meant_known s name p k h)
    by (Err fault.Unknown) (t, k) = refl
    by (Err fault.Ambiguous) (t, k) = absurd (k.known h)
    by (Err fault.PositionOut) (t, k) = absurd k

pub ambiguous_is : (s : List (Option (List ℕ))) (name : List ℕ) → IsAmbiguous s name → meaning s name ≡ Err fault.Ambiguous
ambiguous_is s name h = by (meaning s name) (told s name)
  where
    by : (r : Result ℕ NameFault) → IsTold s name r → r ≡ Err fault.Ambiguous
    by (Ok p) (k, t) = absurd (h.unmeant p k)
    by (Err fault.Unknown) (t, k) = absurd (h.known k)
    by (Err fault.Ambiguous) (t, k) = refl
    by (Err fault.PositionOut) (t, k) = absurd k

pub two_of : (s : List (Option (List ℕ))) (name : List ℕ) → IsAmbiguous s name → AreTwo (HasName name) s ⊎ (Nowhere (HasName name) s × AreTwo (FitsField name) s)
two_of s name h =
    by (places_from (has_name name) s 0) (counted (HasName name) (has_name name) (named_is name) s 0)
    (places_from (fits_field name) s 0) (counted (FitsField name) (fits_field name) (fitting_is name) s 0)
  where
    by : (ns : List ℕ) → Counted (HasName name) s 0 ns → (fs : List ℕ) → Counted (FitsField name) s 0 fs → AreTwo (HasName name) s ⊎ (Nowhere (HasName name) s × AreTwo (FitsField name) s)
    by [] none [] unfit = absurd (h.known unfit)
    by [] none (p ∷ []) (place, e, only) = absurd (h.unmeant place (fitting none only))
    by [] none (p ∷ q ∷ ps) two = inr (none, two)
    by (p ∷ []) (place, e, only) fs count = absurd (h.unmeant place (named only))
    by (p ∷ q ∷ ps) two fs count = inl two

pub meant_within : (s : List (Option (List ℕ))) (name : List ℕ) (place : ℕ) → IsMeant s name place → place < length s
meant_within s name place (named only) = slice_get_within s place only.here.0 only.here.1
meant_within s name place (fitting none only) = slice_get_within s place only.here.0 only.here.1
