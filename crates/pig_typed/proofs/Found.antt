-- What holds of what is found, if something is, through the steps of a search.
use Rattle.std.specs.Prelude.{◌≡◌, Bool, true, false, Option, Some, None, refl, if◌then◌else◌}
use Rattle.std.proofs.Common.{subst}
use Rattle.std.specs.Option.{option_and_then}
use Rattle.pig_value.proofs.OfRead.{OfRead}

module _ {X Y : Type 0} where
  pub then_found : (P : X → Type 0) (Q : Y → Type 0) (next : X → Option Y) → ((x : X) → P x → OfRead Q (next x)) → (o : Option X) → OfRead P o → OfRead Q (option_and_then next o)
  then_found P Q next keeps None h = tt
  then_found P Q next keeps (Some x) h = keeps x h

module _ {X : Type 0} where
  -- something, where a test is passed
  pub tested : (P : X → Type 0) (b : Bool) (o : Option X) → (b ≡ true → OfRead P o) → OfRead P (if b then o else None)
  tested P true o h = h refl
  tested P false o h = tt

  -- what is found is what one asks for
  pub found_is : (P : X → Type 0) (o : Option X) (x : X) → o ≡ Some x → OfRead P o → P x
  found_is P (Some y) x e h = let both : y ≡ x = cc in subst P both h
  found_is P None x e h = absurd (cc)

  pub of_found : (P : X → Type 0) (o : Option X) → ((x : X) → o ≡ Some x → P x) → OfRead P o
  of_found P None h = tt
  of_found P (Some x) h = h x refl
