-- The test of a number's text decides it.
use Rattle.std.proofs.Common.{◌≡◌, ℕ, ℤ, Bool, true, false, ◌⊎◌, inl, inr, List, length, None, Some, refl, subst, FitsSigned}
use Rattle.std.specs.Bool.{Decides}
use Rattle.std.specs.Int.{Width, int_wrap}
use Rattle.std.specs.Str.{all_ascii_digits}
use Rattle.std.specs.Str.Parse.{AllDigits, signed_digits_value, without_leading_sign}
use Rattle.std.proofs.lemmas.Bool.Decides.{Decides-and, Decides-int_eq, Decides-like, Decides-ltb, not_from_Decides}
use Rattle.std.proofs.lemmas.Int.{SFits-int_wrap, int_wrap_fits}
use Rattle.std.proofs.lemmas.Str.Parse.{numerals_by_value, tells_all_ascii_digits}
use Rattle.pig_value.specs.Fields.{IsNumberText}
use Rattle.pig_value.specs.FieldReader.{fits_signed, is_number_text, number_of}

digits_Decides : (ds : List ℕ) → Decides (all_ascii_digits ds) (AllDigits 10 ds)
digits_Decides ds = let own = numerals_by_value (λ xs. all_ascii_digits xs ≡ true) tells_all_ascii_digits in (own.to ds, own.from ds)

fits_Decides : (w : Width) (z : ℤ) → Decides (fits_signed w z) (FitsSigned w z)
fits_Decides w z = Decides-like (fits_signed w z) (λ e. let P : ℤ → Type 0 = λ y. FitsSigned w y in subst P e (SFits-int_wrap w z)) (λ fits. int_wrap_fits w z fits) (Decides-int_eq (int_wrap w z) z)

pub number_text_Decides : (w : Width) (bs : List ℕ) → Decides (is_number_text w bs) (IsNumberText w bs)
number_text_Decides w bs =
    let ds : List ℕ = without_leading_sign bs in
    Decides-and _ _ (Decides-and _ _ (Decides-ltb 0 (length ds)) (digits_Decides ds)) (fits_Decides w (signed_digits_value 10 bs))

-- a number's text is its number, and another text is none
pub number_cases : (w : Width) (bs : List ℕ) → (IsNumberText w bs × (number_of w bs ≡ Some (signed_digits_value 10 bs))) ⊎ ((¬ IsNumberText w bs) × (number_of w bs ≡ None))
number_cases w bs = by_test (is_number_text w bs) refl
  where
    by_test : (b : Bool) → is_number_text w bs ≡ b → (IsNumberText w bs × (number_of w bs ≡ Some (signed_digits_value 10 bs))) ⊎ ((¬ IsNumberText w bs) × (number_of w bs ≡ None))
    by_test true e = inl ((number_text_Decides w bs).0 e, rw e refl)
    by_test false e = inr (not_from_Decides (is_number_text w bs) (number_text_Decides w bs) e, rw e refl)
