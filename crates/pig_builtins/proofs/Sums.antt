-- Numbers that are reduced to the range of a long.
use Rattle.std.proofs.Common.{◌≡◌, sym, ap, ◌∙◌, refl, arith}
use Rattle.std.specs.Prelude.{ℕ, ◌<◌, ◌%◌, ◌^◌, ℤ, pos, negsuc, ◌+ℤ◌, unsigned_abs, FitsSigned, List, [], ◌∷◌, ◌++◌}
use Rattle.std.specs.Int.{w32, w64, int_wrap, cast_signed}
use Rattle.std.proofs.Math.Nat.{mod-eq_of_lt}
use Rattle.std.proofs.lemmas.Int.{int_wrap_fits, int_wrap-add_left, int_wrap-add_right}
use Rattle.std.proofs.Math.IntN.{+ℤ_idr, +ℤ_idl, +ℤ_assoc}
use Rattle.pig_value.specs.Functions.{sum_ℤ}

-- a number that fits is the sum of it alone
pub sum_alone : (z : ℤ) → FitsSigned w64 z → z ≡ int_wrap w64 (z +ℤ pos 0)
sum_alone z fits = sym (ap (int_wrap w64) (+ℤ_idr z) ∙ int_wrap_fits w64 z fits)

-- the lengths of the empty list and of a list of one
pub zero_is : int_wrap w64 (pos 0) ≡ pos 0
unfolding int_wrap
zero_is = refl

pub one_is : int_wrap w64 (pos 1) ≡ pos 1
unfolding int_wrap
one_is = refl

-- exact sums of joined lists
pub sum_ℤ-append : (xs ys : List ℤ) → sum_ℤ (xs ++ ys) ≡ sum_ℤ xs +ℤ sum_ℤ ys
sum_ℤ-append [] ys = sym (+ℤ_idl (sum_ℤ ys))
sum_ℤ-append (x ∷ xs) ys = ap (λ z. x +ℤ z) (sum_ℤ-append xs ys) ∙ sym (+ℤ_assoc x (sum_ℤ xs) (sum_ℤ ys))

-- reduced numbers may be added: their sum is reduced to the same
pub wraps_both : (a b : ℤ) → int_wrap w64 (int_wrap w64 a +ℤ int_wrap w64 b) ≡ int_wrap w64 (a +ℤ b)
wraps_both a b = int_wrap-add_left w64 a (int_wrap w64 b) ∙ int_wrap-add_right w64 a b

-- a length within the range, and a magnitude
pub long_length : (n : ℕ) → n < 2 ^ 64 → cast_signed w64 n ≡ int_wrap w64 (pos n)
unfolding int_wrap
long_length n h = ap (cast_signed w64) (sym (mod-eq_of_lt h))

magnitude_below : (z : ℤ) → FitsSigned w64 z → unsigned_abs z < 2 ^ 64
magnitude_below (pos n) h = omega (arith, h)
magnitude_below (negsuc n) h = omega (arith, h)

pub long_magnitude : (z : ℤ) → FitsSigned w64 z → cast_signed w64 (unsigned_abs z) ≡ int_wrap w64 (pos (unsigned_abs z))
long_magnitude z h = long_length (unsigned_abs z) (magnitude_below z h)

int_magnitude_below : (z : ℤ) → FitsSigned w32 z → unsigned_abs z < 2 ^ 32
int_magnitude_below (pos n) h = omega (arith, h)
int_magnitude_below (negsuc n) h = omega (arith, h)

pub int_magnitude : (z : ℤ) → FitsSigned w32 z → cast_signed w32 (unsigned_abs z) ≡ int_wrap w32 (pos (unsigned_abs z))
unfolding int_wrap
int_magnitude z h = ap (cast_signed w32) (sym (mod-eq_of_lt (int_magnitude_below z h)))

-- a place as an int
pub int_place : (n : ℕ) → cast_signed w32 (n % 2 ^ 32) ≡ int_wrap w32 (pos n)
unfolding int_wrap
int_place n = refl

pub minus_one_is : int_wrap w32 (negsuc 0) ≡ negsuc 0
unfolding int_wrap
minus_one_is = refl
