-- Arithmetic on numbers of a width gives numbers of the width.
use Rattle.std.specs.Prelude.{◌≡◌, ◌≤◌, ◌<◌, ◌^◌, ◌/◌, ℕ, ℤ, pos, negsuc, zero, suc, int_div, int_rem, Bool, true, false, Option, Some, None, FitsSigned, refl, if◌then◌else◌}
use Rattle.std.specs.Int.{Width, w32, w64, int_wrap, int_wrapping_add, int_wrapping_sub, int_wrapping_mul, int_wrapping_div, int_wrapping_neg}
use Rattle.std.specs.Ordering.{int_eq}
use Rattle.std.proofs.Common.{arith, sym, subst, neg_ℤ, ◌+ℤ◌, ◌-ℤ◌, ◌*ℤ◌}
use Rattle.std.proofs.Math.Facts.{Fits-of_lt, sfits_to_z, to_z-of_z}
use Rattle.std.proofs.Math.Nat.{div-le_self}
use Rattle.std.proofs.lemmas.Int.{SFits-int_wrap, wrapping_add_is, wrapping_mul_is, wrapping_neg_is, wrapping_sub_is}
use lib.Signed.{mag, mag_rem}
use mir.Val.{bits, hbits, of_z, to_z}
use Rattle.pig_value.specs.declared.operators.ChainOp.{ChainOp}
use Rattle.pig_value.specs.declared.operators.ChainOp.TheVariants as op
use Rattle.pig_value.proofs.OfRead.{OfRead}
use Rattle.pig_typed.specs.Operators.{number_by}

negated_mag : (r a : ℕ) → r ≤ suc a → mag (neg_ℤ (pos r)) ≤ a
negated_mag zero a h = omega arith
negated_mag (suc r) a h = omega arith

module _ (w : Width) (half : 2 ^ hbits w < 2 ^ bits w) where
  stays : (q : ℤ) → mag q < 2 ^ hbits w → FitsSigned w (to_z w (of_z w q))
  stays q h = let fits : FitsSigned w q = record { sfits = h } in subst (FitsSigned w) (sym (to_z-of_z fits)) fits

  div_fits : (a b : ℤ) → FitsSigned w a → FitsSigned w (int_wrapping_div w a b)
  div_fits (pos a) (pos b) f = stays (pos (a / b)) (omega (arith, div-le_self a b, f.sfits))
  div_fits (pos a) (negsuc b) f =
      let small : a / suc b ≤ a = div-le_self a (suc b) in
      stays (neg_ℤ (pos (a / suc b))) (omega (arith, negated_mag (a / suc b) a (omega arith), f.sfits))
  div_fits (negsuc a) (pos b) f =
      stays (neg_ℤ (pos (suc a / b))) (omega (arith, negated_mag (suc a / b) a (div-le_self (suc a) b), f.sfits))
  div_fits (negsuc a) (negsuc b) f = sfits_to_z (Fits-of_lt (omega (arith, div-le_self (suc a) (suc b), f.sfits, half)))

  rem_fits : (a b : ℤ) → FitsSigned w a → FitsSigned w (int_rem a b)
  rem_fits a b f = record { sfits = omega (arith, mag_rem a b, f.sfits) }

  unless_zero : (b : Bool) (z : ℤ) → FitsSigned w z → OfRead (FitsSigned w) (if b then None else Some z)
  unless_zero true z f = tt
  unless_zero false z f = f

  pub number_fits : (operator : ChainOp) (a b : ℤ) → FitsSigned w a → FitsSigned w b → OfRead (FitsSigned w) (number_by operator w a b)
  number_fits op.Or a b f g = tt
  number_fits op.And a b f g = tt
  number_fits op.Add a b f g = subst (FitsSigned w) (sym (wrapping_add_is w a b f g)) (SFits-int_wrap w (a +ℤ b))
  number_fits op.Sub a b f g = subst (FitsSigned w) (sym (wrapping_sub_is w a b f g)) (SFits-int_wrap w (a -ℤ b))
  number_fits op.Mul a b f g = subst (FitsSigned w) (sym (wrapping_mul_is w a b f g)) (SFits-int_wrap w (a *ℤ b))
  number_fits op.Div a b f g = unless_zero (int_eq b (pos 0)) (int_wrapping_div w a b) (div_fits a b f)
  number_fits op.Rem a b f g = unless_zero (int_eq b (pos 0)) (int_rem a b) (rem_fits a b f)

  pub neg_fits : (a : ℤ) → FitsSigned w a → FitsSigned w (int_wrapping_neg w a)
  neg_fits a f = subst (FitsSigned w) (sym (wrapping_neg_is w a f)) (SFits-int_wrap w (neg_ℤ a))
