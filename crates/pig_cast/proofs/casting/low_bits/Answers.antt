-- The remainder by 2 to the 32 is what is left in 32 bits.
use Rattle.std.proofs.Common.{◌≡◌, ◌∙◌, FitsSigned, ap, rules, pos, to_z, of_z, unsigned_abs}
use Rattle.std.specs.Int.{w32, w64, cast_signed, int_rem_euclid, int_wrap}
use Rattle.std.proofs.lemmas.Int.{SFits-int_wrap, to_z-of_z}
use Rattle.pig_cast.proofs.casting.low_bits.Goals as goal

pub returns : goal.returns
unfolding int_wrap
returns c =
    let n = c.args.n in
    let low = c.rem_euclid-low.result in
    let fits : FitsSigned w64 low = search rules in
    let whole : FitsSigned w64 n = search rules in
    let value : low ≡ int_rem_euclid n (pos 4294967296) = c.rem_euclid-low.ensures.value ∙ ap (λ z. int_rem_euclid z (pos 4294967296)) (to_z-of_z w64 n whole) in
    let e : c.cast_signed.result ≡ int_wrap w32 n = c.cast_signed.ensures ∙ ap (λ z. cast_signed w32 (unsigned_abs z)) (to_z-of_z w64 low fits ∙ value) in
    ap (λ z. to_z w32 (of_z w32 z)) e ∙ to_z-of_z w32 (int_wrap w32 n) (SFits-int_wrap w32 n)
