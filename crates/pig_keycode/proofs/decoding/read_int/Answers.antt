use Rattle.std.proofs.Common.{◌≡◌, ◌+◌, ◌<◌, ◌^◌, ℕ, length, get_or, arith, sym, subst}
use Rattle.std.specs.Prelude.{FitsSigned}
use Rattle.std.specs.Int.{w32, to_be_bytes}
use Rattle.std.proofs.lemmas.Int.{to_z-of_z}
use Rattle.pig_keycode.specs.Codes.{biased}
use Rattle.pig_keycode.specs.Reading.{StandsFirst}
use Rattle.pig_keycode.proofs.Numbers.{int_stands}
use Rattle.pig_keycode.proofs.decoding.read_int.Goals as goal

pub returns-in-Some : goal.returns-in-Some
returns-in-Some c =
    let bytes = c.args.bytes.now in
    let rest = c.in-Some.rest.now in
    let z = c.unbiased_int.result in
    let count : length rest + 4 ≡ length bytes = c.in-Some.ensures.cases.2 in
    let small : (i : ℕ) → get_or bytes i 0 < 256 = λ i. let byte = c.type_inv.bytes i in omega (arith, byte) in
    let stands = int_stands bytes c.in-Some.number.now rest c.from_be_bytes.result z c.in-Some.ensures.cases.0 c.in-Some.ensures.cases.1 (omega arith) small c.from_be_bytes.ensures c.unbiased_int.ensures.is c.unbiased_int.ensures.fits in
    subst (λ y. StandsFirst (λ z. to_be_bytes w32 (biased (2 ^ 31) z)) (FitsSigned w32) bytes y rest) (sym (to_z-of_z w32 z c.unbiased_int.ensures.fits)) stands
