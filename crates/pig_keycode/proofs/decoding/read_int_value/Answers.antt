use Rattle.std.proofs.Common.{rules, ◌≡◌, ◌∷◌}
use Rattle.std.specs.declared.result.Result.TheVariants.{Err}
use Rattle.std.specs.Prelude.{◌^◌, FitsSigned}
use Rattle.std.specs.Int.{w32, to_be_bytes}
use Rattle.pig_keycode.specs.Codes.{biased}
use Rattle.pig_value.specs.Trees.{tree}
use Rattle.pig_keycode.specs.Codes.{code}
use Rattle.pig_value.specs.Valid.{IsValue}
use Rattle.pig_keycode.proofs.Forms.{none_int}
use Rattle.pig_keycode.proofs.Passing.{passes_on}
use Rattle.pig_keycode.proofs.decoding.read_int_value.Goals as goal

pub returns-in_err-number : goal.returns-in_err-number
returns-in_err-number c =
    let is : c.from_residual.result ≡ Err c.in_err-number.field-0.0 = search rules in
    passes_on tree code IsValue (λ z. z) (λ z. to_be_bytes w32 (biased (2 ^ 31) z)) (FitsSigned w32) (2 ∷ c.args.content.now) c.args.content.now c.in_err-number.field-0.0 c.from_residual.result is c.in_err-number.ensures (none_int c.args.content.now)
