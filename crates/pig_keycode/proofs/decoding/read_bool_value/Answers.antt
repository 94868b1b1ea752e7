use Rattle.std.proofs.Common.{rules, ◌≡◌, ◌∷◌}
use Rattle.std.specs.declared.result.Result.TheVariants.{Err}
use Rattle.pig_keycode.specs.Reading.{mark_code, AnyMark}
use Rattle.pig_value.specs.Trees.{tree}
use Rattle.pig_keycode.specs.Codes.{code}
use Rattle.pig_value.specs.Valid.{IsValue}
use Rattle.pig_keycode.proofs.Forms.{none_bool}
use Rattle.pig_keycode.proofs.Passing.{passes_on}
use Rattle.pig_keycode.proofs.decoding.read_bool_value.Goals as goal

pub returns-in_err-truth : goal.returns-in_err-truth
returns-in_err-truth c =
    let is : c.from_residual.result ≡ Err c.in_err-truth.field-0.0 = search rules in
    passes_on tree code IsValue (λ b. b) mark_code AnyMark (1 ∷ c.args.content.now) c.args.content.now c.in_err-truth.field-0.0 c.from_residual.result is c.in_err-truth.ensures (none_bool c.args.content.now)
