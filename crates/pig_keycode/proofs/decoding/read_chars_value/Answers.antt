use Rattle.std.proofs.Common.{rules, ◌≡◌, ◌∷◌}
use Rattle.std.specs.declared.result.Result.TheVariants.{Err}
use Rattle.std.specs.Str.{IsUtf8}
use Rattle.pig_keycode.specs.Codes.{text_code}
use Rattle.pig_value.specs.Trees.{tree}
use Rattle.pig_keycode.specs.Codes.{code}
use Rattle.pig_value.specs.Valid.{IsValue}
use Rattle.pig_keycode.proofs.Forms.{none_chars}
use Rattle.pig_keycode.proofs.Passing.{passes_on}
use Rattle.pig_keycode.proofs.decoding.read_chars_value.Goals as goal

pub returns-in_err-text : goal.returns-in_err-text
returns-in_err-text c =
    let is : c.from_residual.result ≡ Err c.in_err-text.field-0.0 = search rules in
    passes_on tree code IsValue (λ text. text) text_code IsUtf8 (4 ∷ c.args.content.now) c.args.content.now c.in_err-text.field-0.0 c.from_residual.result is c.in_err-text.ensures (none_chars c.args.content.now)
