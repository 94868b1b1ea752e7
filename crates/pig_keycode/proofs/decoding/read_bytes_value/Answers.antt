use Rattle.std.proofs.Common.{rules, ◌≡◌, ◌∷◌, ℕ, Vec, Global}
use Rattle.std.specs.declared.result.Result.TheVariants.{Err}
use Rattle.pig_keycode.specs.Codes.{text_code}
use Rattle.pig_value.specs.Leaves.{AreBytes}
use Rattle.pig_value.specs.Trees.{tree}
use Rattle.pig_keycode.specs.Codes.{code}
use Rattle.pig_value.specs.Valid.{IsValue}
use Rattle.pig_keycode.proofs.Forms.{none_bytes}
use Rattle.pig_keycode.proofs.Passing.{passes_on}
use Rattle.pig_keycode.proofs.decoding.read_bytes_value.Goals as goal

pub returns-in_err-bytes : goal.returns-in_err-bytes
returns-in_err-bytes c =
    let is : c.from_residual.result ≡ Err c.in_err-bytes.field-0.0 = search rules in
    passes_on {W = Vec ℕ Global} tree code IsValue (λ text. text.items) text_code AreBytes (5 ∷ c.args.content.now) c.args.content.now c.in_err-bytes.field-0.0 c.from_residual.result is c.in_err-bytes.ensures (none_bytes c.args.content.now)
