use Rattle.std.proofs.Common.{rules, ◌≡◌, ℕ, Vec, Global}
use Rattle.std.specs.declared.result.Result.TheVariants.{Err}
use Rattle.std.specs.Str.{IsUtf8}
use Rattle.pig_keycode.specs.Codes.{text_code}
use Rattle.pig_value.specs.Leaves.{AreBytes}
use Rattle.pig_keycode.proofs.CodeBytes.{utf8_bytes}
use Rattle.pig_keycode.proofs.Forms.{none_chars_text, no_chars}
use Rattle.pig_keycode.proofs.Passing.{passes_on}
use Rattle.pig_keycode.proofs.decoding.read_chars.Goals as goal

pub returns-in_err-text : goal.returns-in_err-text
returns-in_err-text c =
    let is : c.from_residual.result ≡ Err c.in_err-text.field-0.0 = search rules in
    passes_on {W = Vec ℕ Global} (λ text. text) text_code IsUtf8 (λ text. text.items) text_code AreBytes c.args.bytes.now c.args.bytes.now c.in_err-text.field-0.0 c.from_residual.result is c.in_err-text.ensures (none_chars_text c.args.bytes.now utf8_bytes)

pub returns-in-None : goal.returns-in-None
returns-in-None c = no_chars c.args.bytes.now c.in_ok-text.text.items c.in_ok-text.rest.now c.in_ok-text.ensures c.in-None.ensures
