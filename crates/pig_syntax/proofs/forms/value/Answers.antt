-- One more digit.
use Rattle.std.proofs.Common.{◌<◌, ◌≤◌, get_or, length, refl, arith}
use Rattle.pig_syntax.proofs.Numbers.{digit_in, value_more}
use Rattle.pig_syntax.proofs.forms.value.Goals as goal

pub loop-digit-preserved : goal.loop-digit-preserved
loop-digit-preserved c =
    let within : c.loop-digit.digit-index < length c.args.digits.now = omega arith in
    let range : (48 ≤ get_or c.args.digits.now c.loop-digit.digit-index 0) × (get_or c.args.digits.now c.loop-digit.digit-index 0 ≤ 57) = digit_in c.args.digits.now c.loop-digit.digit-index c.requires within in
    value_more c.args.digits.now c.loop-digit.digit-index c.loop-digit.value (get_or c.args.digits.now c.loop-digit.digit-index 0) c.saturating_add-value.result within c.loop-digit.invariant refl range.0 range.1 (omega arith)
