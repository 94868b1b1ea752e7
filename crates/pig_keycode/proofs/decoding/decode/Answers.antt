use Rattle.std.proofs.Common.{subst}
use Rattle.std.specs.declared.option.Option.TheVariants.{None}
use Rattle.std.specs.declared.result.Result.TheVariants.{Err}
use Rattle.pig_value.specs.Trees.{tree}
use Rattle.pig_keycode.specs.Codes.{code}
use Rattle.pig_value.specs.Valid.{IsValue}
use Rattle.pig_keycode.specs.Reading.{Reads, NoneFirst}
use Rattle.pig_keycode.proofs.Wholes.{decoded, off_decoded, decoded_back}
use Rattle.pig_keycode.proofs.decoding.decode.Goals as goal

pub returns-in-Ok-clause-value : goal.returns-in-Ok-clause-value
returns-in-Ok-clause-value c = decoded c.args.bytes.now c.in-Ok.value c.in-Ok.rest.now c.whole.result c.in-Ok.ensures c.whole.ensures

pub returns-in-Ok-clause-round_trip : goal.returns-in-Ok-clause-round_trip
returns-in-Ok-clause-round_trip c = decoded_back c.args.bytes.now c.whole.result (decoded c.args.bytes.now c.in-Ok.value c.in-Ok.rest.now c.whole.result c.in-Ok.ensures c.whole.ensures)

pub returns-in-Err-Off-clause-value : goal.returns-in-Err-Off-clause-value
returns-in-Err-Off-clause-value c =
    let none : NoneFirst code IsValue c.args.bytes.now = subst (λ e. Reads tree code IsValue c.args.bytes.now (Err e)) c.in-Err-Off.field-0-is c.in-Err-Off.ensures in
    off_decoded c.args.bytes.now none

pub returns-in-Err-Off-clause-round_trip : goal.returns-in-Err-Off-clause-round_trip
returns-in-Err-Off-clause-round_trip c =
    let none : NoneFirst code IsValue c.args.bytes.now = subst (λ e. Reads tree code IsValue c.args.bytes.now (Err e)) c.in-Err-Off.field-0-is c.in-Err-Off.ensures in
    decoded_back c.args.bytes.now None (off_decoded c.args.bytes.now none)
