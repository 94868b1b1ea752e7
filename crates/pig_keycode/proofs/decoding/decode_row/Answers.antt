use Rattle.std.proofs.Common.{subst}
use Rattle.std.specs.declared.option.Option.TheVariants.{None}
use Rattle.pig_keycode.proofs.Wholes.{IsDecoded, row_decoded, no_row_decoded, row_back}
use Rattle.pig_keycode.proofs.decoding.decode_row.Goals as goal

pub returns-in-Ok-Some-clause-row : goal.returns-in-Ok-Some-clause-row
returns-in-Ok-Some-clause-row c = row_decoded c.args.bytes.now c.in-Ok-Some.value c.into_tuple.result (subst (IsDecoded c.args.bytes.now) c.in-Ok-Some.field-0-is c.in-Ok-Some.ensures.value) c.into_tuple.ensures

pub returns-in-Ok-Some-clause-round_trip : goal.returns-in-Ok-Some-clause-round_trip
returns-in-Ok-Some-clause-round_trip c = row_back c.args.bytes.now c.into_tuple.result (returns-in-Ok-Some-clause-row c)

pub returns-in-Ok-None-clause-row : goal.returns-in-Ok-None-clause-row
returns-in-Ok-None-clause-row c = no_row_decoded c.args.bytes.now (subst (IsDecoded c.args.bytes.now) c.in-Ok-None.field-0-is c.in-Ok-None.ensures.value)

pub returns-in-Ok-None-clause-round_trip : goal.returns-in-Ok-None-clause-round_trip
returns-in-Ok-None-clause-round_trip c = row_back c.args.bytes.now None (returns-in-Ok-None-clause-row c)
