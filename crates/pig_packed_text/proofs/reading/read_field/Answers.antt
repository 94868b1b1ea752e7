use Rattle.std.proofs.Common.{rules}
use Rattle.pig_packed_text.specs.SeenTexts.{BeginsWithText}
use Rattle.pig_packed_text.proofs.Front.{lent_tells}
use Rattle.pig_packed_text.proofs.reading.read_field.Goals as goal

pub returns-in-Some-clause-text : goal.returns-in-Some-clause-text
returns-in-Some-clause-text c =
    let begins : BeginsWithText c.args.code.now c.in-Some.text.now c.in-Some.rest.now = search rules in
    lent_tells c.args.code.now c.in-Some.text.now c.in-Some.rest.now begins
