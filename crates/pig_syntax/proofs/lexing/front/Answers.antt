-- The token that is found begins the bytes, and none does where none is found.
use Rattle.std.proofs.Common.{◌≡◌, Some, None, sym, rules}
use Rattle.pig_syntax.specs.Tokens.{Begins}
use Rattle.pig_syntax.specs.Scanner.{token_at}
use Rattle.pig_syntax.proofs.Recognised.{nothing_begins, token_begins}
use Rattle.pig_syntax.proofs.Streams.{token_shorter}
use Rattle.pig_syntax.proofs.lexing.front.Goals as goal

pub returns-in-Some-2 : goal.returns-in-Some-2
returns-in-Some-2 c =
    let found : token_at c.args.bytes.now ≡ Some (c.in-Some-2.form, c.in-Some-2.rest.now) = search rules in
    let begins : Begins c.args.bytes.now c.in-Some-2.form c.in-Some-2.rest.now = token_begins c.args.bytes.now c.in-Some-2.rest.now c.in-Some-2.form (sym c.in-None.ensures.value) found in
    (begins, token_shorter c.args.bytes.now c.in-Some-2.rest.now c.in-Some-2.form begins)

pub returns-in-None-2 : goal.returns-in-None-2
returns-in-None-2 c =
    let none : token_at c.args.bytes.now ≡ None = search rules in
    nothing_begins c.args.bytes.now (sym c.in-None.ensures.value) none
