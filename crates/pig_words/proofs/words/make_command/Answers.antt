use Rattle.std.proofs.Common.{rules, ◌≡◌, ◌∙◌, refl, sym, subst}
use Rattle.pig_words.specs.ClapWords.{given_of}
use Rattle.pig_words.specs.CommandWords.{Makes}
use Rattle.pig_words.specs.declared.words.Command.{Command}
use Rattle.pig_words.proofs.Commands.{made, numbers_of_made}
use Rattle.pig_words.proofs.words.make_command.Goals as goal

pub returns-in_default-clause-usage : goal.returns-in_default-clause-usage
returns-in_default-clause-usage c = λ _ command same values makes.
    c.in_default.not-Some _ (c.read_numbers.ensures ∙ numbers_of_made c.args.hosts (given_of c.args.found.now) command values makes)

pub returns-in-Ok-clause-makes : goal.returns-in-Ok-clause-makes
returns-in-Ok-clause-makes c =
    let g = given_of c.args.found.now in
    let m = made c.args.hosts c.args.verb g c.args.found.now.operand.now c.in-Some.numbers c.args.params (search rules) refl (sym c.read_numbers.ensures ∙ c.in-Some.is) in
    let command : Command = record { verb = c.args.verb; operand = c.in-Ok.operand; workers = c.in-Some.numbers.workers; reducers = c.in-Some.numbers.reducers; split = c.from.result; attempts = c.in-Some.numbers.attempts; params = c.args.params } in
    let same : ◌≡◌ {A = Command} (record { verb = c.args.verb; operand = c.args.found.now.operand.now; workers = c.in-Some.numbers.workers; reducers = c.in-Some.numbers.reducers; split = c.in-Some.numbers.split; attempts = c.in-Some.numbers.attempts; params = c.args.params }) command =
    λ i. record { verb = c.args.verb; operand = sym c.in-Ok.ensures i; workers = c.in-Some.numbers.workers; reducers = c.in-Some.numbers.reducers; split = sym c.from.ensures i; attempts = c.in-Some.numbers.attempts; params = c.args.params } in
    (refl, m.0, subst (Makes c.args.hosts g) same m.1)
