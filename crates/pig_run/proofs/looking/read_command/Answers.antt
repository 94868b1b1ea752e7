use Rattle.std.proofs.Common.{rules, refl, inl}
use Rattle.pig_words.specs.declared.words.Command.{Command}
use Rattle.pig_words.specs.CommandWords.{IsCommand}
use Rattle.pig_run.proofs.looking.read_command.Goals as goal

pub returns-in-Err-Usage-clause-usage : goal.returns-in-Err-Usage-clause-usage
returns-in-Err-Usage-clause-usage c =
    let none : (d : Command) → ¬ IsCommand c.args.line.now.hosts c.args.line.now.words.now d = c.in-Err-Usage.ensures.usage (search rules) in
    inl (refl, λ (command, is). none command is)
