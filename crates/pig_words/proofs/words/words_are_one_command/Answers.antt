use Rattle.pig_words.proofs.Commands.{one_command}
use Rattle.pig_words.proofs.Decisions.{command_decided}
use Rattle.pig_words.proofs.words.words_are_one_command.Goals as goal

pub returns-clause-one : goal.returns-clause-one
returns-clause-one c = one_command

pub returns-clause-decided : goal.returns-clause-decided
returns-clause-decided c = command_decided
