use Rattle.std.proofs.lemmas.Result.{IfErr-weaker}
use Rattle.pig_params.specs.TakenViews.{parted_of}
use Rattle.pig_words.proofs.Commands.{left_bare}
use Rattle.pig_words.proofs.words.read_words.Goals as goal

pub returns-clause-usage : goal.returns-clause-usage
returns-clause-usage c = IfErr-weaker c.read_bare.result _ _ (λ fault refused usage command is.
    refused usage command (left_bare c.args.hosts c.args.words.now (parted_of c.in_ok-rest.field-0) command c.in_ok-rest.ensures.taken is)) c.read_bare.ensures.usage
