use Rattle.std.proofs.Common.{◌∙◌, ap}
use Rattle.pig_schema.specs.Names.{meaning}
use Rattle.pig_typing.proofs.CodeLaws.{names_are}
use Rattle.pig_typing.proofs.names.place.Goals as goal

pub returns : goal.returns
returns c = c.find.ensures.is ∙ ap (λ names. meaning names c.args.name.now) (names_are c.args.columns.now)
