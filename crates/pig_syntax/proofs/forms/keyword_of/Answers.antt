-- The table is that of the definition.
use Rattle.std.proofs.Common.{◌∙◌, ap}
use Rattle.pig_syntax.specs.Tokens.{among_names, keyword_of}
use Rattle.pig_syntax.proofs.Tables.{names_are}
use Rattle.pig_syntax.proofs.forms.keyword_of.Goals as goal

pub returns : goal.returns
unfolding keyword_of
returns c = c.among_names.ensures ∙ ap (λ table. among_names table c.args.word.now) names_are
