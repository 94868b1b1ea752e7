-- The table is that of the definition.
use Rattle.std.proofs.Common.{◌∙◌, ap}
use Rattle.pig_syntax.specs.Tokens.{among_texts, symbol_of}
use Rattle.pig_syntax.proofs.Tables.{texts_are}
use Rattle.pig_syntax.proofs.forms.symbol_of.Goals as goal

pub returns : goal.returns
unfolding symbol_of
returns c = c.among_texts.ensures ∙ ap (λ table. among_texts table c.args.text.now) texts_are
