-- The bytes of a word are UTF-8.
use Rattle.std.proofs.Common.{◌∙◌}
use Rattle.pig_syntax.proofs.Utf8.{word_utf8}
use Rattle.pig_syntax.proofs.forms.name.Goals as goal

pub returns : goal.returns
returns c = c.from_string.ensures ∙ c.in_ok-text.ensures.ok (word_utf8 c.args.word.now c.requires)
