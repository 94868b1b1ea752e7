use Rattle.std.proofs.Common.{rules, ◌∙◌}
use Rattle.pig_words.proofs.WordNumbers.{value_parsed}
use Rattle.pig_words.proofs.words.value.Goals as goal

pub returns : goal.returns
returns c = c.ok.ensures.value ∙ value_parsed c.args.word.now c.parse.result c.parse.ensures.value.0 (search rules)
