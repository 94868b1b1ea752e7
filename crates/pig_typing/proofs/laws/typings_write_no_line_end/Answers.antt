use Rattle.pig_typing.proofs.NoLineEnds.{typing_free, condition_free, keys_free}
use Rattle.pig_typing.proofs.laws.typings_write_no_line_end.Goals as goal

pub returns : goal.returns
returns c = record {
  expression = λ s a p w h. typing_free s a p w h;
  condition = λ s a t w h. condition_free s a t w h;
  keys = λ s es ps w h. keys_free s es ps w h;
}
