use Rattle.std.proofs.Common.{◌≡◌, map, take, All, IsUtf8}
use Rattle.pig_words.proofs.words.texts.Given as goal

abbrev pub invariant-loop-word : goal.invariant-loop-word
invariant-loop-word l = (map (λ w. w.now) l.texts.items ≡ take l.word-index l.words) × All IsUtf8 (map (λ w. w.now) l.texts.items)
