use Rattle.std.proofs.Common.{◌≡◌, ◌++◌, take}
use Rattle.pig_params.proofs.words.add_words.Given as goal

abbrev pub invariant-loop-word : goal.invariant-loop-word
invariant-loop-word l = l.rest ≡ l.initial.rest ++ take l.word-index l.words
