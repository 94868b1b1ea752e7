-- What is written and what is to come are the whole text.
use Rattle.std.proofs.Common.{◌≡◌, ◌++◌, drop}
use Rattle.pig_explain.specs.WaveTexts.{waves_text}
use Rattle.pig_explain.proofs.waves.put_waves.Given as goal

abbrev pub invariant-loop-number : goal.invariant-loop-number
invariant-loop-number l = l.out.items ++ waves_text l.order l.number (drop l.number l.heads) ≡ l.fn.out.items ++ waves_text l.order 0 l.heads
