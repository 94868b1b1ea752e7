-- What was read of the text, and what is left tells the rest of it.
use Rattle.std.proofs.Common.{length}
use Rattle.pig_keycode.proofs.Sequences.{TextGoes}
use Rattle.pig_keycode.proofs.decoding.read_text.Given as goal

abbrev pub invariant-loop-text : goal.invariant-loop-text
invariant-loop-text l = TextGoes l.bytes l.rest l.text.items

abbrev pub decreases-loop-text : goal.decreases-loop-text
decreases-loop-text l = length l.rest
