-- What is written and what is to come are the whole code.
use Rattle.std.proofs.Common.{◌≡◌, ◌∷◌, ◌++◌, length}
use Rattle.pig_value.specs.Extended.{IsExtended}
use Rattle.pig_keycode.specs.Codes.{text_code}
use Rattle.pig_keycode.proofs.encoding.write_text.Given as goal

abbrev pub invariant-loop-plain : goal.invariant-loop-plain
invariant-loop-plain l = (l.out.items ++ text_code l.rest ≡ l.fn.out.items ++ l.tag ∷ text_code l.text) × IsExtended l.fn.out.items l.out.items

abbrev pub decreases-loop-plain : goal.decreases-loop-plain
decreases-loop-plain l = length l.rest
