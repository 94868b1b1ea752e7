use Rattle.std.proofs.Common.{List, length, map}
use Rattle.pig_value.specs.Trees.{Tree}
use Rattle.pig_keycode.specs.Codable.{IsCodeOfRow}
use Rattle.pig_packed_text.specs.SeenTexts.{seen_text}
use Rattle.pig_packed_text.proofs.Rows.{IsLeft}
use Rattle.pig_packed_text.proofs.reading.read_fields.Given as goal

abbrev pub invariant-loop-item : goal.invariant-loop-item
invariant-loop-item l = (row : List Tree) → IsCodeOfRow l.fn.code row → IsLeft row (map seen_text l.fields.items) l.rest

abbrev pub decreases-loop-item : goal.decreases-loop-item
decreases-loop-item l = length l.rest
