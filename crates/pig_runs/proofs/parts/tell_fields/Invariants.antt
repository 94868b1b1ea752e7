-- What is told, and what is to come with a comma before each text, is what is to be told.
use Rattle.std.proofs.Common.{◌≡◌, drop, map}
use Rattle.std.specs.List.{fold, join_with_byte}
use Rattle.pig_text.specs.Hash.{hash_step}
use Rattle.pig_value.specs.Texts.{text_of}
use Rattle.pig_value.specs.Trees.{row_tree}
use Rattle.pig_runs.proofs.RowTexts.{with_commas}
use Rattle.pig_runs.proofs.parts.tell_fields.Given as goal

abbrev pub invariant-others : goal.invariant-others
invariant-others l =
    fold hash_step l.told.hash (with_commas (map text_of (row_tree (drop l.field-index l.others))))
    ≡ fold hash_step l.fn.told.hash (join_with_byte 44 (map text_of (row_tree l.fields)))
