use Rattle.std.proofs.Common.{◌%◌, ◌∙◌, ap, map}
use Rattle.pig_text.specs.Hash.{hash_of}
use Rattle.pig_value.specs.Texts.{text_of, tuple_text}
use Rattle.pig_value.specs.Trees.{row_tree}
use Rattle.pig_runs.proofs.RowTexts.{tuple_hash}
use Rattle.pig_runs.proofs.parts.part_of_row.Goals as goal

pub returns-clause-is : goal.returns-clause-is
returns-clause-is c =
    ap (λ h. h % c.args.n)
    (c.row_hash.ensures ∙ (ap (λ fields. hash_of (tuple_text (map text_of (row_tree fields)))) c.as_slice.ensures ∙ tuple_hash (row_tree c.args.row.now)))
