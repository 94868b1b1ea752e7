use Rattle.std.proofs.Common.{ap, sym, ◌∙◌, take}
use Rattle.std.proofs.lemmas.List.{take-map}
use Rattle.pig_value.specs.Trees.{row_tree, rows_tree}
use Rattle.pig_plain.proofs.rowwise.first_coming.Goals as goal

pub returns : goal.returns
returns c =
    ap rows_tree (c.from_vec.ensures ∙ c.truncate.ensures.items ∙ ap (take c.args.count) c.into_vec-rows.ensures)
    ∙ sym (take-map row_tree c.args.count c.in_ok-begun.field-0) ∙ c.in_ok-begun.ensures
