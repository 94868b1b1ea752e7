use Rattle.std.proofs.Common.{◌∙◌, ap, sym}
use Rattle.std.specs.Option.{option_copied, option_map_or}
use Rattle.pig_value.specs.FieldReader.{field_value}
use Rattle.pig_value.specs.Trees.{kind_tree, tree, v_null}
use Rattle.pig_cast.proofs.FieldLaw.{one_value}
use Rattle.pig_storage.proofs.rows.field_over.Goals as goal

pub returns : goal.returns
returns c =
    let kind = kind_tree c.args.kind.now in
    let value = c.in_ok-value.value in
    (one_value kind c.in-Some.bytes.now (tree value)).0 c.in_ok-value.ensures ∙ ap (λ o. option_map_or (field_value kind) (option_copied o) v_null) (sym c.in-Some.is)
