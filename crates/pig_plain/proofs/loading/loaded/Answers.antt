use Rattle.std.proofs.Common.{◌∙◌, ap, map}
use Rattle.std.specs.List.{flat_map}
use Rattle.pig_value.specs.FieldRows.{row_of}
use Rattle.pig_value.specs.Lines.{lines}
use Rattle.pig_value.proofs.list_laws.Listing.{map-flat_map}
use Rattle.pig_plan.specs.Operators.{pieces_of}
use Rattle.pig_plain.proofs.loading.loaded.Goals as goal

pub returns : goal.returns
returns c =
    let row = row_of c.args.columns.now c.args.delim in
    c.of.ensures
    ∙ ap (λ pieces. map row (flat_map lines pieces)) (c.pieces_of.ensures ∙ ap (pieces_of c.args.inputs.now) c.as_str.ensures.text)
    ∙ map-flat_map row lines (pieces_of c.args.inputs.now c.args.path.now)
