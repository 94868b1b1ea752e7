use Rattle.std.proofs.Common.{◌∙◌, sym, ◌∷◌}
use Rattle.std.specs.List.{slice_split}
use Rattle.pig_value.specs.Functions.{is_separator}
use Rattle.pig_builtins.proofs.Characters.{front_range}
use Rattle.pig_builtins.proofs.Pieces.{cut_at, edge_before, edge_after, uncut}
use Rattle.pig_builtins.proofs.tokens.cut.Goals as goal

pub range-requires-clause-end_boundary : goal.range-requires-clause-end_boundary
range-requires-clause-end_boundary c =
    let found = rw c.as_bytes.ensures.value at c.in-Some.ensures in
    edge_before c.args.text.now c.in-Some.at found.0 found.1

pub range_from-requires : goal.range_from-requires
range_from-requires c =
    let found = rw c.as_bytes.ensures.value at c.in-Some.ensures in
    λ _. edge_after c.args.text.now c.in-Some.at found.0 found.1 c.utf8.text

pub returns-in-Some-clause-split : goal.returns-in-Some-clause-split
returns-in-Some-clause-split c =
    let found = rw c.as_bytes.ensures.value at c.in-Some.ensures in
    cut_at c.args.text.now c.in-Some.at found.0 found.1
    ∙ (λ i. sym (c.range.ensures.value ∙ front_range c.args.text.now c.in-Some.at) i ∷ slice_split is_separator (sym c.range_from.ensures.value i))

pub returns-in-None-clause-split : goal.returns-in-None-clause-split
returns-in-None-clause-split c = uncut c.args.text.now (rw c.as_bytes.ensures.value at c.in-None.ensures)
