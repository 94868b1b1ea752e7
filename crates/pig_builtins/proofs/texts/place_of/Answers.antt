use Rattle.std.proofs.Common.{◌∙◌, ap, sym}
use Rattle.std.specs.Prelude.{Some, length}
use Rattle.std.specs.Str.{chars}
use Rattle.pig_builtins.proofs.Characters.{first_boundary, front_range, place_found, place_lost}
use Rattle.pig_builtins.proofs.texts.place_of.Goals as goal

pub range-requires-clause-end_boundary : goal.range-requires-clause-end_boundary
range-requires-clause-end_boundary c =
    let found = rw (c.as_bytes.ensures.value, c.as_bytes-2.ensures.value) at c.in-Some.ensures in
    first_boundary c.args.text.now c.args.wanted.now c.in-Some.at c.utf8.text c.utf8.wanted found.0 found.1

pub returns-in-Some : goal.returns-in-Some
returns-in-Some c =
    let found = rw (c.as_bytes.ensures.value, c.as_bytes-2.ensures.value) at c.in-Some.ensures in
    ap Some (c.characters.ensures ∙ ap (λ bytes. length (chars bytes)) (c.range.ensures.value ∙ front_range c.args.text.now c.in-Some.at))
    ∙ sym (place_found c.args.text.now c.args.wanted.now c.in-Some.at c.utf8.text c.utf8.wanted found.0 found.1)

pub returns-in-None : goal.returns-in-None
returns-in-None c =
    let found = rw (c.as_bytes.ensures.value, c.as_bytes-2.ensures.value) at c.in-None.ensures in
    sym (place_lost c.args.text.now c.args.wanted.now c.utf8.text c.utf8.wanted found)
