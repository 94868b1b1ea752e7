use Rattle.std.proofs.Common.{◌≡◌, [], ◌∷◌, ◌++◌, length, ◌∙◌, ap, rules}
use Rattle.pig_value.specs.Trees.{tree, row_tree}
use Rattle.pig_keycode.specs.Keys.{key_code}
use Rattle.pig_keycode.specs.Reading.{row_code}
use Rattle.pig_runs.proofs.Adding.{slot_last}
use Rattle.pig_runs.proofs.packing.add_entry.Goals as goal

pub returns-in-Ok-clause-slots : goal.returns-in-Ok-clause-slots
returns-in-Ok-clause-slots c =
    let begins : c.len-start.result ≡ length c.args.bytes.now.items = search rules in
    c.in-Ok.ensures.ok
    ∙ ap (λ slot. c.args.slots.now.items ++ slot ∷ [])
    (slot_last c.args.bytes.now.items (key_code c.args.dirs.now (tree c.args.key.now)) (row_code (row_tree c.args.row.now)) c.as_slice.result.now
    c.len-start.result c.in_ok-middle.middle c.args.input begins c.in_ok-middle.ensures.place (c.as_slice.ensures.value ∙ c.in_ok-middle.ensures.bytes))
