use Rattle.std.proofs.Common.{refl, subst}
use Rattle.std.proofs.lemmas.Result.{on_ok_weaker}
use Rattle.pig_value.specs.Trees.{fields_of, row_tree, v_tuple}
use Rattle.pig_shuffle.specs.Held.{ChangedAt, GotKey, entry_under, held_in}
use Rattle.pig_shuffle.proofs.Steps.{one_more_key}
use Rattle.pig_shuffle.proofs.parts.Parts.add_row.Goals as goal

pub returns-clause-added : goal.returns-clause-added
returns-clause-added c =
    let key = v_tuple (fields_of (row_tree c.args.row.now)) in
    let before = c.args.self.now in
    let keys = c.add_row_to_keys.new.keys.items in
    on_ok_weaker c.add_row_to_keys.result
    (λ got. one_more_key (entry_under key c.args.input (row_tree c.args.row.now)) (held_in before)
    (before.count, (before.runs.items, (before.tables.items, keys))) (c.if-not-holds_keys.ensures.some refl) refl refl refl
    (subst (λ p. ChangedAt p (GotKey key) before.keys.items keys) c.part_of_key_row-part.ensures got))
    c.add_row_to_keys.ensures
