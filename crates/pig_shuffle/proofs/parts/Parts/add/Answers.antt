use Rattle.std.proofs.Common.{◌≡◌, refl, subst}
use Rattle.std.proofs.lemmas.Result.{on_ok_weaker}
use Rattle.pig_value.specs.Trees.{row_tree, tree}
use Rattle.pig_runs.specs.Parts.{pn}
use Rattle.pig_shuffle.specs.Held.{ChangedAt, GotEntry, GotKey, TookEntry, entry_under, held_in}
use Rattle.pig_shuffle.proofs.Steps.{one_more}
use Rattle.pig_shuffle.proofs.parts.Parts.add.Goals as goal

pub returns-clause-added : goal.returns-clause-added
returns-clause-added c =
    let key = tree c.args.key.now in
    let row = row_tree c.args.row.now in
    let e = entry_under key c.args.input row in
    let before = c.args.self.now in
    let runs = c.add_to_runs.new.runs.items in
    let tables = c.add_to_tables.new.tables.items in
    let keys = c.add_to_keys.new.keys.items in
    let part : c.part_among-part.result ≡ pn key before.count = c.part_among-part.ensures in
    on_ok_weaker c.add_to_keys.result
    (λ got. one_more e (held_in before) (before.count, (runs, (tables, keys))) refl
    (subst (λ p. ChangedAt p (GotEntry e) before.runs.items runs) part c.in_ok-add_to_runs.ensures.added)
    (subst (λ p. ChangedAt p (TookEntry key row) before.tables.items tables) part c.in_ok-add_to_tables.ensures)
    (subst (λ p. ChangedAt p (GotKey key) before.keys.items keys) part got))
    c.add_to_keys.ensures
