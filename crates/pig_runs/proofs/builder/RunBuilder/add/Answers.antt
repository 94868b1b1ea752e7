use Rattle.std.proofs.Common.{[], ◌∷◌, sym, ap, subst}
use Rattle.pig_value.specs.Gathering.{Entry}
use Rattle.pig_value.specs.Trees.{tree, row_tree}
use Rattle.pig_keycode.specs.Keys.{IsKey}
use Rattle.pig_runs.specs.Entries.{IsEntry}
use Rattle.pig_runs.proofs.Adding.{finds_new, new_placed, held_after, placed_after, seen_after}
use Rattle.pig_runs.proofs.builder.RunBuilder.add.Goals as goal

pub invariant_of-self-inside : goal.invariant_of-self-inside
invariant_of-self-inside c =
    let e : Entry = record { key = tree c.args.key.now; input = c.args.input; row = row_tree c.args.row.now } in
    let good : IsEntry c.self.inside.dirs e = record { key = subst (λ ds. IsKey ds e.key) (sym (ap (λ b. b.dirs) c.self.view_is)) c.requires.key; row = c.requires.row } in
    (held_after c.self.inside.dirs (e ∷ []) c.self.inside.bytes.items c.add_entry.new.bytes.items _ c.self.inside.slots.items c.add_entry.new.slots.items _ c.add_entry.result (finds_new c.self.inside.dirs c.self.inside.bytes.items e good) c.self.invariant c.self.inside.held c.add_entry.ensures.bytes c.add_entry.ensures.slots c.add_entry.ensures.err_bytes c.add_entry.ensures.err_slots, tt)

pub invariant_of-self : goal.invariant_of-self
invariant_of-self c =
    let e : Entry = record { key = tree c.args.key.now; input = c.args.input; row = row_tree c.args.row.now } in
    placed_after c.self.inside.dirs (e ∷ []) c.self.inside.bytes.items c.add_entry.new.bytes.items _ c.self.inside.slots.items c.add_entry.new.slots.items _ c.add_entry.result (new_placed c.self.inside.bytes.items _ _ e.input) c.self.invariant c.add_entry.ensures.bytes c.add_entry.ensures.slots c.add_entry.ensures.err_bytes c.add_entry.ensures.err_slots

pub returns-clause-ok : goal.returns-clause-ok
returns-clause-ok c =
    let e : Entry = record { key = tree c.args.key.now; input = c.args.input; row = row_tree c.args.row.now } in
    let good : IsEntry c.self.inside.dirs e = record { key = subst (λ ds. IsKey ds e.key) (sym (ap (λ b. b.dirs) c.self.view_is)) c.requires.key; row = c.requires.row } in
    (seen_after c.self.inside.dirs (e ∷ []) c.self.inside.bytes.items c.add_entry.new.bytes.items _ c.self.inside.slots.items c.add_entry.new.slots.items _ c.add_entry.result (finds_new c.self.inside.dirs c.self.inside.bytes.items e good) c.self.invariant c.self.inside.held c.add_entry.ensures.bytes c.add_entry.ensures.slots c.add_entry.ensures.err_bytes c.add_entry.ensures.err_slots c.self-1.given.0 c.args.self.now (sym c.self.view_is)).0

pub returns-clause-err : goal.returns-clause-err
returns-clause-err c =
    let e : Entry = record { key = tree c.args.key.now; input = c.args.input; row = row_tree c.args.row.now } in
    let good : IsEntry c.self.inside.dirs e = record { key = subst (λ ds. IsKey ds e.key) (sym (ap (λ b. b.dirs) c.self.view_is)) c.requires.key; row = c.requires.row } in
    (seen_after c.self.inside.dirs (e ∷ []) c.self.inside.bytes.items c.add_entry.new.bytes.items _ c.self.inside.slots.items c.add_entry.new.slots.items _ c.add_entry.result (finds_new c.self.inside.dirs c.self.inside.bytes.items e good) c.self.invariant c.self.inside.held c.add_entry.ensures.bytes c.add_entry.ensures.slots c.add_entry.ensures.err_bytes c.add_entry.ensures.err_slots c.self-1.given.0 c.args.self.now (sym c.self.view_is)).1
