use Rattle.std.proofs.Common.{rules, ◌≡◌, ◌∙◌}
use Rattle.std.specs.Prelude.{◌∷◌}
use Rattle.pig_value.specs.Trees.{row_tree}
use Rattle.pig_combine.proofs.Found.{row_added}
use Rattle.pig_combine.proofs.groups.+add_row.Goals as goal

pub returns-clause-told : goal.returns-clause-told
returns-clause-told n c rows h =
    let are_cuts : c.args.cuts.now ≡ c.in-Some.cut.now ∷ c.in-Some.more.now = search rules in
    let are_tallies : c.args.tallies.now ≡ c.in-Some-split_first_mut.tally.now ∷ c.in-Some-split_first_mut.rest.now = search rules in
    row_added rows (row_tree c.args.row.now) c.args.cuts.now c.in-Some.more.now c.in-Some.cut.now c.args.tallies.now c.in-Some-split_first_mut.rest.now c.add_row.new.tallies
    c.in-Some-split_first_mut.tally.now c.settle.new.self are_cuts are_tallies
    (λ e. c.settle.ensures.told ∙ c.in_ok-change.ensures.told rows e)
    (c.in_ok-add_row.ensures.told rows) h
