use Rattle.std.proofs.Common.{◌≡◌, ◌∙◌, ◌++◌, [], ap, rules, sym}
use Rattle.pig_value.specs.Trees.{rows_tree}
use Rattle.pig_plain.specs.Coming.{source_rows, steps_rows}
use Rattle.pig_plain.proofs.Walks.{batch_is}
use Rattle.pig_plain.proofs.walking.Walk.next_batch.Goals as goal

pub returns-then-done-clause-rows : goal.returns-then-done-clause-rows
returns-then-done-clause-rows c =
    let steps = c.next_rows.new.self.steps.items in
    let made_is = c.in_ok-made.ensures ∙ ap (λ ss. steps_rows ss (rows_tree c.in_ok-rows.rows)) c.as_slice.ensures.value in
    c.reads.invariant
    ∙ ap (λ ss. steps_rows ss.items (source_rows c.reads.self.source)) (sym c.next_rows.ensures.steps)
    ∙ batch_is steps (source_rows c.reads.self.source) (rows_tree c.in_ok-rows.rows) (source_rows c.next_rows.new.self.source) (rows_tree c.in_ok-made.made) c.in_ok-rows.ensures.rows made_is

pub reads-preserved : goal.reads-preserved
reads-preserved c =
    let steps = c.next_rows.new.self.steps.items in
    let none : rows_tree c.in_ok-made.made ≡ [] = search rules in
    let made_is = c.in_ok-made.ensures ∙ ap (λ ss. steps_rows ss (rows_tree c.in_ok-rows.rows)) c.as_slice.ensures.value in
    c.reads.invariant
    ∙ ap (λ ss. steps_rows ss.items (source_rows c.reads.self.source)) (sym c.next_rows.ensures.steps)
    ∙ batch_is steps (source_rows c.reads.self.source) (rows_tree c.in_ok-rows.rows) (source_rows c.next_rows.new.self.source) (rows_tree c.in_ok-made.made) c.in_ok-rows.ensures.rows made_is
    ∙ ap (λ rows. rows ++ steps_rows steps (source_rows c.next_rows.new.self.source)) none
