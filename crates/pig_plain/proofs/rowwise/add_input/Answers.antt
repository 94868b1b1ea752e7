use Rattle.std.proofs.Common.{◌≡◌, ◌++◌, ◌∙◌, subst}
use Rattle.std.specs.Prelude.{OnOk}
use Rattle.std.proofs.lemmas.Result.{on_ok_weaker}
use Rattle.pig_value.specs.Trees.{rows_tree}
use Rattle.pig_plain.proofs.rowwise.add_input.Goals as goal

pub returns-clause-rows : goal.returns-clause-rows
returns-clause-rows c =
    let seen_is = c.seen_at-seen.ensures ∙ c.in_ok-taken.ensures.rows in
    subst (λ rows. OnOk c.add_seen.result (rows_tree c.add_seen.new.made ≡ rows_tree c.args.made.now ++ rows)) seen_is c.add_seen.ensures

pub returns-clause-left : goal.returns-clause-left
returns-clause-left c = on_ok_weaker c.add_seen.result (λ e. c.in_ok-taken.ensures.left) c.add_seen.ensures
