use Rattle.std.proofs.Common.{◌≡◌, ◌∙◌, map, subst, sym}
use Rattle.std.specs.Prelude.{OnOk}
use Rattle.std.proofs.lemmas.Result.{on_ok_weaker}
use Rattle.pig_value.specs.Valid.{AreRows}
use Rattle.pig_runs.specs.Entries.{and_entries}
use Rattle.pig_plain.specs.Entered.{entry_under}
use Rattle.pig_plain.proofs.entering.enter.Goals as goal

pub add_seen-requires-clause-rows : goal.add_seen-requires-clause-rows
add_seen-requires-clause-rows c = subst AreRows (sym (c.seen_at-seen.ensures ∙ c.in_ok-taken.ensures.rows)) (c.are_values.ensures c.args.node)

pub returns-clause-entries : goal.returns-clause-entries
returns-clause-entries c =
    subst (λ rows. OnOk c.add_seen.result (c.add_seen.new.builder ≡ and_entries (map (entry_under c.args.how.now) rows) c.args.builder.now))
    (c.seen_at-seen.ensures ∙ c.in_ok-taken.ensures.rows) c.add_seen.ensures

pub returns-clause-left : goal.returns-clause-left
returns-clause-left c = on_ok_weaker c.add_seen.result (λ e. c.in_ok-taken.ensures.left) c.add_seen.ensures
