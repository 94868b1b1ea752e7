use Rattle.std.proofs.Common.{sym, ◌∙◌, ap}
use Rattle.std.proofs.lemmas.Result.{on_ok_weaker}
use Rattle.pig_packed.specs.Growth.{and_rows}
use Rattle.pig_operators.specs.Groups.{bags_at, first_key}
use Rattle.pig_operators.proofs.Products.{join_is}
use Rattle.pig_gather.proofs.Joins.{join_none}
use Rattle.pig_gather.proofs.LentRows.{none_added}
use Rattle.pig_gather.proofs.by_key.add_joined.Goals as goal

pub returns-then-null : goal.returns-then-null
returns-then-null c =
    let run = c.args.group.now.entries.now in
    none_added c.args.built.now _ c.requires.none_begun (join_none c.args.inputs (first_key run c.args.group.now.from) (bags_at run c.args.group.now.from c.args.group.now.end) (sym c.in_ok-null.ensures ∙ c.if-null.true))

pub returns : goal.returns
returns c =
    let run = c.args.group.now.entries.now in
    on_ok_weaker c.add_partners.result
    (λ is. is ∙ ap (λ l. and_rows l c.args.built.now) (sym (join_is c.args.inputs (first_key run c.args.group.now.from) (bags_at run c.args.group.now.from c.args.group.now.end) (sym c.in_ok-null.ensures ∙ c.if-null.false)))) c.add_partners.ensures
