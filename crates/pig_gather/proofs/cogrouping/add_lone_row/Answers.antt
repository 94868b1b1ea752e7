use Rattle.std.proofs.Common.{ap, length, refl, sym, ◌∙◌}
use Rattle.std.proofs.lemmas.Result.{on_ok_weaker}
use Rattle.pig_packed.specs.Growth.{and_rows}
use Rattle.pig_plan.specs.ByKey.{bags_of}
use Rattle.pig_operators.specs.Groups.{first_key, rows_alone, rows_at}
use Rattle.pig_operators.proofs.Apart.{lone_is}
use Rattle.pig_gather.proofs.GroupRows.{kept, not_kept}
use Rattle.pig_gather.proofs.cogrouping.add_lone_row.Goals as goal

pub returns-then-has_own_row : goal.returns-then-has_own_row
returns-then-has_own_row c =
    let run = c.args.own.now.entries.now in
    let key = first_key run c.args.key in
    let row = bags_of (length c.args.inner.now) key (rows_alone c.args.input (rows_at run c.args.own.now.from c.args.own.now.end)) in
    let is = lone_is (λ e. e.row) run.entries c.args.inner.now key c.args.input c.args.own.now.from c.args.own.now.end c.args.own.now.order c.args.own.now.within c.has_own_row.result c.has_own_row.ensures in
    on_ok_weaker c.add_lone.result (λ added. kept c.has_own_row.result row c.args.built.now c.add_lone.new.built c.if-has_own_row.true added ∙ ap (λ l. and_rows l c.args.built.now) (sym is)) c.add_lone.ensures

pub returns : goal.returns
returns c =
    let run = c.args.own.now.entries.now in
    let key = first_key run c.args.key in
    let row = bags_of (length c.args.inner.now) key (rows_alone c.args.input (rows_at run c.args.own.now.from c.args.own.now.end)) in
    let is = lone_is (λ e. e.row) run.entries c.args.inner.now key c.args.input c.args.own.now.from c.args.own.now.end c.args.own.now.order c.args.own.now.within c.has_own_row.result c.has_own_row.ensures in
    not_kept c.has_own_row.result row c.args.built.now c.args.built.now c.if-has_own_row.false refl c.requires.none_begun ∙ ap (λ l. and_rows l c.args.built.now) (sym is)
