use Rattle.std.proofs.Common.{sym, ◌∙◌, ap, length, arith}
use Rattle.pig_value.specs.Trees.{tree}
use Rattle.pig_plan.specs.ByKey.{bags_of, kept_where, rows_of}
use Rattle.pig_operators.specs.Groups.{group_entries}
use Rattle.pig_operators.proofs.Adding.{fields_more}
use Rattle.pig_operators.proofs.Apart.{flag_at, missing_is, there_next, there_not}
use Rattle.pig_operators.proofs.Inputs.{input_behind, input_rows}
use Rattle.pig_operators.proofs.Stretches.{group_sorted}
use Rattle.pig_operators.proofs.cogrouping.together.Goals as goal

pub returns-then-is_missing : goal.returns-then-is_missing
returns-then-is_missing c =
    let up = group_sorted c.args.group.now.run.now c.args.group.now.from c.args.group.now.end c.args.group.now.whole c.args.group.now.sorted in
    let rows = rows_of (group_entries c.args.group.now.run.now c.args.group.now.from c.args.group.now.end) in
    let here = input_rows c.args.group.now.run.now c.args.group.now.from c.loop-input.at c.args.group.now.end c.loop-input.input c.input_end-end.result c.loop-input.invariant.0 c.input_end-end.ensures up in
    let missing = missing_is (λ e. e.row) c.args.group.now.run.now.entries _ c.is_missing.result c.loop-input.at c.input_end-end.result (rows c.loop-input.input) c.input_end-end.ensures.order
    (let a = c.input_end-end.ensures.within in let b = c.args.group.now.whole.within in omega (arith, a, b)) c.is_missing.ensures here in
    sym (ap (λ b. kept_where b (bags_of (length c.args.inner.now) (tree c.args.key) rows)) (sym c.loop-input.invariant.2 ∙ there_not rows c.args.inner.now c.loop-input.input _ (flag_at c.args.inner.now c.loop-input.input c.loop-input-test.true) (missing ∙ c.if-is_missing.true)))

pub loop-input-preserved : goal.loop-input-preserved
loop-input-preserved c =
    let up = group_sorted c.args.group.now.run.now c.args.group.now.from c.args.group.now.end c.args.group.now.whole c.args.group.now.sorted in
    let rows = rows_of (group_entries c.args.group.now.run.now c.args.group.now.from c.args.group.now.end) in
    let here = input_rows c.args.group.now.run.now c.args.group.now.from c.loop-input.at c.args.group.now.end c.loop-input.input c.input_end-end.result c.loop-input.invariant.0 c.input_end-end.ensures up in
    let missing = missing_is (λ e. e.row) c.args.group.now.run.now.entries _ c.is_missing.result c.loop-input.at c.input_end-end.result (rows c.loop-input.input) c.input_end-end.ensures.order
    (let a = c.input_end-end.ensures.within in let b = c.args.group.now.whole.within in omega (arith, a, b)) c.is_missing.ensures here in (
      input_behind c.args.group.now.run.now c.args.group.now.from c.loop-input.at c.args.group.now.end c.loop-input.input c.input_end-end.result c.loop-input.invariant.0 c.input_end-end.ensures up,
      fields_more (tree c.args.key) rows c.loop-input.input c.loop-input.row c.push-in-loop-input.new.self c.in_ok-rows_of.field-0 (c.in_ok-rows_of.ensures ∙ sym here) c.loop-input.invariant.1 c.in_ok-push-2.ensures.ok,
      there_next rows c.args.inner.now c.loop-input.input _ (flag_at c.args.inner.now c.loop-input.input c.loop-input-test.true) (missing ∙ c.if-is_missing.false) ∙ c.loop-input.invariant.2,
    )
