use Rattle.std.proofs.Common.{◌≡◌, length, true, sym, ◌∙◌, ap, subst, arith}
use Rattle.std.proofs.lemmas.Result.{on_ok_weaker}
use Rattle.pig_packed.specs.Growth.{and_bytes}
use Rattle.pig_plan.specs.ByKey.{all_there, bags_of}
use Rattle.pig_operators.specs.Groups.{bags_at, first_key, rows_at}
use Rattle.pig_operators.proofs.Apart.{flag_at, missing_is, there_next, there_not}
use Rattle.pig_operators.proofs.Inputs.{input_behind, input_rows}
use Rattle.pig_operators.proofs.Stretches.{group_sorted}
use Rattle.pig_gather.specs.Fields.{begun_code}
use Rattle.pig_gather.proofs.FieldCodes.{begins, row_ended}
use Rattle.pig_gather.proofs.GroupRows.{all_there_end, bag_more, bag_valid, bags_valid, kept, not_kept}
use Rattle.pig_gather.proofs.cogrouping.add_together.Goals as goal

pub returns-then-is_missing : goal.returns-then-is_missing
returns-then-is_missing c =
    let run = c.args.group.now.entries.now in
    let up = group_sorted run c.args.group.now.from c.args.group.now.end c.args.group.now.whole c.len.ensures.sorted in
    let rows = bags_at run c.args.group.now.from c.args.group.now.end in
    let i = c.loop-input.input in
    let next = c.input_end-next.result in
    let here = input_rows run c.args.group.now.from c.loop-input.at c.args.group.now.end i next c.loop-input.invariant.0 c.input_end-next.ensures up in
    let missing = missing_is (λ e. e.row) run.entries _ c.is_missing.result c.loop-input.at next (rows i) c.input_end-next.ensures.order
    (let a = c.input_end-next.ensures.within in let b = c.args.group.now.whole.within in omega (arith, a, b)) c.is_missing.ensures here in
    not_kept (all_there c.args.inner.now 0 rows) (bags_of (length c.args.inner.now) (first_key run c.args.group.now.from) rows) c.args.built.now c.undo.new.self
    (sym c.loop-input.invariant.2 ∙ there_not rows c.args.inner.now i _ (flag_at c.args.inner.now i c.loop-input-test.true) (missing ∙ c.if-is_missing.true))
    (ap (λ b. b.rows) (c.undo.ensures) ∙ ap (λ b. b.rows) c.loop-input.invariant.1) (ap (λ b. b.begun) c.undo.ensures)

pub loop-input-preserved : goal.loop-input-preserved
loop-input-preserved c =
    let run = c.args.group.now.entries.now in
    let up = group_sorted run c.args.group.now.from c.args.group.now.end c.args.group.now.whole c.len.ensures.sorted in
    let rows = bags_at run c.args.group.now.from c.args.group.now.end in
    let i = c.loop-input.input in
    let next = c.input_end-next.result in
    let here = input_rows run c.args.group.now.from c.loop-input.at c.args.group.now.end i next c.loop-input.invariant.0 c.input_end-next.ensures up in
    let missing = missing_is (λ e. e.row) run.entries _ c.is_missing.result c.loop-input.at next (rows i) c.input_end-next.ensures.order
    (let a = c.input_end-next.ensures.within in let b = c.args.group.now.whole.within in omega (arith, a, b)) c.is_missing.ensures here in (
      input_behind run c.args.group.now.from c.loop-input.at c.args.group.now.end i next c.loop-input.invariant.0 c.input_end-next.ensures up,
      bag_more c.args.built.now c.loop-input.built c.add_bag.new.built (first_key run c.args.group.now.from) rows i (rows_at run c.loop-input.at next) c.loop-input.invariant.1 c.in_ok-add_bag.ensures (sym here),
      there_next rows c.args.inner.now i _ (flag_at c.args.inner.now i c.loop-input-test.true) (missing ∙ c.if-is_missing.false) ∙ c.loop-input.invariant.2,
    )

pub end_fields-requires : goal.end_fields-requires
end_fields-requires c =
    let run = c.args.group.now.entries.now in
    let key = first_key run c.args.group.now.from in
    let rows = bags_at run c.args.group.now.from c.args.group.now.end in
    let n = length c.args.inner.now in
    let all : c.loop-input.input ≡ n = let past = c.loop-input-test.false in let low = c.loop-input.auto.input-end in omega (arith, past, low) in
    begins c.args.built.now c.loop-input.built (bags_of n key rows) c.requires.none_begun (subst (λ m. c.loop-input.built ≡ and_bytes (begun_code (bags_of m key rows)) c.args.built.now) all c.loop-input.invariant.1)
    (bags_valid run c.args.group.now.from n rows c.args.group.now.ascending (let low = c.args.group.now.whole.some in let high = c.args.group.now.whole.within in omega (arith, low, high)) c.len.ensures.values (λ h j. bag_valid run c.args.group.now.from c.args.group.now.end j h))

pub returns : goal.returns
returns c =
    let run = c.args.group.now.entries.now in
    let key = first_key run c.args.group.now.from in
    let rows = bags_at run c.args.group.now.from c.args.group.now.end in
    let n = length c.args.inner.now in
    let all : c.loop-input.input ≡ n = let past = c.loop-input-test.false in let low = c.loop-input.auto.input-end in omega (arith, past, low) in
    let there : all_there c.args.inner.now 0 rows ≡ true = sym c.loop-input.invariant.2 ∙ all_there_end c.args.inner.now c.loop-input.input rows (omega (arith, all)) in
    on_ok_weaker c.end_fields.result (λ ended. kept (all_there c.args.inner.now 0 rows) (bags_of n key rows) c.args.built.now c.end_fields.new.built there ended)
    (row_ended c.args.built.now c.loop-input.built (bags_of n key rows) c.requires.none_begun (subst (λ m. c.loop-input.built ≡ and_bytes (begun_code (bags_of m key rows)) c.args.built.now) all c.loop-input.invariant.1)
    c.end_fields.result c.end_fields.new.built
    (bags_valid run c.args.group.now.from n rows c.args.group.now.ascending (let low = c.args.group.now.whole.some in let high = c.args.group.now.whole.within in omega (arith, low, high)) c.len.ensures.values (λ h j. bag_valid run c.args.group.now.from c.args.group.now.end j h)) c.end_fields.ensures)
