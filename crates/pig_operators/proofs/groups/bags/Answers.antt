use Rattle.std.proofs.Common.{sym, ◌∙◌}
use Rattle.pig_plan.specs.ByKey.{rows_of}
use Rattle.pig_operators.specs.Groups.{group_entries}
use Rattle.pig_operators.proofs.Adding.{bags_more}
use Rattle.pig_operators.proofs.Inputs.{input_behind, input_rows}
use Rattle.pig_operators.proofs.Stretches.{group_sorted}
use Rattle.pig_operators.proofs.groups.bags.Goals as goal

pub loop-input-preserved : goal.loop-input-preserved
loop-input-preserved c =
    let up = group_sorted c.args.group.now.run.now c.args.group.now.from c.args.group.now.end c.args.group.now.whole c.args.group.now.sorted in (
      input_behind c.args.group.now.run.now c.args.group.now.from c.loop-input.at c.args.group.now.end c.loop-input.input c.input_end-end.result c.loop-input.invariant.0 c.input_end-end.ensures up,
      bags_more (rows_of (group_entries c.args.group.now.run.now c.args.group.now.from c.args.group.now.end)) c.loop-input.input c.loop-input.bags c.push.new.self c.in_ok-rows_of.field-0
          (c.in_ok-rows_of.ensures ∙ sym (input_rows c.args.group.now.run.now c.args.group.now.from c.loop-input.at c.args.group.now.end c.loop-input.input c.input_end-end.result c.loop-input.invariant.0 c.input_end-end.ensures up)) c.loop-input.invariant.1
          c.in_ok-push.ensures.ok,
    )
