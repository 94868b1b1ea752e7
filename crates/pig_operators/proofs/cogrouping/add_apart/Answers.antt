use Rattle.std.proofs.Common.{◌++◌, sym, ◌∙◌, ap, append_assoc, append-nil, map, arith}
use Rattle.pig_value.specs.Trees.{rows_tree, tree}
use Rattle.pig_plan.specs.ByKey.{rows_of}
use Rattle.pig_operators.specs.Groups.{apart_rows, between, group_entries, lone_rows}
use Rattle.pig_operators.proofs.Apart.{apart_next}
use Rattle.pig_operators.proofs.Inputs.{input_behind, input_rows, remains_all}
use Rattle.pig_operators.proofs.Stretches.{group_sorted}
use Rattle.pig_operators.proofs.cogrouping.add_apart.Goals as goal

pub loop-input-init : goal.loop-input-init
loop-input-init c = (remains_all c.args.group.now.run.now.entries c.args.group.now.from c.args.group.now.end (let low = c.args.group.now.whole.some in omega (arith, low)), sym (append-nil (rows_tree c.args.rows.now)))

pub loop-input-preserved : goal.loop-input-preserved
loop-input-preserved c =
    let up = group_sorted c.args.group.now.run.now c.args.group.now.from c.args.group.now.end c.args.group.now.whole c.args.group.now.sorted in
    let rows = rows_of (group_entries c.args.group.now.run.now c.args.group.now.from c.args.group.now.end) in
    let bag = map (λ e. e.row) (between c.loop-input.at c.input_end-end.result c.args.group.now.run.now.entries) in
    let here = input_rows c.args.group.now.run.now c.args.group.now.from c.loop-input.at c.args.group.now.end c.loop-input.input c.input_end-end.result c.loop-input.invariant.0 c.input_end-end.ensures up in
    let lone = lone_rows c.args.inner.now (tree c.args.key.now) c.loop-input.input bag in (
      input_behind c.args.group.now.run.now c.args.group.now.from c.loop-input.at c.args.group.now.end c.loop-input.input c.input_end-end.result c.loop-input.invariant.0 c.input_end-end.ensures up,
      c.in_ok-add_lone.ensures
          ∙ (ap (λ l. l ++ lone) c.loop-input.invariant.1
          ∙ (append_assoc (rows_tree c.args.rows.now) (apart_rows c.args.inner.now (tree c.args.key.now) rows c.loop-input.input) lone
          ∙ ap (λ l. rows_tree c.args.rows.now ++ l) (sym (apart_next c.loop-input.input bag c.args.inner.now (tree c.args.key.now) rows here)))),
    )
