use Rattle.std.proofs.Common.{◌≡◌, sym, ◌∙◌, map, arith}
use Rattle.std.proofs.lemmas.Result.{IfOk-weaker}
use Rattle.pig_value.specs.Trees.{rows_tree}
use Rattle.pig_plan.specs.ByKey.{rows_of}
use Rattle.pig_operators.specs.Groups.{between, group_entries}
use Rattle.pig_operators.proofs.Inputs.{input_rows, remains_all}
use Rattle.pig_operators.proofs.Stretches.{group_sorted}
use Rattle.pig_operators.proofs.groups.first_bag.Goals as goal

pub returns : goal.returns
returns c =
    IfOk-weaker c.rows_of.result (λ rows. rows_tree rows ≡ map (λ e. e.row) (between c.args.group.now.from c.input_end.result c.args.group.now.run.now.entries))
    (λ rows. rows_tree rows ≡ rows_of (group_entries c.args.group.now.run.now c.args.group.now.from c.args.group.now.end) 0)
    (λ rows is. is
    ∙ sym (input_rows c.args.group.now.run.now c.args.group.now.from c.args.group.now.from c.args.group.now.end 0 c.input_end.result
    (remains_all c.args.group.now.run.now.entries c.args.group.now.from c.args.group.now.end (let low = c.args.group.now.whole.some in omega (arith, low))) c.input_end.ensures
    (group_sorted c.args.group.now.run.now c.args.group.now.from c.args.group.now.end c.args.group.now.whole c.args.group.now.sorted)))
    c.rows_of.ensures
