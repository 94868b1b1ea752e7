use Rattle.std.proofs.Common.{sym, arith}
use Rattle.pig_operators.proofs.Inputs.{input_rows, remains_all}
use Rattle.pig_operators.proofs.Stretches.{group_sorted}
use Rattle.pig_gather.proofs.groups.first_end.Goals as goal

pub returns-clause-bag : goal.returns-clause-bag
returns-clause-bag c =
    sym
    (input_rows c.args.group.now.entries.now c.args.group.now.from c.args.group.now.from c.args.group.now.end 0 c.input_end.result
    (remains_all c.args.group.now.entries.now.entries c.args.group.now.from c.args.group.now.end (let low = c.args.group.now.whole.some in omega (arith, low))) c.input_end.ensures
    (group_sorted c.args.group.now.entries.now c.args.group.now.from c.args.group.now.end c.args.group.now.whole c.len.ensures.sorted))
