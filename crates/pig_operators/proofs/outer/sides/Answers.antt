use Rattle.std.proofs.Common.{arith}
use Rattle.pig_operators.proofs.Sides.{sides_are}
use Rattle.pig_operators.proofs.Stretches.{group_sorted}
use Rattle.pig_operators.proofs.outer.sides.Goals as goal

pub returns : goal.returns
returns c =
    sides_are c.args.group.now.run.now c.args.group.now.from c.args.group.now.end c.input_end-middle.result c.input_end.result (let low = c.args.group.now.whole.some in omega (arith, low)) c.args.group.now.whole.within
    (group_sorted c.args.group.now.run.now c.args.group.now.from c.args.group.now.end c.args.group.now.whole c.args.group.now.sorted) c.input_end-middle.ensures c.input_end.ensures
