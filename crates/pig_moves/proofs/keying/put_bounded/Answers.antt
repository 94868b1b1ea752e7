use Rattle.std.proofs.Common.{rules, ◌≡◌, ◌≤◌, ◌+◌, ◌*◌, length}
use Rattle.pig_typed.specs.Typed.{typed}
use Rattle.pig_plan.specs.Moves.{fields_in}
use Rattle.pig_moves.specs.Depths.{depth, most_levels, most_nodes, size}
use Rattle.pig_moves.proofs.Nesting.{key_fits, key_nests}
use Rattle.pig_moves.proofs.keying.put_bounded.Goals as goal

pub returns-clause-nests : goal.returns-clause-nests
returns-clause-nests c =
    let far : depth (typed c.args.cond.now) + depth (typed c.args.key.now) ≤ most_levels = search rules in
    key_nests (typed c.args.key.now) (typed c.args.cond.now) c.put.result far c.put.ensures

pub returns-clause-fits : goal.returns-clause-fits
returns-clause-fits c =
    let are : c.len.result ≡ length (fields_in (typed c.args.cond.now)) = search rules in
    let far : size (typed c.args.cond.now) + c.len.result * size (typed c.args.key.now) ≤ most_nodes + c.len.result = search rules in
    key_fits (typed c.args.key.now) (typed c.args.cond.now) c.put.result c.len.result are far c.put.ensures
