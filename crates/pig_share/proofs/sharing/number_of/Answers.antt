use Rattle.std.proofs.Common.{rules, ◌≡◌, nat_eq, None}
use Rattle.indexmap.specs.IndexMap.{get}
use Rattle.pig_plan.specs.Plans.{node_of, plan_of}
use Rattle.pig_share.proofs.Listed.{found_unlisted}
use Rattle.pig_share.proofs.sharing.number_of.Goals as goal

pub returns-in-None : goal.returns-in-None
returns-in-None c =
    let free : get nat_eq c.args.firsts.now c.hash_op.result ≡ None = search rules in
    found_unlisted c.args.nodes.now c.args.table.now (plan_of c.args.made.now) c.args.own (node_of c.args.node.now) (get nat_eq c.args.firsts.now) c.hash_op.result
    c.requires.so_far c.requires.listed c.requires.node c.hash_op.ensures free
