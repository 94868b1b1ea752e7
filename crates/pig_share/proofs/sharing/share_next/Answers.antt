use Rattle.std.proofs.Common.{rules, ◌≡◌, ◌++◌, ◌∷◌, [], nat_eq}
use Rattle.indexmap.specs.IndexMap.{get}
use Rattle.pig_plan.specs.Plans.{node_of, plan_of}
use Rattle.pig_share.specs.Hashed.{op_hash}
use Rattle.pig_share.specs.Table.{HasKey, IsFound, IsOpen, IsRenamedAt, KeepsKeys}
use Rattle.pig_share.proofs.Finding.{next_so_far}
use Rattle.pig_share.proofs.Listed.{listed_next}
use Rattle.pig_share.proofs.sharing.share_next.Goals as goal

pub returns-clause-so_far : goal.returns-clause-so_far
returns-clause-so_far c =
    let is : IsRenamedAt (plan_of c.args.nodes.now) c.args.table.now.items c.args.own (node_of c.in_ok-node.node) = search rules in
    let found : IsFound (plan_of c.args.nodes.now) c.args.table.now.items c.args.own c.number_of-number.result = search rules in
    let longer : c.push.new.self.items ≡ c.args.table.now.items ++ c.number_of-number.result ∷ [] = search rules in
    let grown : plan_of c.push_node.new.made ≡ plan_of c.args.made.now ++ node_of c.in_ok-node.node ∷ [] = search rules in
    next_so_far c.args.nodes.now c.args.table.now.items c.push.new.self.items (plan_of c.args.made.now) (plan_of c.push_node.new.made) c.args.own c.number_of-number.result (node_of c.in_ok-node.node)
    c.requires.valid c.requires.within c.requires.so_far is found longer grown

pub returns-clause-listed : goal.returns-clause-listed
returns-clause-listed c =
    let grown : plan_of c.push_node.new.made ≡ plan_of c.args.made.now ++ node_of c.in_ok-node.node ∷ [] = search rules in
    let hashed : c.hash_op.result ≡ op_hash (node_of c.in_ok-node.node).op = c.hash_op.ensures in
    let keeps : KeepsKeys (get nat_eq c.args.firsts.now) (get nat_eq c.list_open.new.firsts) = search rules in
    let has : IsOpen (plan_of c.args.nodes.now) c.args.own → HasKey (get nat_eq c.list_open.new.firsts) c.hash_op.result = search rules in
    listed_next c.args.nodes.now c.args.table.now.items (plan_of c.args.made.now) (plan_of c.push_node.new.made) c.args.own c.hash_op.result (node_of c.in_ok-node.node) (get nat_eq c.args.firsts.now)
    (get nat_eq c.list_open.new.firsts) c.requires.within c.requires.so_far c.requires.listed grown hashed keeps has
