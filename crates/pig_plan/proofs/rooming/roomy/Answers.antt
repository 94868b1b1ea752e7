use Rattle.std.proofs.Common.{rules, ◌≡◌, arith, length, map}
use Rattle.std.specs.List.{insert}
use Rattle.std.specs.Vec.{vec_len}
use Rattle.pig_plan.specs.declared.nodes.Node.{Node}
use Rattle.pig_plan.specs.Plans.{op_of, plan_of}
use Rattle.pig_plan.specs.Renumbered.{renamed}
use Rattle.pig_plan.specs.Room.{idle, past}
use Rattle.pig_plan.proofs.Room.{made_roomy, idle_of, no_longer}
use Rattle.pig_plan.proofs.rooming.roomy.Goals as goal

pub insert-requires : goal.insert-requires
insert-requires c =
    let renamed_are : plan_of c.in_ok-made.made.items ≡ map (renamed (past c.args.at)) (plan_of c.args.nodes) = search rules in
    let long : vec_len c.in_ok-made.made ≡ length c.in_ok-made.made.items = search rules in
    let within = no_longer c.in_ok-made.made.items c.args.nodes c.args.at renamed_are c.requires in
    omega (arith, long, within)

pub returns : goal.returns
returns c =
    let node : Node = record { op = c.in_ok-op.op; statement = 0 } in
    let renamed_are : plan_of c.in_ok-made.made.items ≡ map (renamed (past c.args.at)) (plan_of c.args.nodes) = search rules in
    let inserted : c.from_vec.result ≡ insert c.in_ok-made.made.items c.args.at node = search rules in
    let nothing : op_of c.in_ok-op.op ≡ idle.op = search rules in
    made_roomy c.in_ok-made.made.items c.from_vec.result node c.args.nodes c.args.at inserted renamed_are (idle_of c.in_ok-op.op nothing)
