use Rattle.std.proofs.Common.{rules, ◌≡◌, ◌++◌, None, Some, subst, sym}
use Rattle.std.specs.Result.{OnOk}
use Rattle.pig_plan.specs.Nodes.{op_at}
use Rattle.pig_plan.specs.Plans.{op_of, plan_of}
use Rattle.pig_cutter.proofs.Loops.{no_partitions, partitions_made}
use Rattle.pig_cutter.proofs.listing.add_partitions.Goals as goal

pub returns-in-Some : goal.returns-in-Some
returns-in-Some c =
    let at : Some (op_of c.in-Some.op.now) ≡ op_at (plan_of c.args.listing.now.nodes.now) c.args.head.now.node = search rules in
    subst (λ ts. OnOk c.add_partition_tasks.result (c.add_partition_tasks.new.tasks ≡ c.args.tasks.now ++ ts))
    (partitions_made c.args.listing.now.nodes.now c.args.listing.now.reducers c.args.wave c.args.head.now (op_of c.in-Some.op.now) c.wave_before.result c.partition_count-count.result (sym at)
    c.wave_before.ensures c.partition_count-count.ensures)
    c.add_partition_tasks.ensures

pub returns-in-None : goal.returns-in-None
returns-in-None c =
    let none : None ≡ op_at (plan_of c.args.listing.now.nodes.now) c.args.head.now.node = search rules in
    no_partitions c.args.listing.now.nodes.now c.args.listing.now.reducers c.args.wave c.args.head.now c.args.tasks.now (sym none)
