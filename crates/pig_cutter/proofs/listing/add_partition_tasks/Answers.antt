use Rattle.pig_cutter.specs.Feeds.{partition_task}
use Rattle.pig_physical.proofs.Loops.{one_more}
use Rattle.pig_cutter.proofs.listing.add_partition_tasks.Goals as goal

pub loop-part-preserved : goal.loop-part-preserved
loop-part-preserved c =
    one_more (λ p. partition_task c.args.kind (record { node = c.args.node; wave = c.args.wave; part = p })) c.args.tasks.now c.loop-part.tasks c.push.new.self c.loop-part.part _
    c.loop-part.invariant c.in_ok-push.ensures.ok c.partition_task.ensures
