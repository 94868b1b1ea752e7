use Rattle.std.proofs.Common.{◌≡◌, ◌++◌, map}
use Rattle.std.specs.List.{range_with_len}
use Rattle.pig_cutter.specs.Feeds.{partition_task}
use Rattle.pig_cutter.proofs.listing.add_partition_tasks.Given as goal

abbrev pub invariant-loop-part : goal.invariant-loop-part
invariant-loop-part l = l.tasks ≡ l.initial.tasks ++ map (λ p. partition_task l.kind (record { node = l.node; wave = l.wave; part = p })) (range_with_len 0 l.part)
