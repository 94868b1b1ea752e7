use Rattle.std.proofs.Common.{rules}
use Rattle.std.specs.Prelude.{IsTrue}
use Rattle.pig_physical.specs.Fitting.{HasPart}
use Rattle.pig_physical.specs.Seen.{map_task_of, staged}
use Rattle.pig_map_tests.proofs.Probing.{of_node}
use Rattle.pig_map_tests.proofs.standing.reads_copies.Goals as goal

pub returns : goal.returns
returns c = λ held. λ outs all.
    let s = staged c.args.stages.now in
    let split : IsTrue c.is_split.result = search rules in
    let part : HasPart s outs c.args.task.now.part = c.is_split.ensures split s outs in
    record {
      part = part;
      copies = of_node s (map_task_of s c.args.task.now) c.args.task.now.wave c.requires.at c.requires.stands (c.first_copies.ensures held) outs all;
    }
