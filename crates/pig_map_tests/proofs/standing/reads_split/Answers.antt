use Rattle.std.proofs.Common.{rules}
use Rattle.std.specs.Prelude.{IsTrue}
use Rattle.pig_physical.specs.Fitting.{HasPart}
use Rattle.pig_physical.specs.Seen.{staged}
use Rattle.pig_map_tests.proofs.standing.reads_split.Goals as goal

pub returns : goal.returns
returns c = λ held. λ outs.
    let s = staged c.args.stages.now in
    let split : IsTrue c.is_split.result = search rules in
    let part : HasPart s outs c.args.task.now.part = c.is_split.ensures split s outs in
    record { part = part; copies = c.probes_nothing.ensures held outs }
