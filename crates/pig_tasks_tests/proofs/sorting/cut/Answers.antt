use Rattle.std.proofs.Common.{rules, map}
use Rattle.pig_driver.specs.Slicing.{AreSliced}
use Rattle.pig_physical.specs.Handed.{out_of}
use Rattle.pig_physical.specs.Seen.{staged}
use Rattle.pig_tasks_tests.specs.Fits.{IsSorting}
use Rattle.pig_tasks_tests.proofs.Cut.{cut_fits, directed}
use Rattle.pig_tasks_tests.proofs.sorting.cut.Goals as goal

pub slice_outputs-requires-clause-directed : goal.slice_outputs-requires-clause-directed
slice_outputs-requires-clause-directed g c =
    let sorting : IsSorting (staged c.args.stages.now) c.args.wave = search rules in
    directed (staged c.args.stages.now) c.args.wave sorting (map out_of c.args.outs) c.requires.fit

pub returns : goal.returns
returns g c =
    let sorting : IsSorting (staged c.args.stages.now) c.args.wave = search rules in
    let cut : AreSliced (staged c.args.stages.now).sizing.reducers (map out_of c.args.outs) (map out_of c.expect.result) = search rules in
    cut_fits (staged c.args.stages.now) c.args.wave sorting (map out_of c.args.outs) (map out_of c.expect.result) c.requires.fit cut
