use Rattle.std.proofs.Common.{false, map}
use Rattle.pig_plan.specs.Results.{at_place}
use Rattle.pig_physical.specs.Handed.{outs_of}
use Rattle.pig_collect.specs.Keeping.{chosen_of}
use Rattle.pig_collect.proofs.Keeps.{none_kept}
use Rattle.pig_collect.proofs.kept.keep_at.Goals as goal

pub returns-in-None : goal.returns-in-None
returns-in-None c =
    none_kept c.args.nodes.now c.args.number (map chosen_of c.args.kept.now) (at_place false c.args.sorted.now) (outs_of c.args.outs.now) c.in-None.ensures.lookup.3
