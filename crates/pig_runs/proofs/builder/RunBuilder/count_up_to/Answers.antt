use Rattle.pig_runs.proofs.Halving.{none_halved}
use Rattle.pig_runs.proofs.builder.RunBuilder.count_up_to.Goals as goal

pub returns-clause-parts : goal.returns-clause-parts
returns-clause-parts c = c.count_between.ensures.parts (none_halved c.args.equal c.args.self.now.dirs c.args.self.now.entries c.args.other.now.entries c.args.there c.len.result c.len.ensures.count)
