use Rattle.std.proofs.Common.{rules}
use Rattle.pig_runs.proofs.Sliced.{leads_none, leads_from}
use Rattle.pig_runs.proofs.cutting.CutPoints.count_before.Goals as goal

pub returns-then-part-eq0 : goal.returns-then-part-eq0
returns-then-part-eq0 c = leads_none c.args.run.now.dirs c.args.run.now.entries c.args.self.now.points c.args.part (search rules)

pub returns-else-part-eq0 : goal.returns-else-part-eq0
returns-else-part-eq0 c = leads_from c.args.run.now.dirs c.args.run.now.entries c.args.self.now.points c.args.part c.count_below.result (search rules) c.requires.within c.count_below.ensures.parts
