use Rattle.pig_runs.proofs.Walking.{one_passed}
use Rattle.pig_runs.proofs.walk.Walk.skip.Goals as goal

pub returns-then-self-len : goal.returns-then-self-len
returns-then-self-len c = one_passed c.self.inside.entries.now c.args.self.now c.self.inside.passed c.self.view_is
