use Rattle.pig_pool.proofs.Begins.{just_told}
use Rattle.pig_pool.proofs.tries.make_attempt.Goals as goal

pub attempt-requires-clause-told : goal.attempt-requires-clause-told
attempt-requires-clause-told g c begins is =
    just_told (g.W.Work.wave c.args.shared.now.work.now) c.args.shared.now.wave c.args.t c.args.attempt (g.H.Host.faults c.args.host.now) (g.H.Host.begun c.args.host.now) (g.H.Host.begun c.begin.new.self) c.args.shared.now.wave_is c.begin.ensures.begun begins is
