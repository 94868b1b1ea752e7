use Rattle.std.proofs.Common.{◌+◌, ◌*◌, arith}
use Rattle.pig_board.specs.Pass.{tasks_of}
use Rattle.pig_pool.specs.Begins.{tells}
use Rattle.pig_pool.proofs.Courses.{leaves-more}
use Rattle.pig_pool.proofs.worker.try_all.Goals as goal

pub returns-in-On-clause-left : goal.returns-in-On-clause-left
returns-in-On-clause-left g c =
    let n = tasks_of c.args.shared.now.board.now in
    let one = c.in_ok-try_drawn.ensures.left in
    leaves-more c.try_rest.result c.args.shared.now.wave (2 * n + 1) n (3 * n + 1) c.args.worker.now c.try_drawn.new.worker c.try_rest.new.worker (g.H.Host.inputs c.args.host.now)
    (tells (g.H.Host.faults c.args.host.now) (g.H.Host.begun c.args.host.now)) (tells (g.H.Host.faults c.try_drawn.new.host) (g.H.Host.begun c.try_drawn.new.host)) (tells (g.H.Host.faults c.try_rest.new.host) (g.H.Host.begun c.try_rest.new.host))
    one.firm one.works one.room one.inputs one.later (omega arith) c.try_rest.ensures.left
