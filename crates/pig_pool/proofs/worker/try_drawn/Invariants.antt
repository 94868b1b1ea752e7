use Rattle.std.proofs.Common.{◌≡◌, ◌≤◌, ◌*◌, ◌-◌, true}
use Rattle.std.specs.Prelude.{min}
use Rattle.pig_board.specs.Pass.{tasks_of, view_of, is_firm, may_begin}
use Rattle.pig_pool.specs.Begins.{tells}
use Rattle.pig_pool.specs.Workers.{Works, Stands, Spends}
use Rattle.pig_pool.proofs.worker.try_drawn.Given as goal

abbrev pub invariant-loop-t : goal.invariant-loop-t
invariant-loop-t g l = record {
  stands : Stands (g.W.Work.right l.shared.work.now) l.shared.limit l.shared.board.now l.worker.pass l.worker.outputs;
  firm : is_firm l.worker.pass ≡ is_firm l.initial.worker.pass;
  works : Works l.shared.wave (view_of l.initial.worker.pass) (view_of l.worker.pass) (tells (g.H.Host.faults l.initial.host) (g.H.Host.begun l.initial.host)) (tells (g.H.Host.faults l.host) (g.H.Host.begun l.host));
  room : Spends (2 * min (view_of l.worker.pass).known (tasks_of l.shared.board.now)) (view_of l.initial.worker.pass) (view_of l.worker.pass);
  may : may_begin l.worker.pass ≡ true;
  inputs : g.H.Host.inputs l.host ≡ g.H.Host.inputs l.initial.host;
  later : g.H.Host.faults l.initial.host ≤ g.H.Host.faults l.host;
}

abbrev pub decreases-loop-t : goal.decreases-loop-t
decreases-loop-t g l = tasks_of l.shared.board.now - (view_of l.worker.pass).known
