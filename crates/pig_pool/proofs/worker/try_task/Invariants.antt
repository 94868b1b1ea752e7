use Rattle.std.proofs.Common.{◌≡◌, ◌≤◌, ◌+◌, ◌*◌, ◌-◌}
use Rattle.pig_job.specs.Job.{failure_limit}
use Rattle.pig_board.specs.View.{fails_of}
use Rattle.pig_board.specs.Pass.{view_of, OnBoard}
use Rattle.pig_pool.specs.Workers.{Works, HasWon}
use Rattle.pig_pool.proofs.worker.try_task.Given as goal

abbrev pub invariant-loop : goal.invariant-loop
invariant-loop g l = record {
  board : OnBoard l.board l.pass;
  works : Works (view_of l.initial.pass) (view_of l.pass) (g.H.Host.faults l.initial.host) (g.H.Host.faults l.host);
  won : HasWon (g.W.Work.right l.work) (view_of l.pass) l.outputs;
  inputs : g.H.Host.inputs l.host ≡ g.H.Host.inputs l.initial.host;
  later : g.H.Host.faults l.initial.host ≤ g.H.Host.faults l.host;
  room : (view_of l.initial.pass).room + 2 * fails_of l.t (view_of l.initial.pass) ≤ (view_of l.pass).room + 2 * fails_of l.t (view_of l.pass);
  own : fails_of l.t (view_of l.initial.pass) ≤ fails_of l.t (view_of l.pass);
  few : fails_of l.t (view_of l.pass) ≤ fails_of l.t (view_of l.initial.pass) + 3;
}

abbrev pub decreases-loop : goal.decreases-loop
decreases-loop g l = failure_limit - fails_of l.t (view_of l.pass)
