use Rattle.std.proofs.Common.{◌≡◌, ◌≤◌, true}
use Rattle.pig_board.specs.Pass.{view_of, is_firm, may_begin}
use Rattle.pig_pool.specs.Begins.{tells}
use Rattle.pig_pool.specs.Workers.{Works, Stands, Spends, KnowsAll}
use Rattle.pig_pool.proofs.worker.try_rest.Given as goal

abbrev pub invariant-loop-t : goal.invariant-loop-t
invariant-loop-t g l = record {
  stands : Stands (g.W.Work.right l.shared.work.now) l.shared.limit l.shared.board.now l.worker.pass l.worker.outputs;
  firm : is_firm l.worker.pass ≡ is_firm l.initial.worker.pass;
  works : Works l.shared.wave (view_of l.initial.worker.pass) (view_of l.worker.pass) (tells (g.H.Host.faults l.initial.host) (g.H.Host.begun l.initial.host)) (tells (g.H.Host.faults l.host) (g.H.Host.begun l.host));
  room : Spends l.t (view_of l.initial.worker.pass) (view_of l.worker.pass);
  may : may_begin l.worker.pass ≡ true;
  inputs : g.H.Host.inputs l.host ≡ g.H.Host.inputs l.initial.host;
  later : g.H.Host.faults l.initial.host ≤ g.H.Host.faults l.host;
  all : KnowsAll l.t (view_of l.worker.pass);
}
