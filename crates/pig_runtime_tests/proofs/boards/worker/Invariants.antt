use Rattle.std.proofs.Common.{◌≡◌, ◌+◌, ◌*◌, ◌≤◌}
use Rattle.pig_board.specs.View.{steps_of}
use Rattle.pig_board.specs.Pass.{view_of, OnBoard}
use Rattle.pig_runtime_tests.proofs.boards.worker.Given as goal

abbrev pub invariant-loop-t : goal.invariant-loop-t
invariant-loop-t l = record {
  board : OnBoard l.board l.pass;
  steps : steps_of (view_of l.pass) ≡ steps_of (view_of l.initial.pass);
  known : 4 ≤ (view_of l.pass).known;
  streak : (view_of l.pass).streak ≡ 0;
  room : 90 ≤ (view_of l.pass).room + 4 * l.t;
}
