use Rattle.pig_board.specs.Pass.{view_of}
use Rattle.pig_pool.specs.Workers.{LooksOn, IsBelow}
use Rattle.pig_pool.proofs.wave.sees_limit.Given as goal

abbrev pub invariant-loop-t : goal.invariant-loop-t
invariant-loop-t g l = record {
  looks : LooksOn l.shared.board.now l.initial.pass l.pass;
  few : IsBelow l.shared.limit l.t (view_of l.pass);
}
