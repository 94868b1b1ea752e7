use Rattle.pig_board.specs.Pass.{view_of}
use Rattle.pig_pool.specs.Workers.{LooksOn, KnowsAll}
use Rattle.pig_pool.proofs.wave.sees_all_won.Given as goal

abbrev pub invariant-loop-t : goal.invariant-loop-t
invariant-loop-t g l = record {
  looks : LooksOn l.shared.board.now l.initial.pass l.pass;
  all : KnowsAll l.t (view_of l.pass);
}
