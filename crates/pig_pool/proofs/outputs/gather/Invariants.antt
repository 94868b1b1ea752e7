use Rattle.std.proofs.Common.{◌≡◌, ◌≤◌, vec_len, vec_capacity}
use Rattle.pig_pool.proofs.Placing.{AreTaken}
use Rattle.pig_pool.proofs.outputs.gather.Given as goal

abbrev pub invariant-loop-t : goal.invariant-loop-t
invariant-loop-t g l = record {
  taken : AreTaken (g.W.Work.right l.work) (g.W.Work.count l.work) l.t l.places.items l.list.items;
  len : vec_len l.list ≡ l.t;
  room : g.W.Work.count l.work ≤ vec_capacity l.list;
}
