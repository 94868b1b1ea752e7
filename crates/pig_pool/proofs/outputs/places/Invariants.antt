use Rattle.std.proofs.Common.{◌≡◌, ◌≤◌, vec_len, vec_capacity}
use Rattle.pig_pool.proofs.outputs.places.Given as goal

abbrev pub invariant-loop : goal.invariant-loop
invariant-loop g l = record { len : vec_len l.places ≡ l.counter; room : l.tasks ≤ vec_capacity l.places }
