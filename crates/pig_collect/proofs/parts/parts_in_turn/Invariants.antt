use Rattle.std.proofs.Common.{◌≡◌, ◌+◌, ◌++◌, drop, length, map, take}
use Rattle.std.specs.Vec.Iter.{into_iter_items}
use Rattle.pig_physical.specs.Handed.{out_of}
use Rattle.pig_physical.specs.Running.{store_wave}
use Rattle.pig_physical.specs.Seen.{staged}
use Rattle.pig_physical.specs.Stages.{tasks_in}
use Rattle.pig_collect.specs.Turns.{in_turn}
use Rattle.pig_collect.proofs.parts.parts_in_turn.Given as goal

abbrev pub invariant-loop-place : goal.invariant-loop-place
invariant-loop-place l = record {
  wave : l.wave ≡ store_wave (staged l.stages).plan;
  statements : map (λ part. part.statement) l.parts ≡ map (λ store. store.statement) (take l.place l.stores);
  dirs : map (λ part. part.dir) l.parts ≡ map (λ store. store.dir) (take l.place l.stores);
  parts : map (λ part. part.parts) l.parts
      ++ in_turn (drop l.place l.numbers) (drop l.at (tasks_in (staged l.stages) l.wave)) (map out_of (into_iter_items l.left))
      ≡ in_turn l.numbers (tasks_in (staged l.stages) l.wave) (map out_of l.fn.outs);
  count : l.at + length (into_iter_items l.left) ≡ length (tasks_in (staged l.stages) l.wave);
}
