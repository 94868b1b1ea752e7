use Rattle.std.proofs.Common.{◌≡◌, ◌+◌, ◌++◌, drop, length, map}
use Rattle.std.specs.Vec.Iter.{into_iter_items}
use Rattle.pig_physical.specs.Handed.{out_of}
use Rattle.pig_physical.specs.Seen.{staged}
use Rattle.pig_physical.specs.Stages.{tasks_in}
use Rattle.pig_collect.specs.Turns.{own_front}
use Rattle.pig_collect.proofs.parts.own_parts.Given as goal

abbrev pub invariant-taking : goal.invariant-taking
invariant-taking l = record {
  own : own_front l.number (drop l.fn.at (tasks_in (staged l.stages) l.wave)) (map out_of (into_iter_items l.fn.left))
      ≡ l.own ++ own_front l.number (drop l.at (tasks_in (staged l.stages) l.wave)) (map out_of (into_iter_items l.left));
  left : into_iter_items l.left ≡ drop (length l.own) (into_iter_items l.fn.left);
  count : l.at + length (into_iter_items l.left) ≡ length (tasks_in (staged l.stages) l.wave);
  at : l.at ≡ l.fn.at + length l.own;
}

abbrev pub decreases-taking : goal.decreases-taking
decreases-taking l = length (into_iter_items l.left)
