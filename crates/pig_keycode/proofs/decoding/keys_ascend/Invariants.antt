-- The keys ascend where those that are left do.
use Rattle.std.proofs.Common.{length, map}
use Rattle.std.specs.Prelude.{◌↔◌}
use Rattle.pig_value.specs.Trees.{entry_of}
use Rattle.pig_value.specs.Valid.{TextsAscend}
use Rattle.pig_keycode.specs.Reading.{pair_keys}
use Rattle.pig_keycode.proofs.decoding.keys_ascend.Given as goal

abbrev pub invariant-loop-rest : goal.invariant-loop-rest
invariant-loop-rest l = TextsAscend (pair_keys (map entry_of l.pairs)) ↔ TextsAscend (pair_keys (map entry_of l.rest))

abbrev pub decreases-loop-rest : goal.decreases-loop-rest
decreases-loop-rest l = length l.rest
