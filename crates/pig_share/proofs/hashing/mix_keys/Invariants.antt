use Rattle.std.proofs.Common.{◌≡◌, map, drop}
use Rattle.pig_typed.specs.Typed.{typed}
use Rattle.pig_share.specs.Hashed.{all_hash, expr_hash}
use Rattle.pig_share.proofs.hashing.mix_keys.Given as goal

abbrev pub invariant-loop-key : goal.invariant-loop-key
invariant-loop-key l = all_hash expr_hash l.made (map typed (drop l.key-index l.keys)) ≡ all_hash expr_hash l.h (map typed l.keys)
