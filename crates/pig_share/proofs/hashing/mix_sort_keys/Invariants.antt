use Rattle.std.proofs.Common.{◌≡◌, drop}
use Rattle.pig_share.specs.Hashed.{all_hash, sort_key_hash}
use Rattle.pig_share.proofs.hashing.mix_sort_keys.Given as goal

abbrev pub invariant-loop-key : goal.invariant-loop-key
invariant-loop-key l = all_hash sort_key_hash l.made (drop l.key-index l.keys) ≡ all_hash sort_key_hash l.h l.keys
