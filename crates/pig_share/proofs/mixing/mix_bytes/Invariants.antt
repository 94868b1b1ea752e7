use Rattle.std.proofs.Common.{◌≡◌, drop}
use Rattle.pig_share.specs.Hashed.{all_hash, mixed}
use Rattle.pig_share.proofs.mixing.mix_bytes.Given as goal

abbrev pub invariant-loop-byte : goal.invariant-loop-byte
invariant-loop-byte l = all_hash mixed l.made (drop l.byte-index l.bytes) ≡ all_hash mixed l.h l.bytes
