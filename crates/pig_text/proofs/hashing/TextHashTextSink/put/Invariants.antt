use Rattle.std.proofs.Common.{◌≡◌, drop}
use Rattle.std.specs.List.{fold}
use Rattle.pig_text.specs.Hash.{hash_step}
use Rattle.pig_text.proofs.hashing.TextHashTextSink.put.Given as goal

abbrev pub invariant-loop-byte : goal.invariant-loop-byte
invariant-loop-byte l = fold hash_step l.hash (drop l.byte-index l.bytes) ≡ fold hash_step l.fn.self.hash l.bytes
