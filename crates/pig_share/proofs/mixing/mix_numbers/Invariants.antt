use Rattle.std.proofs.Common.{◌≡◌, drop}
use Rattle.pig_share.specs.Hashed.{all_hash, mixed}
use Rattle.pig_share.proofs.mixing.mix_numbers.Given as goal

abbrev pub invariant-loop-number : goal.invariant-loop-number
invariant-loop-number l = all_hash mixed l.made (drop l.number-index l.numbers) ≡ all_hash mixed l.h l.numbers
