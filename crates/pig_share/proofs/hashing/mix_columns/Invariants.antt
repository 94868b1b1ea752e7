use Rattle.std.proofs.Common.{◌≡◌, drop}
use Rattle.pig_share.specs.Hashed.{all_hash, column_hash}
use Rattle.pig_share.proofs.hashing.mix_columns.Given as goal

abbrev pub invariant-loop-column : goal.invariant-loop-column
invariant-loop-column l = all_hash column_hash l.made (drop l.column-index l.columns) ≡ all_hash column_hash l.h l.columns
