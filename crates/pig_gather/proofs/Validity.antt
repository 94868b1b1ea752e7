-- Fields of two rows, and nulls, are fields of values.
use Rattle.std.proofs.Common.{ℕ, zero, suc, List, ◌++◌}
use Rattle.pig_value.specs.Trees.{Tree}
use Rattle.pig_value.specs.Valid.{IsRow, IsValue}
use Rattle.pig_value.proofs.ValidLaws.{row_each, row_from_each}
use Rattle.pig_value.proofs.list_laws.Listing.{each-append}
use Rattle.pig_plan.specs.ByKey.{nulls}

pub both_valid : (x y : List Tree) → IsRow x → IsRow y → IsRow (x ++ y)
both_valid x y h k = row_from_each (x ++ y) (each-append IsValue x y (row_each x h) (row_each y k))

pub nulls_valid : (n : ℕ) → IsRow (nulls n)
nulls_valid zero = tt
nulls_valid (suc n) = (tt, nulls_valid n)
