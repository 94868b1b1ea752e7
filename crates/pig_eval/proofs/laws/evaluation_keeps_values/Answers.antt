use Rattle.pig_value.specs.Valid.{IsValue}
use Rattle.pig_value.proofs.ValidLaws.{row_each}
use Rattle.pig_builtins.proofs.ValuesKept.{values_kept}
use Rattle.pig_typed.specs.Blocks.{foreach_rows}
use Rattle.pig_typed.proofs.Carried.{block_carried}
use Rattle.pig_typed.proofs.ValuesCarried.{are_rows, values_carried}
use Rattle.pig_eval.proofs.Evaluated.{a_value}
use Rattle.pig_eval.proofs.laws.evaluation_keeps_values.Goals as goal

pub returns : goal.returns
returns c = record {
  expression = a_value;
  block = λ block row ok h.
      are_rows (foreach_rows block row) (block_carried IsValue (values_carried values_kept) block row ok (row_each row h));
}
