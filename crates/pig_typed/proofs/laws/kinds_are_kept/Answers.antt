use Rattle.pig_value.specs.Kinds.{IsOf, AreRowsOf}
use Rattle.pig_typed.specs.BlockKinds.{row_kinds}
use Rattle.pig_typed.specs.Blocks.{foreach_rows}
use Rattle.pig_typed.specs.Evaluation.{ev}
use Rattle.pig_typed.specs.ExprKinds.{expr_kind}
use Rattle.pig_typed.proofs.BlocksKept.{block_kept}
use Rattle.pig_typed.proofs.Found.{found_is}
use Rattle.pig_typed.proofs.KindsKept.{kept}
use Rattle.pig_typed.proofs.laws.kinds_are_kept.Goals as goal

pub returns : goal.returns
returns c = record {
  expression = λ functions e row locals kinds more k h g is. found_is (IsOf (ev e row locals)) (expr_kind e kinds more) k is (kept functions row locals kinds more h g e);
  block = λ functions block row kinds made h is. found_is (AreRowsOf (foreach_rows block row)) (row_kinds block kinds) made is (block_kept functions row kinds h block);
}
