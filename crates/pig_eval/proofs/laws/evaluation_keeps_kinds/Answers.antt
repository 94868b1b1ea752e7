use Rattle.pig_value.specs.Kinds.{AreRowsOf}
use Rattle.pig_builtins.proofs.KindsKept.{kinds_kept}
use Rattle.pig_typed.specs.BlockKinds.{row_kinds}
use Rattle.pig_typed.specs.Blocks.{foreach_rows}
use Rattle.pig_typed.proofs.BlocksKept.{block_kept}
use Rattle.pig_typed.proofs.Found.{found_is}
use Rattle.pig_eval.proofs.Evaluated.{of_kind}
use Rattle.pig_eval.proofs.laws.evaluation_keeps_kinds.Goals as goal

pub returns : goal.returns
returns c = record {
  expression = of_kind;
  block = λ block row kinds made h is.
      found_is (AreRowsOf (foreach_rows block row)) (row_kinds block kinds) made is (block_kept kinds_kept row kinds h block);
}
