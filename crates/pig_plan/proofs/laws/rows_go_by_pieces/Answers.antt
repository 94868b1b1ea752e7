use Rattle.pig_plan.proofs.ByPieces.{filter_pieces, flat_map_pieces, union_pieces}
use Rattle.pig_typed.specs.Blocks.{foreach_rows}
use Rattle.pig_typed.specs.Evaluation.{passes}
use Rattle.pig_plan.proofs.laws.rows_go_by_pieces.Goals as goal

pub returns : goal.returns
returns c = record {
  filter = λ test pieces. filter_pieces (passes test) pieces;
  foreach = λ block pieces. flat_map_pieces (foreach_rows block) pieces;
  union = union_pieces;
}
