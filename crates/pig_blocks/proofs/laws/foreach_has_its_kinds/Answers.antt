use Rattle.pig_blocks.proofs.BlockKinds.{foreach_holds}
use Rattle.pig_blocks.proofs.laws.foreach_has_its_kinds.Goals as goal

pub returns : goal.returns
returns c = record {
  kinds = λ columns steps items f w h. (foreach_holds columns steps items f w h).kinds;
  columns = λ columns steps items f w h. (foreach_holds columns steps items f w h).inside;
}
