use Rattle.pig_cube.proofs.Kinded.{block_kinds}
use Rattle.pig_cube.proofs.laws.blocks_have_kinds.Goals as goal

pub returns : goal.returns
returns c = block_kinds
