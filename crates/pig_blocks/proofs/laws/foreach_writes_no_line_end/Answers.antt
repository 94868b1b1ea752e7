use Rattle.pig_blocks.proofs.LineFree.{foreach_free}
use Rattle.pig_blocks.proofs.laws.foreach_writes_no_line_end.Goals as goal

pub returns : goal.returns
returns c = λ columns steps items f w v h. foreach_free columns steps items f w v h
