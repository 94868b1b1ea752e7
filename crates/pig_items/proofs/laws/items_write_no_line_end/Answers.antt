use Rattle.pig_items.proofs.NoLineEnds.{items_free}
use Rattle.pig_items.proofs.laws.items_write_no_line_end.Goals as goal

pub returns : goal.returns
returns c = λ s is g w h. items_free s is g w h
