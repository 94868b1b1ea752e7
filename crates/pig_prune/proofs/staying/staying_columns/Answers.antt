use Rattle.pig_prune.proofs.Ends.{made_whole}
use Rattle.pig_prune.proofs.staying.staying_columns.Goals as goal

pub returns : goal.returns
returns c =
    made_whole c.loop-left.marked.now c.loop-left.left.now c.loop-left.made _ c.in_default.len_below c.loop-left.invariant
