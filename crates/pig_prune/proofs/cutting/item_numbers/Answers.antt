use Rattle.pig_prune.proofs.Ends.{numbered_whole}
use Rattle.pig_prune.proofs.cutting.item_numbers.Goals as goal

pub returns : goal.returns
returns c =
    numbered_whole c.loop-left.marked.now c.loop-left.first c.loop-left.left.now c.loop-left.numbers _ c.in_default.len_below c.loop-left.invariant
