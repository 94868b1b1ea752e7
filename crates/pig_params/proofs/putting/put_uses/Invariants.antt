use Rattle.std.proofs.Common.{◌≡◌, ◌+◌, length}
use Rattle.std.specs.List.{slice_split}
use Rattle.pig_params.specs.Cuts.{is_byte}
use Rattle.pig_params.specs.Known.{value_in}
use Rattle.pig_params.specs.Substitution.{joined, put_uses}
use Rattle.pig_params.proofs.Going.{Going}
use Rattle.pig_params.proofs.putting.put_uses.Given as goal

abbrev pub invariant-loop-part : goal.invariant-loop-part
invariant-loop-part l = (l.dollar + length l.left ≡ l.at + length l.parts)
    × (l.made.most ≡ l.initial.made.most)
    × Going (joined (put_uses (value_in l.known) l.at (slice_split (is_byte 36) l.parts))) (joined (put_uses (value_in l.known) l.dollar (slice_split (is_byte 36) l.left))) l.initial.made l.made

abbrev pub decreases-loop-part : goal.decreases-loop-part
decreases-loop-part l = length l.left
