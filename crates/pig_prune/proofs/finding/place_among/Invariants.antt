use Rattle.std.proofs.Common.{◌≡◌, ◌==◌, ◌+◌, length}
use Rattle.std.specs.List.{position_or_len}
use Rattle.pig_prune.proofs.finding.place_among.Given as goal

abbrev pub invariant-loop-left : goal.invariant-loop-left
invariant-loop-left l = l.place + position_or_len (λ f. f.position == l.position) l.left ≡ position_or_len (λ f. f.position == l.position) l.kept

abbrev pub decreases-loop-left : goal.decreases-loop-left
decreases-loop-left l = length l.left
