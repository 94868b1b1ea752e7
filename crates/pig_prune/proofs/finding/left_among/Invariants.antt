use Rattle.std.proofs.Common.{◌≡◌, ◌==◌, length}
use Rattle.std.specs.List.{find}
use Rattle.std.specs.Option.{option_map}
use Rattle.pig_prune.proofs.finding.left_among.Given as goal

abbrev pub invariant-loop-left : goal.invariant-loop-left
invariant-loop-left l = option_map (λ f. f.like) (find (λ f. f.position == l.position) l.left) ≡ option_map (λ f. f.like) (find (λ f. f.position == l.position) l.kept)

abbrev pub decreases-loop-left : goal.decreases-loop-left
decreases-loop-left l = length l.left
