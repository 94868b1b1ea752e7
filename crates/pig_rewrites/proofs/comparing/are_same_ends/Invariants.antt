use Rattle.std.proofs.Common.{◌≡◌, false, length, map}
use Rattle.pig_plan.specs.Results.{at_place}
use Rattle.pig_rewrites.specs.Ends.{end_of}
use Rattle.pig_rewrites.proofs.comparing.are_same_ends.Given as goal

abbrev pub invariant-loop-left : goal.invariant-loop-left
invariant-loop-left l =
    map (end_of (at_place false l.others_listed)) l.others_left ≡ map (end_of (at_place false l.listed)) l.left
    → map (end_of (at_place false l.others_listed)) l.others ≡ map (end_of (at_place false l.listed)) l.stores

abbrev pub decreases-loop-left : goal.decreases-loop-left
decreases-loop-left l = length l.left
