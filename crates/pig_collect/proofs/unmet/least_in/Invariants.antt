use Rattle.std.proofs.Common.{◌≡◌, length, map}
use Rattle.std.specs.List.{flat_map}
use Rattle.pig_physical.specs.Handed.{out_of}
use Rattle.pig_collect.specs.Tallies.{least_of, lesser}
use Rattle.pig_collect.proofs.unmet.least_in.Given as goal

abbrev pub invariant-loop-left : goal.invariant-loop-left
invariant-loop-left l =
    lesser l.found (least_of (flat_map (λ out. out.unmet) (map out_of l.left))) ≡ least_of (flat_map (λ out. out.unmet) (map out_of l.outs))

abbrev pub decreases-loop-left : goal.decreases-loop-left
decreases-loop-left l = length l.left
