use Rattle.std.proofs.Common.{◌≡◌, [], ◌++◌, map, drop}
use Rattle.std.specs.List.{AllByRecursion}
use Rattle.pig_algebra.specs.Cuts.{cut_typed}
use Rattle.pig_combine.specs.Tallies.{IsHeld, found_by, told}
use Rattle.pig_combine.proofs.groups.start_all.Given as goal

abbrev pub invariant-loop-cut : goal.invariant-loop-cut
invariant-loop-cut l =
    (map told l.tallies.items ++ map (found_by []) (map cut_typed (drop l.cut-index l.cuts)) ≡ map (found_by []) (map cut_typed l.cuts))
    × AllByRecursion IsHeld l.tallies.items
