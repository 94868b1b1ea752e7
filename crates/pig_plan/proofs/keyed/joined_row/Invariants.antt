use Rattle.std.proofs.Common.{◌≡◌, ◌++◌, map, drop}
use Rattle.std.specs.List.{flat_map}
use Rattle.pig_value.specs.Trees.{kind_tree}
use Rattle.pig_plan.specs.Given.{keyed_row}
use Rattle.pig_plan.proofs.keyed.joined_row.Given as goal

abbrev pub invariant-loop-input : goal.invariant-loop-input
invariant-loop-input l =
    map kind_tree l.kinds ++ flat_map (λ input. input.row) (map keyed_row (drop l.input-index l.found))
    ≡ flat_map (λ input. input.row) (map keyed_row l.found)
