use Rattle.std.proofs.Common.{◌≡◌, ◌≤◌, ◌+◌, ◌-◌, ◌^◌, min, map, drop}
use Rattle.pig_value.specs.Trees.{kind_tree, kinds_of}
use Rattle.pig_value.specs.Kinds.{widths_of}
use Rattle.pig_value.proofs.kinds.+width.Given as goal

abbrev pub invariant-kinds_width-loop-i : goal.invariant-kinds_width-loop-i
invariant-kinds_width-loop-i l =
    (l.total ≤ 2 ^ 64 - 1) × (min (l.total + widths_of (kinds_of (map kind_tree (drop l.i l.kinds)))) (2 ^ 64 - 1) ≡ min (widths_of (kinds_of (map kind_tree l.kinds))) (2 ^ 64 - 1))
