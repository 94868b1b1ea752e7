use Rattle.std.proofs.Common.{◌≡◌, ◌≤◌, ◌-◌, ◌^◌, min, max, map, drop}
use Rattle.pig_value.specs.Trees.{kind_tree, kinds_of}
use Rattle.pig_value.specs.Kinds.{depths_of}
use Rattle.pig_value.proofs.kinds.+depth.Given as goal

abbrev pub invariant-kinds_depth-loop-i : goal.invariant-kinds_depth-loop-i
invariant-kinds_depth-loop-i l =
    (l.deepest ≤ 2 ^ 64 - 1) × (min (max l.deepest (depths_of (kinds_of (map kind_tree (drop l.i l.kinds))))) (2 ^ 64 - 1) ≡ min (depths_of (kinds_of (map kind_tree l.kinds))) (2 ^ 64 - 1))
