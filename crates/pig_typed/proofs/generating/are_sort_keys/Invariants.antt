use Rattle.std.proofs.Common.{◌≡◌, map, drop}
use Rattle.pig_value.specs.Trees.{kind_tree}
use Rattle.pig_typed.specs.BlockKinds.{are_keys}
use Rattle.pig_typed.proofs.generating.are_sort_keys.Given as goal

abbrev pub invariant-loop-key : goal.invariant-loop-key
invariant-loop-key l = are_keys (map kind_tree l.kinds) (drop l.key-index l.key-items) ≡ are_keys (map kind_tree l.kinds) l.fn.keys
