use Rattle.std.proofs.Common.{◌≡◌, map, drop}
use Rattle.pig_value.specs.Trees.{kind_tree, kinds_of}
use Rattle.pig_value.specs.Kinds.{kinds_eq}
use Rattle.pig_share.proofs.kinds.+is_same_kind.Given as goal

abbrev pub invariant-are_same_kinds-loop-i : goal.invariant-are_same_kinds-loop-i
invariant-are_same_kinds-loop-i l = (kinds_eq (kinds_of (map kind_tree (drop l.i l.a))) (kinds_of (map kind_tree (drop l.i l.b))) ≡ kinds_eq (kinds_of (map kind_tree l.a)) (kinds_of (map kind_tree l.b)))
    × (drop l.i l.a ≡ drop l.i l.b → l.a ≡ l.b)
