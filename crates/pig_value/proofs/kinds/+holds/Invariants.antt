use Rattle.std.proofs.Common.{◌≡◌, map, drop}
use Rattle.pig_value.specs.Trees.{kind_tree, kinds_of}
use Rattle.pig_value.specs.Kinds.{have_bag_or_map}
use Rattle.pig_value.proofs.kinds.+holds.Given as goal

abbrev pub invariant-any_holds-loop-i : goal.invariant-any_holds-loop-i
invariant-any_holds-loop-i l = have_bag_or_map (kinds_of (map kind_tree (drop l.i l.kinds))) ≡ have_bag_or_map (kinds_of (map kind_tree l.kinds))
