use Rattle.std.proofs.Common.{◌≡◌, map, drop}
use Rattle.std.specs.List.{list_all}
use Rattle.pig_value.specs.Kinds.{kind_eq}
use Rattle.pig_value.specs.Trees.{kind_tree}
use Rattle.pig_typed.proofs.calls.all_same.Given as goal

abbrev pub invariant-loop-kind : goal.invariant-loop-kind
invariant-loop-kind l = list_all (kind_eq (kind_tree l.first)) (map kind_tree (drop l.kind-index l.rest)) ≡ list_all (kind_eq (kind_tree l.first)) (map kind_tree l.rest)
