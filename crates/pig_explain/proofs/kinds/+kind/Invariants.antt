-- What is written and what is to come are the whole text.
use Rattle.std.proofs.Common.{◌≡◌, ◌+◌, ◌*◌, ◌++◌, [], map, drop}
use Rattle.pig_value.specs.Trees.{kind_tree, kinds_of}
use Rattle.pig_explain.specs.KindTexts.{kinds_text}
use Rattle.pig_explain.proofs.kinds.+kind.Given as goal

abbrev pub decreases-put_kind : goal.decreases-put_kind
decreases-put_kind l = 3 * goal.size-put_kind l

abbrev pub decreases-put_kinds : goal.decreases-put_kinds
decreases-put_kinds l = 3 * goal.size-put_kinds l + 1

abbrev pub invariant-put_kinds-loop-kind : goal.invariant-put_kinds-loop-kind
invariant-put_kinds-loop-kind l = l.out.items ++ kinds_text l.before (kinds_of (map kind_tree (drop l.kind-index l.kinds))) ≡ l.fn.out.items ++ kinds_text [] (kinds_of (map kind_tree l.kinds))
