use Rattle.std.proofs.Common.{◌≡◌, ◌+◌, ◌*◌, map, drop}
use Rattle.pig_value.specs.Trees.{kind_tree, kinds_of}
use Rattle.pig_share.specs.Hashed.{kinds_hash}
use Rattle.pig_share.proofs.hashing.+mix_kind.Given as goal

abbrev pub decreases-mix_kind : goal.decreases-mix_kind
decreases-mix_kind l = 3 * goal.size-mix_kind l

abbrev pub decreases-mix_kinds : goal.decreases-mix_kinds
decreases-mix_kinds l = 3 * goal.size-mix_kinds l + 1

abbrev pub invariant-mix_kinds-loop-kind : goal.invariant-mix_kinds-loop-kind
invariant-mix_kinds-loop-kind l = kinds_hash l.made (kinds_of (map kind_tree (drop l.kind-index l.kinds))) ≡ kinds_hash l.h (kinds_of (map kind_tree l.kinds))
