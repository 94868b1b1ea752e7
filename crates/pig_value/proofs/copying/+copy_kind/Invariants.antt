use Rattle.std.proofs.Common.{◌≡◌, take}
use Rattle.pig_value.proofs.copying.+copy_kind.Given as goal

abbrev pub invariant-copy_kinds-loop-kind : goal.invariant-copy_kinds-loop-kind
invariant-copy_kinds-loop-kind l = l.made.items ≡ take l.kind-index l.kinds
