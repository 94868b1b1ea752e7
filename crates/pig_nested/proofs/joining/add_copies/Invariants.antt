use Rattle.std.proofs.Common.{◌≡◌, ◌++◌, take}
use Rattle.pig_nested.proofs.joining.add_copies.Given as goal

abbrev pub invariant-loop-v : goal.invariant-loop-v
invariant-loop-v l = l.row ≡ l.fn.row ++ take l.v-index l.v-items
