use Rattle.std.proofs.Common.{◌≡◌, ◌++◌, map, length}
use Rattle.pig_typed.specs.Typed.{typed}
use Rattle.pig_needs.specs.Needed.{key_names}
use Rattle.pig_needs.proofs.names.add_key_names.Given as goal

abbrev pub invariant-loop-left : goal.invariant-loop-left
invariant-loop-left l = l.found ++ key_names (map typed l.left) ≡ l.initial.found ++ key_names (map typed l.keys)

abbrev pub decreases-loop-left : goal.decreases-loop-left
decreases-loop-left l = length l.left
