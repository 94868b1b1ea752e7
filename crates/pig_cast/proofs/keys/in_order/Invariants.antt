use Rattle.std.proofs.Common.{◌≡◌, map}
use Rattle.pig_value.specs.Trees.{entry_of}
use Rattle.pig_cast.specs.Keyed.{keyed}
use Rattle.pig_cast.proofs.keys.in_order.Given as goal

abbrev pub invariant-loop-key : goal.invariant-loop-key
invariant-loop-key l = map entry_of l.ordered.items ≡ map keyed l.yielded
