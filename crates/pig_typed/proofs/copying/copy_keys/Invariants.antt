use Rattle.std.proofs.Common.{◌≡◌, take}
use Rattle.pig_typed.proofs.copying.copy_keys.Given as goal

abbrev pub invariant-loop-key : goal.invariant-loop-key
invariant-loop-key l = l.made.items ≡ take l.key-index l.keys
