use Rattle.std.proofs.Common.{◌≡◌, [], length}
use Rattle.std.specs.List.{AllByRecursion}
use Rattle.pig_shuffle.proofs.making.new_keys.Given as goal

abbrev pub invariant-keys : goal.invariant-keys
invariant-keys l = (length l.keys.items ≡ l.counter) × AllByRecursion (λ keys. keys ≡ []) l.keys.items
