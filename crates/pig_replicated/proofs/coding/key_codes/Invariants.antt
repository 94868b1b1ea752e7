-- The codes so far, and those that are to come.
use Rattle.std.proofs.Common.{◌≡◌, ◌++◌, drop, map}
use Rattle.pig_replicated.specs.Codes.{key_code}
use Rattle.pig_replicated.proofs.coding.key_codes.Given as goal

abbrev pub invariant-loop-group : goal.invariant-loop-group
invariant-loop-group l = map (λ k. k.items) l.codes.keys ++ map key_code (drop l.group-index l.groups) ≡ map key_code l.groups
