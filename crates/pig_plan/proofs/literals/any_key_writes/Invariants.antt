use Rattle.std.proofs.Common.{◌≡◌, map, drop}
use Rattle.std.specs.List.{list_any}
use Rattle.pig_plan.specs.Written.{writes_lf}
use Rattle.pig_typed.specs.Typed.{typed}
use Rattle.pig_plan.proofs.literals.any_key_writes.Given as goal

abbrev pub invariant-loop-key : goal.invariant-loop-key
invariant-loop-key l = list_any writes_lf (map typed (drop l.key-index l.keys)) ≡ list_any writes_lf (map typed l.keys)
