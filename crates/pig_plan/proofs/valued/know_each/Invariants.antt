use Rattle.std.proofs.Common.{map, drop}
use Rattle.std.specs.List.{AllByRecursion}
use Rattle.pig_typed.specs.Literals.{LiteralsAre}
use Rattle.pig_typed.specs.Typed.{typed}
use Rattle.pig_value.specs.Valid.{IsValue}
use Rattle.pig_plan.proofs.valued.know_each.Given as goal

abbrev pub invariant-loop-key : goal.invariant-loop-key
invariant-loop-key l = AllByRecursion (LiteralsAre IsValue) (map typed (drop l.key-index l.keys)) → AllByRecursion (LiteralsAre IsValue) (map typed l.keys)
