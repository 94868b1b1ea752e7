use Rattle.std.proofs.Common.{◌≡◌, map}
use Rattle.pig_value.specs.declared.operators.ChainOp.TheVariants as op
use Rattle.pig_typed.specs.Typed.{link_of, typed}
use Rattle.pig_moves.proofs.chaining.chained.Given as goal

abbrev pub invariant-loop-a : goal.invariant-loop-a
invariant-loop-a l = map link_of l.rest ≡ map (λ c. (op.And, c)) (map typed l.yielded)
