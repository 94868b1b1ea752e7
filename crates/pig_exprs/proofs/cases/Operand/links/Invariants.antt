use Rattle.std.proofs.Common.{◌≡◌, map}
use Rattle.pig_value.specs.declared.operators.ChainOp.TheVariants as op
use Rattle.pig_exprs.specs.Grammar.{equals}
use Rattle.pig_exprs.proofs.cases.Operand.links.Given as goal

abbrev pub invariant-loop-value : goal.invariant-loop-value
invariant-loop-value g l = l.links ≡ map (λ w. record { op = op.Or; a = equals l.self.tree w }) l.yielded
