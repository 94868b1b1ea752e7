use Rattle.std.proofs.Common.{◌≡◌}
use Rattle.pig_exprs.specs.Grammar.{compared}
use Rattle.pig_exprs.proofs.cases.Operand.compared.Given as goal

abbrev pub invariant-loop-value : goal.invariant-loop-value
invariant-loop-value g l = l.tests ≡ compared l.self.tree l.yielded
