use Rattle.std.proofs.Common.{◌≡◌, length}
use Rattle.pig_exprs.specs.Grammar.{choice_of}
use Rattle.pig_exprs.proofs.cases.choice_of.Given as goal

abbrev pub invariant-whens : goal.invariant-whens
invariant-whens l = choice_of l.whens l.tree ≡ choice_of l.fn.whens l.fn.default

abbrev pub decreases-whens : goal.decreases-whens
decreases-whens l = length l.whens
