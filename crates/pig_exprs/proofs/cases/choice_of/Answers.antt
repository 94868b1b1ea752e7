use Rattle.std.proofs.Common.{rules}
use Rattle.pig_exprs.proofs.Chosen.{choice_step, choice_end}
use Rattle.pig_exprs.proofs.cases.choice_of.Goals as goal

pub whens-preserved : goal.whens-preserved
whens-preserved c =
    choice_step c.whens.whens c.pop.new.self (c.in-Some.test, c.in-Some.value) c.whens.tree c.in_ok-tree.tree _ (search rules) c.in_ok-tree.ensures c.whens.invariant

pub returns : goal.returns
returns c = choice_end c.whens.whens c.whens.tree _ (search rules) c.whens.invariant
