use Rattle.std.proofs.Common.{arith, ap}
use Rattle.pig_exprs.specs.Reader.{forms, type_at}
use Rattle.pig_exprs.proofs.Turns.{deeper}
use Rattle.pig_exprs.proofs.types.+type_tree.Goals as goal

pub returns : goal.returns
unfolding type_at
returns t c = rw (deeper (λ n. type_at n (forms c.args.tokens.now)) c.args.depth (omega arith)) (rw (ap (λ rules. rules.inner.depth) c.within.ensures) at c.any_type.ensures)
