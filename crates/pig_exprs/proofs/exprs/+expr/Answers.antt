use Rattle.std.proofs.Common.{arith}
use Rattle.pig_exprs.specs.declared.limits.TheConstants.{MOST_NESTED}
use Rattle.pig_exprs.specs.Reader.{forms}
use Rattle.pig_exprs.specs.ExprReader.{expr_at}
use Rattle.pig_exprs.proofs.Turns.{deeper}
use Rattle.pig_exprs.proofs.exprs.+expr.Goals as goal

pub returns : goal.returns
unfolding expr_at
returns t c = rw (deeper (λ n. expr_at MOST_NESTED n (forms c.args.tokens.now)) c.args.depth (omega arith)) c.or_chain.ensures
