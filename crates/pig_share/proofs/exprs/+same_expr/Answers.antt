use Rattle.std.proofs.Common.{rules, sym, ◌∙◌}
use Rattle.pig_typed.specs.Typed.{link_of, typed}
use Rattle.pig_share.proofs.Ends.{args_end, links_end}
use Rattle.pig_share.proofs.exprs.+same_expr.Goals as goal

pub are_same_args-returns : goal.are_same_args-returns
are_same_args-returns t c = sym (args_end typed c.args.a.now c.args.b.now c.loop-i.i (search rules)) ∙ c.loop-i.invariant

pub are_same_links-returns : goal.are_same_links-returns
are_same_links-returns t c = sym (links_end link_of c.args.a.now c.args.b.now c.loop-i.i (search rules)) ∙ c.loop-i.invariant
