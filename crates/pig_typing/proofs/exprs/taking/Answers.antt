use Rattle.std.proofs.Common.{◌∙◌, sym, subst}
use Rattle.pig_typing.specs.Reader.{with_count}
use Rattle.pig_typing.specs.Results.{Tells}
use Rattle.pig_typing.proofs.LinkSteps.{count_is}
use Rattle.pig_typing.proofs.exprs.taking.Goals as goal

pub returns : goal.returns
returns c = subst (λ n. Tells (λ f. f) (with_count n c.args.function) c.with_count.result) (c.len.ensures ∙ sym (count_is c.args.args.now)) c.with_count.ensures
