use Rattle.std.proofs.Common.{◌∙◌, sym}
use Rattle.pig_stream.proofs.Handed.{nothing_held, none_of, past_limit}
use Rattle.pig_stream.proofs.window.Window.may_find.Goals as goal

pub returns-then-skips-clause-none : goal.returns-then-skips-clause-none
returns-then-skips-clause-none c = λ no. nothing_held c.args.self.now (c.skips.ensures.none c.if-skips.true)

pub returns-then-limit-eq0-clause-none : goal.returns-then-limit-eq0-clause-none
returns-then-limit-eq0-clause-none c = λ no ended later. past_limit c.args.self.now (sym c.limit.ensures ∙ c.if-limit-eq0.true) later

pub returns-then-held_len-eq0-clause-none : goal.returns-then-held_len-eq0-clause-none
returns-then-held_len-eq0-clause-none c = λ no. nothing_held c.args.self.now (none_of c.args.self.now.held (sym c.held_len.ensures ∙ c.if-held_len-eq0.true))
