use Rattle.std.proofs.Common.{◌∙◌, sym}
use Rattle.pig_stream.proofs.Handed.{past_limit}
use Rattle.pig_stream.proofs.window.Window.is_past.Goals as goal

pub returns-then-limit-eq0-clause-none : goal.returns-then-limit-eq0-clause-none
returns-then-limit-eq0-clause-none c = λ yes later. past_limit c.args.self.now (sym c.limit.ensures ∙ c.if-limit-eq0.true) later
