use Rattle.std.proofs.Common.{sym}
use Rattle.pig_cast.proofs.Digits.{opened_near}
use Rattle.pig_cast.proofs.open_brackets.OpenBrackets.open.Goals as goal

pub returns-then-self-lt-FULL : goal.returns-then-self-lt-FULL
returns-then-self-lt-FULL c = opened_near c.self.inside.deeper.items c.self.inside.deeper.len 31 c.self.inside.digits c.digit.result _ c.args.self.now c.self.inside.deeper.ok.0 (sym c.if-is_empty.ensures) c.digit.ensures.some.0 c.digit.ensures.some.1 c.if-self-lt-FULL.true c.digit.ensures.bracket c.self.view_is
