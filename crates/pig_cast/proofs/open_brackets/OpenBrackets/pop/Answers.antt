use Rattle.pig_cast.proofs.Digits.{closed_near}
use Rattle.pig_cast.proofs.open_brackets.OpenBrackets.pop.Goals as goal

pub returns : goal.returns
returns c = closed_near c.self.inside.deeper.items c.pop.new.self.items c.self.inside.deeper.len c.pop.new.self.len 31 c.self.inside.digits c.bracket-next.result c.args.self.now c.self.inside.deeper.ok.0 c.pop.new.self.ok.0 c.in_default.ensures.cases.0 c.in_default.ensures.cases.1 c.if-self-eq0.false c.self.invariant c.bracket-next.ensures c.self.view_is
