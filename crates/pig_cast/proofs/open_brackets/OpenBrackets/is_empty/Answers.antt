use Rattle.std.proofs.Common.{◌∙◌, sym}
use Rattle.pig_cast.specs.OpenBrackets.{brackets}
use Rattle.pig_cast.proofs.Digits.{none_there, some_there}
use Rattle.pig_cast.proofs.open_brackets.OpenBrackets.is_empty.Goals as goal

pub returns-then-is_empty : goal.returns-then-is_empty
returns-then-is_empty c = none_there c.self.inside.deeper.items c.self.inside.deeper.len 31 c.self.inside.digits c.args.self.now c.self.inside.deeper.ok.0 (sym c.if-is_empty.ensures) c.self.view_is

pub returns-else-is_empty : goal.returns-else-is_empty
returns-else-is_empty c = c.if-is_empty.false ∙ some_there c.self.inside.deeper.items (brackets 32 c.self.inside.digits) c.args.self.now c.self.inside.deeper.len c.self.inside.deeper.ok.0 (sym c.if-is_empty.ensures) c.self.view_is
