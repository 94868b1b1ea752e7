use Rattle.std.proofs.Common.{◌∙◌}
use Rattle.pig_cast.proofs.OnePass.{comma_separates, other_separates}
use Rattle.pig_cast.proofs.cutting.separates.Goals as goal

pub returns-then-byte-eq44 : goal.returns-then-byte-eq44
returns-then-byte-eq44 c = c.is_empty.ensures ∙ comma_separates c.args.byte c.args.unclosed.now c.if-byte-eq44.true

pub returns-else-byte-eq44 : goal.returns-else-byte-eq44
returns-else-byte-eq44 c = other_separates c.args.byte c.args.unclosed.now c.if-byte-eq44.false
