use Rattle.std.proofs.Common.{◌∙◌}
use Rattle.pig_builtins.proofs.Characters.{seam, front_all, front_range}
use Rattle.pig_builtins.proofs.texts.front.Goals as goal

pub overflow_sub-text : goal.overflow_sub-text
overflow_sub-text c = (seam c.args.text.now c.in-Some.rest.now c.args.n c.utf8.text c.in-Some.ensures.1).0

pub range-requires-clause-end_boundary : goal.range-requires-clause-end_boundary
range-requires-clause-end_boundary c = (seam c.args.text.now c.in-Some.rest.now c.args.n c.utf8.text c.in-Some.ensures.1).2

pub returns-in-Some : goal.returns-in-Some
returns-in-Some c = c.range.ensures.value ∙ front_range c.args.text.now _ ∙ (seam c.args.text.now c.in-Some.rest.now c.args.n c.utf8.text c.in-Some.ensures.1).1

pub returns-in-None : goal.returns-in-None
returns-in-None c = front_all c.args.text.now c.args.n c.utf8.text c.in-None.ensures
