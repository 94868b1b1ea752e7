use Rattle.std.proofs.Common.{arith}
use Rattle.std.specs.Str.{chars}
use Rattle.std.proofs.lemmas.Str.{scalars-chars}
use Rattle.pig_builtins.proofs.Characters.{part_is, part_lost}
use Rattle.pig_builtins.proofs.texts.part_between.Goals as goal

pub returns-in-Some : goal.returns-in-Some
returns-in-Some c =
    part_is (chars c.args.text.now) c.in-Some.rest.now c.front.result.now c.args.start c.args.stop (scalars-chars c.args.text.now c.utf8.text) (omega arith)
    c.in-Some.ensures.0 c.in-Some.ensures.1 c.front.ensures

pub returns-in-None : goal.returns-in-None
returns-in-None c = let short = c.in-None.ensures in part_lost (chars c.args.text.now) c.args.start c.args.stop (omega arith)
