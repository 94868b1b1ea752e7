use Rattle.pig_packed.proofs.Growing.{held_still, fits_still, seen_more}
use Rattle.pig_packed.proofs.builder.PackedBuilder.write.Goals as goal

pub invariant_of-self-inside : goal.invariant_of-self-inside
invariant_of-self-inside c = (held_still c.self.inside.bytes.items c.extend.new.bytes.items c.args.more.now c.self.inside.done c.self.invariant.0 c.extend.result c.extend.ensures.ok c.extend.ensures.err c.self.inside.held, tt)

pub invariant_of-self : goal.invariant_of-self
invariant_of-self c =
    fits_still c.self.inside.bytes.items c.extend.new.bytes.items c.args.more.now c.self.inside.done c.self.invariant.0 c.extend.result c.extend.ensures.ok c.extend.ensures.err c.self.inside.held c.self-1.given.0 c.self.inside.ends.items c.self.invariant.1

pub returns-clause-ok : goal.returns-clause-ok
returns-clause-ok c =
    (seen_more c.self.inside.bytes.items c.extend.new.bytes.items c.args.more.now c.self.inside.done c.self.invariant.0 c.extend.result c.extend.ensures.ok c.extend.ensures.err c.self.inside.held c.self-1.given.0 c.args.self.now c.self.view_is).0

pub returns-clause-err : goal.returns-clause-err
returns-clause-err c =
    (seen_more c.self.inside.bytes.items c.extend.new.bytes.items c.args.more.now c.self.inside.done c.self.invariant.0 c.extend.result c.extend.ensures.ok c.extend.ensures.err c.self.inside.held c.self-1.given.0 c.args.self.now c.self.view_is).1
