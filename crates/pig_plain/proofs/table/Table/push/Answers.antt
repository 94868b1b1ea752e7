use Rattle.std.proofs.Common.{subst, sym}
use Rattle.pig_plain.specs.Operating.{AreValues}
use Rattle.pig_plain.proofs.Tables.{values_more}
use Rattle.pig_plain.proofs.table.Table.push.Goals as goal

pub invariant_of-self-2 : goal.invariant_of-self-2
invariant_of-self-2 c = subst AreValues (sym c.in_ok-push.ensures.items) (values_more c.self.inside.relations.items c.args.made c.self.invariant c.requires)
