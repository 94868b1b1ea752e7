use Rattle.std.proofs.Common.{subst, sym}
use Rattle.pig_plain.specs.Operating.{AreValues}
use Rattle.pig_plain.proofs.Tables.{values_put}
use Rattle.pig_plain.proofs.table.Table.put.Goals as goal

pub invariant_of-self : goal.invariant_of-self
invariant_of-self c = subst AreValues (sym c.put_rows.ensures) (values_put c.self.inside.relations.items c.args.node c.args.rows c.self.invariant c.requires)
