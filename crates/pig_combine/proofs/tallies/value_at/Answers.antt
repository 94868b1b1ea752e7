use Rattle.std.proofs.Common.{sym, subst}
use Rattle.pig_value.specs.Trees.{row_tree}
use Rattle.pig_value.specs.Valid.{IsValue}
use Rattle.pig_combine.proofs.Found.{at_value}
use Rattle.pig_combine.proofs.tallies.value_at.Goals as goal

pub returns-clause-value : goal.returns-clause-value
returns-clause-value c h = subst IsValue (sym c.field_at.ensures) (at_value (row_tree c.args.row.now) c.args.place h)
