use Rattle.pig_builtins.proofs.Merging.{in_any_order, merged}
use Rattle.pig_builtins.proofs.laws.column_laws.Goals as goal

pub returns : goal.returns
returns c = record { any_order = in_any_order; merged = merged }
