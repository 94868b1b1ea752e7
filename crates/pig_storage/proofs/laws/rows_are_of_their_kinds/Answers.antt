use Rattle.pig_storage.proofs.RowKinds.{row_of_kinds, row_is_values, rows_are_values}
use Rattle.pig_storage.proofs.laws.rows_are_of_their_kinds.Goals as goal

pub returns-clause-kinds : goal.returns-clause-kinds
returns-clause-kinds c = row_of_kinds

pub returns-clause-values : goal.returns-clause-values
returns-clause-values c = row_is_values

pub returns-clause-rows : goal.returns-clause-rows
returns-clause-rows c = rows_are_values
