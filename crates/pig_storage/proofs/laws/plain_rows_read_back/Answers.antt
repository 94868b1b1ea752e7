use Rattle.pig_storage.proofs.RowsBack.{row_back, rows_back}
use Rattle.pig_storage.proofs.laws.plain_rows_read_back.Goals as goal

pub returns-clause-row : goal.returns-clause-row
returns-clause-row c = row_back

pub returns-clause-rows : goal.returns-clause-rows
returns-clause-rows c = rows_back
