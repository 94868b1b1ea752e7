use Rattle.pig_storage.proofs.LineFree.{lines_free, rows_free}
use Rattle.pig_storage.proofs.StoredRows.{row_is_one_line}
use Rattle.pig_storage.proofs.laws.rows_of_lines_are_line_free.Goals as goal

pub returns-clause-lines : goal.returns-clause-lines
returns-clause-lines c = lines_free

pub returns-clause-rows : goal.returns-clause-rows
returns-clause-rows c = rows_free

pub returns-clause-text : goal.returns-clause-text
returns-clause-text c = row_is_one_line
