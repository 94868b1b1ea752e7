use Rattle.pig_storage.proofs.Delims.{named_delimiter}
use Rattle.pig_storage.proofs.StoredRows.{rows_stored}
use Rattle.pig_storage.proofs.laws.texts_of_rows_are_lines.Goals as goal

pub returns-clause-lines : goal.returns-clause-lines
returns-clause-lines c = rows_stored

pub returns-clause-delimiter : goal.returns-clause-delimiter
returns-clause-delimiter c = named_delimiter
