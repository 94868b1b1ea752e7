use Rattle.pig_plain.proofs.StoredLines.{stored_lines_are}
use Rattle.pig_plain.proofs.laws.answers_are_stored_lines.Goals as goal

pub returns : goal.returns
returns c = stored_lines_are
