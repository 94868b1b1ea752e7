use Rattle.pig_collect.proofs.LinesRead.{read_lines}
use Rattle.pig_collect.proofs.laws.runs_read_lines.Goals as goal

pub returns : goal.returns
returns c = read_lines
