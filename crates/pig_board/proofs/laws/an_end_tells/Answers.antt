use Rattle.pig_board.proofs.EndLaws.{an_end}
use Rattle.pig_board.proofs.Notes.{steps_keep}
use Rattle.pig_board.proofs.laws.an_end_tells.Goals as goal

pub returns : goal.returns
returns c = record { end = an_end; notes = steps_keep }
