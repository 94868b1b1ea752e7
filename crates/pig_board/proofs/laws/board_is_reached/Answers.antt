use Rattle.pig_board.proofs.Reached.{is_reached}
use Rattle.pig_board.proofs.laws.board_is_reached.Goals as goal

pub returns : goal.returns
returns c = is_reached
