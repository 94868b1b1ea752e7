use Rattle.pig_moves.proofs.Table.{moves_of_the_table}
use Rattle.pig_moves.proofs.laws.moves_are_of_the_table.Goals as goal

pub returns : goal.returns
returns c = moves_of_the_table
