use Rattle.pig_cube.proofs.Expanded.{row_expanded, rows_expanded}
use Rattle.pig_cube.proofs.laws.blocks_expand_rows.Goals as goal

pub returns-clause-row : goal.returns-clause-row
returns-clause-row c = row_expanded

pub returns-clause-relation : goal.returns-clause-relation
returns-clause-relation c = rows_expanded
