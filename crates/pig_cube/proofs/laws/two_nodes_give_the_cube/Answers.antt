use Rattle.pig_cube.proofs.Cubed.{operators_cube, plans_cube}
use Rattle.pig_cube.proofs.laws.two_nodes_give_the_cube.Goals as goal

pub returns-clause-operators : goal.returns-clause-operators
returns-clause-operators c = λ s first second dims width rollup input made rows. operators_cube dims width rollup s first second input made rows

pub returns-clause-plans : goal.returns-clause-plans
returns-clause-plans c = plans_cube
