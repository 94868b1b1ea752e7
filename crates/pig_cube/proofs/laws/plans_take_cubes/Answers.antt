use Rattle.pig_cube.proofs.Fits.{foreach_kinds, foreach_writes_none, group_kinds_are, group_writes_none}
use Rattle.pig_cube.proofs.laws.plans_take_cubes.Goals as goal

pub returns-clause-foreach : goal.returns-clause-foreach
returns-clause-foreach c = foreach_kinds

pub returns-clause-group : goal.returns-clause-group
returns-clause-group c = λ before made dims kinds some h. group_kinds_are dims kinds some before made h

pub returns-clause-foreach_texts : goal.returns-clause-foreach_texts
returns-clause-foreach_texts c = foreach_writes_none

pub returns-clause-group_texts : goal.returns-clause-group_texts
returns-clause-group_texts c = group_writes_none
