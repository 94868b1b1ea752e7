use Rattle.pig_check.proofs.Apart.{none_collide, paths_differ}
use Rattle.pig_check.proofs.laws.stores_are_apart.Goals as goal

pub returns : goal.returns
returns c = record {
  apart = λ ss p h. paths_differ _ (none_collide h);
  none_collide = λ ss p h. none_collide h;
}
