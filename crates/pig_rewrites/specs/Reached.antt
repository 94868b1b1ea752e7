-- The plan that is cut into tasks is reached from the checked one: nodes that do the same become one, conditions move towards the sources, and
-- what nothing needs goes.
use Rattle.pig_plan.specs.Plans.{Plan}
use Rattle.pig_share.specs.Shared.{SharesAll}
use Rattle.pig_moves.specs.Pushed.{IsPushed, NoneMayMove}
use Rattle.pig_alive.specs.Alive.{EachLives}
use Rattle.pig_prune.specs.Pruned.{IsPruned}

pub record IsReached (checked cut : Plan) : Type 0 where
  pub shared : Plan
  pub pushed : Plan
  pub shares : SharesAll checked shared
  pub pushes : IsPushed shared pushed
  pub normal : NoneMayMove pushed
  pub prunes : IsPruned pushed cut
  pub lives : EachLives cut
