use Rattle.std.proofs.Common.{rules, ◌≡◌, subst}
use Rattle.pig_plan.specs.Plans.{Plan, plan_of}
use Rattle.pig_plan.specs.Rewrites.{SameMeaning}
use Rattle.pig_plan.specs.Valid.{IsPlan}
use Rattle.pig_reach.specs.Reach.{live_paths}
use Rattle.pig_share.specs.Shared.{IsSharable, SharesAll}
use Rattle.pig_moves.specs.Pushed.{IsPushed, NoneMayMove}
use Rattle.pig_alive.specs.Alive.{EachLives}
use Rattle.pig_prune.specs.Pruned.{IsPruned}
use Rattle.pig_rewrites.specs.Ends.{ends_of}
use Rattle.pig_rewrites.proofs.Alike.{runs_alike, same_thrice}
use Rattle.pig_rewrites.proofs.OwnPaths.{sharable}
use Rattle.pig_rewrites.proofs.rewriting.rewrite.Goals as goal

pub returns-clause-reached : goal.returns-clause-reached
returns-clause-reached c =
    let checked : Plan = plan_of c.args.plan.now in
    let copy : plan_of c.in_ok-checked.checked ≡ checked = search rules in
    let all : IsSharable (plan_of c.in_ok-checked.checked) → SharesAll (plan_of c.in_ok-checked.checked) (plan_of c.in_ok-shared.shared) = search rules in
    let shares : IsSharable checked → SharesAll checked (plan_of c.in_ok-shared.shared) = subst (λ p. IsSharable p → SharesAll p (plan_of c.in_ok-shared.shared)) copy all in
    let pushes : IsPushed (plan_of c.in_ok-shared.shared) (plan_of c.in_ok-pushed.pushed) = search rules in
    let normal : NoneMayMove (plan_of c.in_ok-pushed.pushed) = search rules in
    let prunes : IsPruned (plan_of c.in_ok-pushed.pushed) (plan_of c.in_ok-pruned.pruned) = search rules in
    let lives : EachLives (plan_of c.in_ok-pruned.pruned) = search rules in
    record {
      shared = plan_of c.in_ok-shared.shared;
      pushed = plan_of c.in_ok-pushed.pushed;
      shares = shares (sharable checked c.requires.ordered c.requires.apart);
      pushes = pushes;
      normal = normal;
      prunes = prunes;
      lives = lives;
    }

pub returns-clause-alike : goal.returns-clause-alike
returns-clause-alike c =
    let checked : Plan = plan_of c.args.plan.now in
    let pruned : Plan = plan_of c.in_ok-pruned.pruned in
    let copy : plan_of c.in_ok-checked.checked ≡ checked = search rules in
    let shares : SameMeaning (plan_of c.in_ok-checked.checked) (plan_of c.in_ok-shared.shared) = search rules in
    let pushes : SameMeaning (plan_of c.in_ok-shared.shared) (plan_of c.in_ok-pushed.pushed) = search rules in
    let prunes : SameMeaning (plan_of c.in_ok-pushed.pushed) pruned = search rules in
    let valid : IsPlan checked = search rules in
    let valid_pruned : IsPlan pruned = search rules in
    let ends : ends_of pruned ≡ ends_of checked = search rules in
    let paths : live_paths pruned ≡ live_paths checked = search rules in
    let same : SameMeaning checked pruned =
    subst (λ p. SameMeaning p pruned) copy (same_thrice (plan_of c.in_ok-checked.checked) (plan_of c.in_ok-shared.shared) (plan_of c.in_ok-pushed.pushed) pruned shares pushes prunes) in
    runs_alike checked pruned valid valid_pruned same c.requires.apart ends paths
