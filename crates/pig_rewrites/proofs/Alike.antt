-- A plan that is reached runs alike: by what the rewrites keep, and by what is compared.
use Rattle.std.specs.Prelude.{◌≡◌, true}
use Rattle.pig_plan.specs.Plans.{Plan}
use Rattle.pig_plan.specs.Rewrites.{SameMeaning}
use Rattle.pig_plan.specs.Valid.{IsPlan}
use Rattle.pig_plan.proofs.Rewrites.{same_on}
use Rattle.pig_reach.specs.Reach.{live_paths, stores_of}
use Rattle.pig_rewrites.specs.Alike.{RunsAlike, are_apart}
use Rattle.pig_rewrites.specs.Ends.{ends_of}
use Rattle.pig_rewrites.proofs.Outputs.{stores_alike}
use Rattle.pig_rewrites.proofs.Unmet.{unmet_same}

-- ---- what means the same, stores in turn and reads the same runs alike

pub runs_alike : (p q : Plan) → IsPlan p → IsPlan q → SameMeaning p q → are_apart (stores_of p) ≡ true → ends_of q ≡ ends_of p → live_paths q ≡ live_paths p → RunsAlike p q
runs_alike p q valid valid_q same apart ends paths = record {
  kept_on = same.kept_on;
  kept_back = same.kept_back;
  stores = stores_alike p q valid valid_q same apart ends;
  paths = paths;
  unmet = unmet_same p q same;
}

-- ---- the three rewrites in turn

pub same_thrice : (checked shared pushed pruned : Plan) → SameMeaning checked shared → SameMeaning shared pushed → SameMeaning pushed pruned → SameMeaning checked pruned
same_thrice checked shared pushed pruned a b c = same_on checked pushed pruned (same_on checked shared pushed a b) c
