use Rattle.pig_plan.proofs.Listed.{sorted_is_list}
use Rattle.pig_plan.proofs.Seen.{seen, seen_as_bags}
use Rattle.pig_plan.proofs.laws.operators_see_bags.Goals as goal

pub returns : goal.returns
returns c = record {
  others = λ s statement o f g own h. seen f g s statement o own h;
  all = λ s listed h f g statement o alike. seen_as_bags s listed h f g statement o alike;
  sorted = sorted_is_list;
}
