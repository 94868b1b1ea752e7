use Rattle.pig_plan.proofs.Ordered.{ordered_by_points, ordered_slices}
use Rattle.pig_plan.proofs.laws.order_goes_by_slices.Goals as goal

pub returns : goal.returns
returns c = record {
  parts = ordered_slices;
  points = ordered_by_points;
}
