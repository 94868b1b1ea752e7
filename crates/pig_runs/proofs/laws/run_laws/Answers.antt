use Rattle.std.proofs.Common.{◌≡◌, subst}
use Rattle.std.specs.declared.cmp.Ordering.TheVariants.{Equal}
use Rattle.std.proofs.lemmas.Cmp.{tied_itself}
use Rattle.pig_runs.specs.Entries.{run_cmp}
use Rattle.pig_runs.proofs.Order.{run_total, run_same}
use Rattle.pig_runs.proofs.Merging.{merged_is}
use Rattle.pig_runs.proofs.Parted.{by_points, slices_join, cuts_rise}
use Rattle.pig_runs.proofs.laws.run_laws.Goals as goal

pub returns : goal.returns
returns c = record {
  either_way = λ ds. (run_total ds).antisymm;
  transitive = λ ds. (run_total ds).trans;
  equal_is_same = λ ds e f. (run_same ds e f, λ same. subst (λ g. run_cmp ds e g ≡ Equal) same (tied_itself (run_total ds) e));
  merged = merged_is;
  slices = slices_join;
  by_points = by_points;
  rising = cuts_rise;
}
