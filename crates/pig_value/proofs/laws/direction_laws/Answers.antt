use Rattle.std.proofs.Common.{◌≡◌, subst}
use Rattle.std.proofs.lemmas.Cmp.{tied_itself}
use Rattle.std.specs.declared.cmp.Ordering.TheVariants.{Equal}
use Rattle.pig_value.specs.Orders.{dirs_cmp}
use Rattle.pig_value.proofs.OrderLaws.{dirs_total, dirs_same}
use Rattle.pig_value.proofs.laws.direction_laws.Goals as goal

pub returns : goal.returns
returns c = record {
  either_way = λ ds. (dirs_total ds).antisymm;
  transitive = λ ds. (dirs_total ds).trans;
  equal_is_same = λ ds a b. (dirs_same ds a b, λ e. subst (λ x. dirs_cmp ds a x ≡ Equal) e (tied_itself (dirs_total ds) a));
}
