use Rattle.pig_relations.proofs.TogetherHolds.{rows_fit, rows_least}
use Rattle.pig_relations.proofs.laws.kinds_together_are_the_least.Goals as goal

pub returns : goal.returns
returns c = record {
  fit = λ rows js e. rows_fit rows js e;
  least = λ ks others ms h. rows_least ks others ms h;
}
