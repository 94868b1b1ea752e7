use Rattle.pig_relations.proofs.Gives.{group_gives, group_all_gives, join_gives}
use Rattle.pig_relations.proofs.laws.operators_give_their_columns.Goals as goal

pub returns : goal.returns
returns c = record {
  group = λ before aliases is hint t table h. group_gives before aliases is hint t table h;
  group_all = λ before aliases alias hint t table h. group_all_gives before aliases alias hint t table h;
  join = λ before aliases inputs side hint t table h. join_gives before aliases inputs side hint t table h;
}
