use Rattle.pig_relations.proofs.LineEnds.{group_free, group_all_free, join_free, union_free}
use Rattle.pig_relations.proofs.laws.operators_write_no_line_end.Goals as goal

pub returns : goal.returns
returns c = record {
  group = λ aliases inputs hint t formed h. group_free aliases inputs hint t formed h;
  group_all = λ aliases alias hint t h. group_all_free aliases alias hint t h;
  join = λ aliases inputs side hint t formed h. join_free aliases inputs side hint t formed h;
  union = λ aliases onschema names u h. union_free aliases onschema names u h;
}
