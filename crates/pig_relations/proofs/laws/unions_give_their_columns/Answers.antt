use Rattle.pig_relations.proofs.UnionGives.{union_inputs, union_columns, union_node}
use Rattle.pig_relations.proofs.laws.unions_give_their_columns.Goals as goal

pub returns : goal.returns
returns c = record {
  inputs = λ before aliases onschema names u table h. union_inputs before aliases onschema names u table h;
  columns = λ before aliases onschema names u table h. union_columns before aliases onschema names u table h;
  node = λ aliases onschema names u h after nodes count gives. union_node aliases onschema names u h after nodes count gives;
}
