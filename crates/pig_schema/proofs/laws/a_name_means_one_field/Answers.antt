use Rattle.pig_schema.proofs.Readings.{told, meant_is, unknown_is, ambiguous_is, meant_within, two_of}
use Rattle.pig_schema.proofs.laws.a_name_means_one_field.Goals as goal

pub returns : goal.returns
returns c = record {
  place = λ fields name. (told fields name).0;
  fault = λ fields name. (told fields name).1;
  meant = meant_is;
  unknown = unknown_is;
  ambiguous = ambiguous_is;
  within = meant_within;
  two = two_of;
}
