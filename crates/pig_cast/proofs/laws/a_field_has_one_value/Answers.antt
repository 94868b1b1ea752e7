use Rattle.pig_cast.proofs.FieldLaw.{one_value}
use Rattle.pig_cast.proofs.laws.a_field_has_one_value.Goals as goal

pub returns : goal.returns
returns c = one_value
