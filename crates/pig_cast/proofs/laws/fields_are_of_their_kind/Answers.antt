use Rattle.pig_value.proofs.FieldKinds.{field_of_kind, field_is_value}
use Rattle.pig_cast.proofs.laws.fields_are_of_their_kind.Goals as goal

pub returns-clause-kind : goal.returns-clause-kind
returns-clause-kind c = field_of_kind

pub returns-clause-value : goal.returns-clause-value
returns-clause-value c = field_is_value
