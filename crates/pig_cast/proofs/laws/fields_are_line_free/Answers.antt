use Rattle.pig_value.proofs.CastFree.{cast_free}
use Rattle.pig_value.proofs.FieldFree.{field_free}
use Rattle.pig_cast.proofs.laws.fields_are_line_free.Goals as goal

pub returns-clause-field : goal.returns-clause-field
returns-clause-field c = field_free

pub returns-clause-cast : goal.returns-clause-cast
returns-clause-cast c = cast_free
