use Rattle.pig_value.proofs.CastKinds.{cast_of_kind, cast_is_value}
use Rattle.pig_cast.proofs.laws.casts_are_of_their_kind.Goals as goal

pub returns-clause-kind : goal.returns-clause-kind
returns-clause-kind c = cast_of_kind

pub returns-clause-value : goal.returns-clause-value
returns-clause-value c = cast_is_value
