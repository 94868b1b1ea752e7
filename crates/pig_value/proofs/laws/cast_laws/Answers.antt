use Rattle.pig_value.proofs.CastKinds.{refused_is_null}
use Rattle.pig_value.proofs.KindLaws.{casts_of_values, value_casts}
use Rattle.pig_value.proofs.laws.cast_laws.Goals as goal

pub returns-clause-values : goal.returns-clause-values
returns-clause-values c = value_casts

pub returns-clause-kinds : goal.returns-clause-kinds
returns-clause-kinds c = casts_of_values

pub returns-clause-refused : goal.returns-clause-refused
returns-clause-refused c = refused_is_null
