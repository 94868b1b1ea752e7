-- Parameters as their names and values.
use Rattle.pig_params.specs.Substitution.{Named}
use Rattle.pig_params.specs.declared.values.Param.{Param}

abbrev pub named_of : Param → Named
named_of p = (p.name, p.value)
