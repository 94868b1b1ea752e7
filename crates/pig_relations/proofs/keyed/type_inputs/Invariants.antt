use Rattle.std.proofs.Common.{◌≡◌, ◌++◌, map, drop}
use Rattle.pig_typing.specs.Results.{checked_map}
use Rattle.pig_relations.specs.Aliases.{aliases_of}
use Rattle.pig_relations.specs.Keyed.{inputs_of}
use Rattle.pig_relations.specs.Views.{form_of, input_tree}
use Rattle.pig_relations.proofs.keyed.type_inputs.Given as goal

abbrev pub invariant-loop-form : goal.invariant-loop-form
invariant-loop-form l =
    checked_map (λ more. map input_tree l.made ++ more) (inputs_of (aliases_of l.relations) (map form_of (drop l.form-index l.forms)))
    ≡ inputs_of (aliases_of l.relations) (map form_of l.forms)
