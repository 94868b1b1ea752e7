use Rattle.std.proofs.Common.{◌≡◌, ◌++◌, map, drop}
use Rattle.pig_relations.specs.Keyed.{join_form}
use Rattle.pig_relations.specs.Views.{form_of}
use Rattle.pig_relations.proofs.keyed.join_forms.Given as goal

abbrev pub invariant-loop-input : goal.invariant-loop-input
invariant-loop-input l =
    map form_of l.forms.items ++ map join_form (drop l.input-index l.inputs) ≡ map join_form l.inputs
