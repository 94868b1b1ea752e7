use Rattle.std.proofs.Common.{◌≡◌, ◌++◌, map, drop}
use Rattle.pig_relations.specs.Keyed.{group_form}
use Rattle.pig_relations.specs.Views.{form_of}
use Rattle.pig_relations.proofs.keyed.group_forms.Given as goal

abbrev pub invariant-loop-input : goal.invariant-loop-input
invariant-loop-input l =
    map form_of l.forms.items ++ map group_form (drop l.input-index l.inputs) ≡ map group_form l.inputs
