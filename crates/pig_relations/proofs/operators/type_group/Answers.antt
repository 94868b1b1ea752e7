use Rattle.std.proofs.Common.{ℕ, List, map, subst}
use Rattle.std.specs.Prelude.{IfOk, Option}
use Rattle.std.specs.declared.result.Result.{Result}
use Rattle.std.specs.declared.result.Result.TheVariants.{Ok, Err}
use Rattle.pig_typing.specs.declared.faults.TypeFault.{TypeFault}
use Rattle.pig_typing.specs.declared.faults.TypeFault.TheVariants as fault
use Rattle.pig_typing.specs.Results.{IfRefused, Tells}
use Rattle.pig_relations.specs.Aliases.{Aliases, aliases_of}
use Rattle.pig_relations.specs.Keyed.{KeyedForm, group_form}
use Rattle.pig_relations.specs.Operators.{Groups, GroupsNot, group_of, op_tree}
use Rattle.pig_relations.specs.declared.operators.TypedOp as code
use Rattle.pig_relations.proofs.OperatorsTold.{IsGroupTold, group_told}
use Rattle.pig_relations.proofs.operators.type_group.Goals as goal

holds : (aliases : Aliases) (is : List KeyedForm) (hint : Option (List ℕ)) (r : Result code.TypedOp TypeFault) → Tells op_tree (group_of aliases is hint) r
    → IfOk r (λ t. Groups aliases is hint (op_tree t)) × IfRefused r (GroupsNot aliases is hint)
holds aliases is hint (Ok t) e = (subst (IsGroupTold aliases is hint) e (group_told aliases is hint), tt)
holds aliases is hint (Err (fault.Refused kind)) e = (tt, subst (IsGroupTold aliases is hint) e (group_told aliases is hint))
holds aliases is hint (Err fault.OutOfMemory) e = (tt, tt)

pub returns : goal.returns
returns c =
    let both = holds (aliases_of c.args.relations.now) (map group_form c.args.inputs.now) c.args.hint.now c.group_told.result c.group_told.ensures in
    record { typed = both.0; refused = both.1; told = c.group_told.ensures }
