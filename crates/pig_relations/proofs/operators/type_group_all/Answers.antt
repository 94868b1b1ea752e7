use Rattle.std.proofs.Common.{ℕ, List, subst}
use Rattle.std.specs.Prelude.{IfOk, Option}
use Rattle.std.specs.declared.result.Result.{Result}
use Rattle.std.specs.declared.result.Result.TheVariants.{Ok, Err}
use Rattle.pig_typing.specs.declared.faults.TypeFault.{TypeFault}
use Rattle.pig_typing.specs.declared.faults.TypeFault.TheVariants as fault
use Rattle.pig_typing.specs.Results.{IfRefused, Tells}
use Rattle.pig_relations.specs.Aliases.{Aliases, aliases_of}
use Rattle.pig_relations.specs.Operators.{GroupsAll, GroupsAllNot, group_all_of, op_tree}
use Rattle.pig_relations.specs.declared.operators.TypedOp as code
use Rattle.pig_relations.proofs.OperatorsTold.{IsGroupAllTold, group_all_told}
use Rattle.pig_relations.proofs.operators.type_group_all.Goals as goal

holds : (aliases : Aliases) (alias : List ℕ) (hint : Option (List ℕ)) (r : Result code.TypedOp TypeFault) → Tells op_tree (group_all_of aliases alias hint) r
    → IfOk r (λ t. GroupsAll aliases alias hint (op_tree t)) × IfRefused r (GroupsAllNot aliases alias hint)
holds aliases alias hint (Ok t) e = (subst (IsGroupAllTold aliases alias hint) e (group_all_told aliases alias hint), tt)
holds aliases alias hint (Err (fault.Refused kind)) e = (tt, subst (IsGroupAllTold aliases alias hint) e (group_all_told aliases alias hint))
holds aliases alias hint (Err fault.OutOfMemory) e = (tt, tt)

pub returns : goal.returns
returns c =
    let both = holds (aliases_of c.args.relations.now) c.args.from.now c.args.hint.now c.group_all_told.result c.group_all_told.ensures in
    record { typed = both.0; refused = both.1; told = c.group_all_told.ensures }
