use Rattle.std.proofs.Common.{ℕ, List, map, subst}
use Rattle.std.specs.Prelude.{IfOk, Option}
use Rattle.std.specs.declared.result.Result.{Result}
use Rattle.std.specs.declared.result.Result.TheVariants.{Ok, Err}
use Rattle.pig_typing.specs.declared.faults.TypeFault.{TypeFault}
use Rattle.pig_typing.specs.declared.faults.TypeFault.TheVariants as fault
use Rattle.pig_typing.specs.Results.{IfRefused, Tells}
use Rattle.pig_relations.specs.Aliases.{Aliases, aliases_of}
use Rattle.pig_value.specs.declared.operators.Side.{Side}
use Rattle.pig_relations.specs.Keyed.{KeyedForm, join_form}
use Rattle.pig_relations.specs.Operators.{Joins, JoinsNot, join_of, op_tree}
use Rattle.pig_relations.specs.declared.operators.TypedOp as code
use Rattle.pig_relations.proofs.OperatorsTold.{IsJoinTold, join_told}
use Rattle.pig_relations.proofs.operators.type_join.Goals as goal

holds : (aliases : Aliases) (is : List KeyedForm) (side : Side) (hint : Option (List ℕ)) (r : Result code.TypedOp TypeFault) → Tells op_tree (join_of aliases is side hint) r
    → IfOk r (λ t. Joins aliases is side hint (op_tree t)) × IfRefused r (JoinsNot aliases is side hint)
holds aliases is side hint (Ok t) e = (subst (IsJoinTold aliases is side hint) e (join_told aliases is side hint), tt)
holds aliases is side hint (Err (fault.Refused kind)) e = (tt, subst (IsJoinTold aliases is side hint) e (join_told aliases is side hint))
holds aliases is side hint (Err fault.OutOfMemory) e = (tt, tt)

pub returns : goal.returns
returns c =
    let both = holds (aliases_of c.args.relations.now) (map join_form c.args.inputs.now) c.args.side c.args.hint.now c.join_told.result c.join_told.ensures in
    record { typed = both.0; refused = both.1; told = c.join_told.ensures }
