use Rattle.std.proofs.Common.{ℕ, Bool, List, subst}
use Rattle.std.specs.Prelude.{IfOk}
use Rattle.std.specs.declared.result.Result.{Result}
use Rattle.std.specs.declared.result.Result.TheVariants.{Ok, Err}
use Rattle.pig_typing.specs.declared.faults.TypeFault.{TypeFault}
use Rattle.pig_typing.specs.declared.faults.TypeFault.TheVariants as fault
use Rattle.pig_typing.specs.Results.{IfRefused, Tells}
use Rattle.pig_relations.specs.Aliases.{Aliases, aliases_of}
use Rattle.pig_relations.specs.Unions.{Unions, UnionsNot, union_of, union_tree}
use Rattle.pig_relations.specs.declared.unions.TypedUnion as code
use Rattle.pig_relations.proofs.OperatorsTold.{IsUnionTold, union_told}
use Rattle.pig_relations.proofs.unions.type_union.Goals as goal

holds : (aliases : Aliases) (onschema : Bool) (names : List (List ℕ)) (r : Result code.TypedUnion TypeFault) → Tells union_tree (union_of aliases onschema names) r
    → IfOk r (λ t. Unions aliases onschema names (union_tree t)) × IfRefused r (UnionsNot aliases onschema names)
holds aliases onschema names (Ok t) e = (subst (IsUnionTold aliases onschema names) e (union_told aliases onschema names), tt)
holds aliases onschema names (Err (fault.Refused kind)) e = (tt, subst (IsUnionTold aliases onschema names) e (union_told aliases onschema names))
holds aliases onschema names (Err fault.OutOfMemory) e = (tt, tt)

pub returns : goal.returns
returns c =
    let both = holds (aliases_of c.args.relations.now) c.args.onschema c.args.from.now c.union_told.result c.union_told.ensures in
    record { typed = both.0; refused = both.1; told = c.union_told.ensures }
