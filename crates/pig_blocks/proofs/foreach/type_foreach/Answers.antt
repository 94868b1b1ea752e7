use Rattle.std.proofs.Common.{List, subst}
use Rattle.std.specs.Prelude.{IfOk}
use Rattle.std.specs.declared.result.Result.{Result}
use Rattle.std.specs.declared.result.Result.TheVariants.{Ok, Err}
use Rattle.pig_schema.specs.FieldTrees.{FieldTree, schema_tree}
use Rattle.pig_syntax.specs.declared.trees.Item.{Item}
use Rattle.pig_syntax.specs.declared.trees.Step.{Step}
use Rattle.pig_typing.specs.declared.faults.TypeFault.{TypeFault}
use Rattle.pig_typing.specs.declared.faults.TypeFault.TheVariants as fault
use Rattle.pig_typing.specs.Results.{IfRefused, Tells}
use Rattle.pig_blocks.specs.declared.foreach.TypedForeach.{TypedForeach}
use Rattle.pig_blocks.specs.Foreach.{ForeachFaults, TypesForeach, foreach_of}
use Rattle.pig_blocks.specs.Views.{foreach_tree}
use Rattle.pig_blocks.proofs.Told.{IsForeachTold, foreach_told}
use Rattle.pig_blocks.proofs.foreach.type_foreach.Goals as goal

holds : (columns : List FieldTree) (steps : List Step) (items : List Item) (r : Result TypedForeach TypeFault) → Tells foreach_tree (foreach_of columns steps items) r
    → IfOk r (λ f. TypesForeach columns steps items (foreach_tree f)) × IfRefused r (ForeachFaults columns steps items)
holds columns steps items (Ok f) e = (subst (IsForeachTold columns steps items) e (foreach_told columns steps items), tt)
holds columns steps items (Err (fault.Refused kind)) e = (tt, subst (IsForeachTold columns steps items) e (foreach_told columns steps items))
holds columns steps items (Err fault.OutOfMemory) e = (tt, tt)

pub returns : goal.returns
returns c =
    let both = holds (schema_tree c.args.columns.now) c.args.steps.now c.args.items.now c.foreach_told.result c.foreach_told.ensures in
    record { typed = both.0; refused = both.1; told = c.foreach_told.ensures }
