use Rattle.std.proofs.Common.{List, subst}
use Rattle.std.specs.Prelude.{IfOk}
use Rattle.std.specs.declared.result.Result.{Result}
use Rattle.std.specs.declared.result.Result.TheVariants.{Ok, Err}
use Rattle.pig_schema.specs.FieldTrees.{FieldTree, schema_tree}
use Rattle.pig_syntax.specs.declared.trees.OrderKeys.{OrderKeys}
use Rattle.pig_typed.specs.declared.blocks.SortKey.{SortKey}
use Rattle.pig_typing.specs.declared.faults.TypeFault.{TypeFault}
use Rattle.pig_typing.specs.declared.faults.TypeFault.TheVariants as fault
use Rattle.pig_typing.specs.Results.{IfRefused, Tells}
use Rattle.pig_blocks.specs.SortKeys.{SortsBy, SortsByNot, sorted_by}
use Rattle.pig_blocks.proofs.Told.{IsOrderTold, order_told}
use Rattle.pig_blocks.proofs.keys.sort_keys.Goals as goal

holds : (columns : List FieldTree) (order : OrderKeys) (r : Result (List SortKey) TypeFault) → Tells (λ ks. ks) (sorted_by columns order) r
    → IfOk r (SortsBy columns order) × IfRefused r (SortsByNot columns order)
holds columns order (Ok ks) e = (subst (IsOrderTold columns order) e (order_told columns order), tt)
holds columns order (Err (fault.Refused kind)) e = (tt, subst (IsOrderTold columns order) e (order_told columns order))
holds columns order (Err fault.OutOfMemory) e = (tt, tt)

pub returns : goal.returns
returns c =
    let both = holds (schema_tree c.args.columns.now) c.args.keys.now c.keys_told.result c.keys_told.ensures in
    record { typed = both.0; refused = both.1; told = c.keys_told.ensures }
