use Rattle.std.specs.Prelude.{◌⊎◌, List}
use Rattle.std.specs.declared.result.Result.TheVariants.{Ok, Err}
use Rattle.std.proofs.Common.{inl, inr}
use Rattle.pig_schema.specs.FieldTrees.{FieldTree}
use Rattle.pig_syntax.specs.declared.trees.OrderKeys.{OrderKeys}
use Rattle.pig_typed.specs.declared.blocks.SortKey.{SortKey}
use Rattle.pig_typing.specs.declared.faults.CheckKind.{CheckKind}
use Rattle.pig_typing.specs.Results.{Checked}
use Rattle.pig_blocks.specs.SortKeys.{SortsBy, SortsByNot, sorted_by}
use Rattle.pig_blocks.proofs.Found.{one_order, no_order}
use Rattle.pig_blocks.proofs.Told.{IsOrderTold, order_told}
use Rattle.pig_blocks.proofs.laws.orders_have_one_typing.Goals as goal

either : (columns : List FieldTree) (order : OrderKeys) (r : Checked (List SortKey)) → IsOrderTold columns order r
    → ((ks : List SortKey) × SortsBy columns order ks) ⊎ ((kind : CheckKind) × SortsByNot columns order kind)
either columns order (Ok ks) w = inl (ks, w)
either columns order (Err kind) w = inr (kind, w)

pub returns : goal.returns
returns c = record {
  one = λ columns order ks ls v w. one_order v w;
  some = λ columns order. either columns order (sorted_by columns order) (order_told columns order);
  never_both = λ columns order ks kind v w. no_order v w;
}
