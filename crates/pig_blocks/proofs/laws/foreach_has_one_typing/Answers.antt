use Rattle.std.specs.Prelude.{◌⊎◌, List}
use Rattle.std.specs.declared.result.Result.TheVariants.{Ok, Err}
use Rattle.std.proofs.Common.{inl, inr}
use Rattle.pig_schema.specs.FieldTrees.{FieldTree}
use Rattle.pig_syntax.specs.declared.trees.Item.{Item}
use Rattle.pig_syntax.specs.declared.trees.Step.{Step}
use Rattle.pig_typing.specs.declared.faults.CheckKind.{CheckKind}
use Rattle.pig_typing.specs.Results.{Checked}
use Rattle.pig_blocks.specs.Foreach.{Foreach, ForeachFaults, TypesForeach, foreach_of}
use Rattle.pig_blocks.proofs.Found.{one_foreach, no_foreach}
use Rattle.pig_blocks.proofs.Told.{IsForeachTold, foreach_told}
use Rattle.pig_blocks.proofs.laws.foreach_has_one_typing.Goals as goal

either : (columns : List FieldTree) (steps : List Step) (items : List Item) (r : Checked Foreach) → IsForeachTold columns steps items r
    → ((f : Foreach) × TypesForeach columns steps items f) ⊎ ((kind : CheckKind) × ForeachFaults columns steps items kind)
either columns steps items (Ok f) w = inl (f, w)
either columns steps items (Err kind) w = inr (kind, w)

pub returns : goal.returns
returns c = record {
  one = λ columns steps items f g v w. one_foreach v w;
  some = λ columns steps items. either columns steps items (foreach_of columns steps items) (foreach_told columns steps items);
  never_both = λ columns steps items f kind v w. no_foreach v w;
}
