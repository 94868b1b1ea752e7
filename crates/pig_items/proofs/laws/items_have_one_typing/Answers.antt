use Rattle.std.specs.Prelude.{List, ◌⊎◌}
use Rattle.std.specs.declared.result.Result.TheVariants.{Ok, Err}
use Rattle.std.proofs.Common.{inl, inr}
use Rattle.pig_syntax.specs.declared.trees.Item.{Item}
use Rattle.pig_typing.specs.declared.faults.CheckKind.{CheckKind}
use Rattle.pig_typing.specs.Columns.{Place}
use Rattle.pig_items.specs.Items.{Generated, AllGenerate, AllGenerateNot, items_of}
use Rattle.pig_typing.specs.Results.{Checked}
use Rattle.pig_items.proofs.ItemsFound.{one_generated, none_generated}
use Rattle.pig_items.proofs.ItemsTold.{AreGenerated, items_told}
use Rattle.pig_items.proofs.laws.items_have_one_typing.Goals as goal

either : (s : Place) (is : List Item) (r : Checked (Generated)) → AreGenerated s is r → ((g : Generated) × AllGenerate s is g) ⊎ ((kind : CheckKind) × AllGenerateNot s is kind)
either s is (Ok g) w = inl (g, w)
either s is (Err kind) w = inr (kind, w)

pub returns : goal.returns
returns c = record {
  one = λ s is g h v w. one_generated v w;
  some = λ s is. either s is (items_of s is) (items_told s is);
  never_both = λ s is g kind v w. none_generated v w;
}
