use Rattle.std.proofs.Common.{subst}
use Rattle.std.specs.Prelude.{List, IfOk}
use Rattle.std.specs.declared.result.Result.{Result}
use Rattle.std.specs.declared.result.Result.TheVariants.{Ok, Err}
use Rattle.pig_syntax.specs.declared.trees.Item.{Item}
use Rattle.pig_typing.specs.declared.faults.TypeFault.{TypeFault}
use Rattle.pig_typing.specs.declared.faults.TypeFault.TheVariants as fault
use Rattle.pig_items.specs.declared.items.Generated.{Generated}
use Rattle.pig_typing.specs.Columns.{Place, place_of}
use Rattle.pig_items.specs.Items.{AllGenerate, AllGenerateNot, items_of}
use Rattle.pig_typing.specs.Results.{IfRefused, Tells}
use Rattle.pig_items.specs.Views.{generated_tree}
use Rattle.pig_items.proofs.ItemsTold.{AreGenerated, items_told}
use Rattle.pig_items.proofs.items.type_items.Goals as goal

holds : (s : Place) (is : List Item) (r : Result Generated TypeFault) → Tells generated_tree (items_of s is) r → IfOk r (λ g. AllGenerate s is (generated_tree g)) × IfRefused r (AllGenerateNot s is)
holds s is (Ok g) e = (subst (AreGenerated s is) e (items_told s is), tt)
holds s is (Err (fault.Refused kind)) e = (tt, subst (AreGenerated s is) e (items_told s is))
holds s is (Err fault.OutOfMemory) e = (tt, tt)

pub returns : goal.returns
returns c =
    let both = holds (place_of c.args.scope.now) c.args.items.now c.items_told.result c.items_told.ensures in
    record { typed = both.0; refused = both.1; told = c.items_told.ensures }
