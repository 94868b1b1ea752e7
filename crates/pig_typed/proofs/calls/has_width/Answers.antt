use Rattle.std.proofs.Common.{map, refl}
use Rattle.std.proofs.lemmas.List.{length-map}
use Rattle.pig_value.specs.Trees.{kind_tree}
use Rattle.pig_value.proofs.TreeLaws.{kinds_back}
use Rattle.pig_typed.proofs.calls.has_width.Goals as goal

pub returns : goal.returns
returns c = rw (kinds_back (map kind_tree c.args.fields.now), length-map c.args.fields.now kind_tree) refl
