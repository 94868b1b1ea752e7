use Rattle.std.proofs.Common.{map, sym}
use Rattle.pig_value.specs.Trees.{kind_tree}
use Rattle.pig_typed.proofs.FlatKinds.{flat_found}
use Rattle.pig_typed.proofs.generating.flattened.Goals as goal

pub returns-in-Ok : goal.returns-in-Ok
returns-in-Ok c = sym (flat_found (kind_tree c.args.kind) (map kind_tree c.in-Ok.kinds) c.in-Ok.ensures.kinds)
