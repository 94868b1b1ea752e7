use Rattle.std.proofs.Common.{◌≡◌, map}
use Rattle.pig_value.specs.Trees.{kind_tree}
use Rattle.pig_typed.specs.Typed.{typed}
use Rattle.pig_typing.specs.Views.{typed_tree}
use Rattle.pig_relations.specs.Keyed.{cast_keys}
use Rattle.pig_relations.proofs.CastKeys.{left_after}
use Rattle.pig_relations.proofs.keyed.cast_keys.Given as goal

abbrev pub invariant-loop-key : goal.invariant-loop-key
invariant-loop-key l =
    (map typed l.made ≡ cast_keys (map typed_tree l.yielded) (map kind_tree l.kinds)) × (map kind_tree l.left ≡ left_after l.yielded (map kind_tree l.kinds))
