use Rattle.std.proofs.Common.{◌≡◌, ◌++◌, map, drop}
use Rattle.pig_value.specs.Trees.{kind_tree}
use Rattle.pig_typing.specs.Calls.{cast_by, kind_after}
use Rattle.pig_typing.specs.Parts.{kind_in}
use Rattle.pig_typing.specs.Views.{typing_tree}
use Rattle.pig_typing.proofs.calls.cast_kinds.Given as goal

abbrev pub invariant-loop-arg : goal.invariant-loop-arg
invariant-loop-arg l =
    map kind_tree l.kinds.items ++ map (λ p. kind_after (cast_by l.casting (kind_in p)) (kind_in p)) (map typing_tree (drop l.arg-index l.args))
    ≡ map (λ p. kind_after (cast_by l.casting (kind_in p)) (kind_in p)) (map typing_tree l.args)
