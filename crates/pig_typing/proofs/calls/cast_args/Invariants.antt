use Rattle.std.proofs.Common.{◌≡◌, map}
use Rattle.pig_typed.specs.Typed.{typed}
use Rattle.pig_typing.specs.Calls.{cast_by, cast_maybe}
use Rattle.pig_typing.specs.Parts.{kind_in, typed_of}
use Rattle.pig_typing.specs.Views.{typing_tree}
use Rattle.pig_typing.proofs.calls.cast_args.Given as goal

abbrev pub invariant-loop-arg : goal.invariant-loop-arg
invariant-loop-arg l = map typed l.exprs ≡ map (λ p. cast_maybe (cast_by l.casting (kind_in p)) (typed_of p)) (map typing_tree l.yielded)
