use Rattle.std.proofs.Common.{◌≡◌, map, drop}
use Rattle.std.specs.List.{list_any}
use Rattle.pig_typing.specs.Calls.{is_long}
use Rattle.pig_typing.specs.Typing.{kinds_as_given}
use Rattle.pig_typing.specs.Views.{typing_tree}
use Rattle.pig_typing.proofs.calls.any_long.Given as goal

abbrev pub invariant-loop-arg : goal.invariant-loop-arg
invariant-loop-arg l = list_any is_long (kinds_as_given (map typing_tree (drop l.arg-index l.args))) ≡ list_any is_long (kinds_as_given (map typing_tree l.args))
