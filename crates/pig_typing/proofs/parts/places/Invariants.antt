use Rattle.std.proofs.Common.{◌≡◌, ◌++◌, map, drop}
use Rattle.pig_typing.specs.Parts.{pick_places}
use Rattle.pig_typing.specs.Views.{pick_tree}
use Rattle.pig_typing.proofs.parts.places.Given as goal

abbrev pub invariant-loop-pick : goal.invariant-loop-pick
invariant-loop-pick l = l.places.items ++ pick_places (map pick_tree (drop l.pick-index l.picks)) ≡ pick_places (map pick_tree l.fn.picks)
