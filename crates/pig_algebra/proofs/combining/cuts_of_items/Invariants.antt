use Rattle.std.proofs.Common.{◌≡◌, ◌++◌, map, drop}
use Rattle.std.specs.Option.{option_map}
use Rattle.pig_value.specs.FieldReader.{all_of}
use Rattle.pig_typed.specs.Typed.{item_typed}
use Rattle.pig_algebra.specs.Cuts.{cut_of, cut_typed}
use Rattle.pig_algebra.proofs.combining.cuts_of_items.Given as goal

abbrev pub invariant-loop-item : goal.invariant-loop-item
invariant-loop-item l =
    option_map (λ more. map cut_typed l.cuts ++ more) (all_of cut_of (map item_typed (drop l.item-index l.item-items)))
    ≡ all_of cut_of (map item_typed l.fn.items)
