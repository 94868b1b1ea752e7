use Rattle.std.proofs.Common.{◌≡◌, map, drop}
use Rattle.std.specs.List.{find}
use Rattle.std.specs.Option.{option_map}
use Rattle.std.specs.Prelude.{bytes_eq}
use Rattle.pig_value.specs.Trees.{entry_of}
use Rattle.pig_eval.proofs.projecting.value_under.Given as goal

abbrev pub invariant-loop-pair : goal.invariant-loop-pair
invariant-loop-pair l =
    find (λ p. bytes_eq p.0 l.key) (map entry_of (drop l.pair-index l.pair-items)) ≡ find (λ p. bytes_eq p.0 l.key) (map entry_of l.pairs)
