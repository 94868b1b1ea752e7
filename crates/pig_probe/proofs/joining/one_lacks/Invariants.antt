use Rattle.std.proofs.Common.{◌≡◌, drop}
use Rattle.std.specs.List.{list_any}
use Rattle.pig_value.specs.Trees.{tree}
use Rattle.pig_plan.specs.ByKey.{is_empty}
use Rattle.pig_replicated.specs.Holding.{matches_in}
use Rattle.pig_probe.proofs.joining.one_lacks.Given as goal

abbrev pub invariant-loop-side : goal.invariant-loop-side
invariant-loop-side l = list_any (λ s. is_empty (matches_in s (tree l.key))) (drop l.side-index l.sides) ≡ list_any (λ s. is_empty (matches_in s (tree l.key))) l.sides
