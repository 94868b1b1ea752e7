-- The lists so far.
use Rattle.std.proofs.Common.{◌≡◌, map}
use Rattle.std.specs.Prelude.{slice_get}
use Rattle.std.specs.List.{range_with_len}
use Rattle.pig_runs.specs.Places.{heads_from, slots_in}
use Rattle.pig_runs.proofs.stretches.lists_of_heads.Given as goal

abbrev pub invariant-loop-stretch : goal.invariant-loop-stretch
invariant-loop-stretch l = l.lists.items ≡ map (λ i. heads_from i 0 (slots_in (slice_get l.stretches i))) (range_with_len 0 l.stretch)
