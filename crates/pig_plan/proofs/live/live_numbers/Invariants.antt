use Rattle.std.proofs.Common.{◌≡◌, false, get_or}
use Rattle.std.specs.List.{filter, range_with_len}
use Rattle.pig_plan.proofs.live.live_numbers.Given as goal

abbrev pub invariant-loop-number : goal.invariant-loop-number
invariant-loop-number l = l.numbers.items ≡ filter (λ k. get_or l.marks.items k false) (range_with_len 0 l.number)
