use Rattle.std.proofs.Common.{◌≡◌, ◌<◌, ◌||◌, ◌==◌, ℕ, false, length, get_or}
use Rattle.std.specs.List.{AllByRecursion, list_any}
use Rattle.pig_plan.proofs.live.mark_inputs.Given as goal

abbrev pub invariant-loop-left : goal.invariant-loop-left
invariant-loop-left l = (length l.marks.items ≡ length l.initial.marks.items)
    × AllByRecursion (λ i. i < length l.marks.items) l.left
    × ((k : ℕ) → (list_any (λ i. i == k) l.left || get_or l.marks.items k false) ≡ (list_any (λ i. i == k) l.inputs || get_or l.initial.marks.items k false))

abbrev pub decreases-loop-left : goal.decreases-loop-left
decreases-loop-left l = length l.left
