use Rattle.std.proofs.Common.{◌≡◌, ◌<◌, ℕ, get_or, length}
use Rattle.std.specs.List.{AllByRecursion}
use Rattle.pig_physical.specs.Naming.{named_in}
use Rattle.pig_physical.specs.declared.namings.Naming.TheVariants as namings
use Rattle.pig_physical.proofs.namings.note_all.Given as goal

abbrev pub invariant-loop-left : goal.invariant-loop-left
invariant-loop-left l =
    (length l.found.items ≡ length l.initial.found.items)
    × AllByRecursion (λ i. i < length l.found.items) l.left
    × ((k : ℕ) → named_in k l.user l.left (get_or l.found.items k namings.Never) ≡ named_in k l.user l.inputs (get_or l.initial.found.items k namings.Never))

abbrev pub decreases-loop-left : goal.decreases-loop-left
decreases-loop-left l = length l.left
