use Rattle.std.proofs.Common.{◌≡◌, ◌==◌, ℕ, ◌<◌, true}
use Rattle.std.specs.Prelude.{Some, slice_get}
use Rattle.std.specs.List.{list_any}
use Rattle.pig_moves.specs.Pushed.{place_in}
use Rattle.pig_push.proofs.uniting.are_once.Given as goal

abbrev pub invariant-loop-index : goal.invariant-loop-index
invariant-loop-index l = (j n : ℕ) → j < l.index → slice_get l.each j ≡ Some n → (place_in l.each n ≡ j) × (list_any (λ m. m == n) l.inputs ≡ true)
