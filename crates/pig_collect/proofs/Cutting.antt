-- A slice that is read from its front.
use Rattle.std.specs.Prelude.{◌≡◌, ◌≤◌, ◌-◌, List, [], ◌∷◌, drop, get_or, length, take}
use Rattle.std.proofs.Common.{sym, arith}
use Rattle.std.proofs.lemmas.List.{take_all}

pub first_and_rest : {X : Type 0} (left : List X) (x : X) → 1 ≤ length left → x ≡ get_or left 0 x → left ≡ x ∷ take (length left - 1) (drop 1 left)
first_and_rest [] x some first = absurd (omega (arith, some))
first_and_rest (y ∷ left) x some first =
    let all : take (length (y ∷ left) - 1) left ≡ left = take_all (length (y ∷ left) - 1) left (omega arith) in
    λ i. sym first i ∷ sym all i
