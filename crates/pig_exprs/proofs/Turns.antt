-- The turns of a list, beside a loop that counts up.
use Rattle.std.proofs.Common.{◌≡◌, ℕ, suc, ◌+◌, ◌-◌, ◌<◌, ◌≤◌, refl, ap, ◌∙◌, arith, List, [], ◌∷◌, ◌++◌}
use Rattle.std.specs.Prelude.{Some, None, Err}
use Rattle.pig_exprs.specs.Grammar.{Forms}
use Rattle.pig_exprs.specs.Reader.{FoundPart, Turn, Gives, Turns, repeat}
use Rattle.pig_exprs.specs.declared.reading.ParseFault.{ParseFault}
use Rattle.pig_exprs.specs.declared.reading.ParseFault.TheVariants as at

-- a turn that ends the list
pub turn_none : {A : Type 0} (turn : Forms → Turn A) (most done : ℕ) (found : List A) (ts : Forms) → done < most → turn ts ≡ Some None → repeat turn (most - done) found ts ≡ Some (found, ts)
unfolding repeat
turn_none turn most done found ts below ends =
    let e : most - done ≡ suc (most - (done + 1)) = omega (arith, below) in
    ap (λ n. repeat turn n found ts) e ∙ (rw ends refl)

-- a turn that goes on
pub turn_some : {A : Type 0} (turn : Forms → Turn A) (most done : ℕ) (found after : List A) (x : A) (ts rest : Forms) → done < most → after ≡ found ++ x ∷ [] → turn ts ≡ Some (Some (x, rest))
    → repeat turn (most - done) found ts ≡ repeat turn (most - (done + 1)) after rest
unfolding repeat
turn_some turn most done found after x ts rest below more goes =
    let e : most - done ≡ suc (most - (done + 1)) = omega (arith, below) in
    ap (λ n. repeat turn n found ts) e ∙ (rw (goes, more) refl)

-- a turn that fails
pub turn_fails : {A : Type 0} (turn : Forms → Turn A) (most done : ℕ) (found : List A) (ts : Forms) → done < most → turn ts ≡ None → repeat turn (most - done) found ts ≡ None
unfolding repeat
turn_fails turn most done found ts below fails =
    let e : most - done ≡ suc (most - (done + 1)) = omega (arith, below) in
    ap (λ n. repeat turn n found ts) e ∙ (rw fails refl)

-- no turn is left
pub turn_end : {A : Type 0} (turn : Forms → Turn A) (most done : ℕ) (found : List A) (ts : Forms) → most ≤ done → repeat turn (most - done) found ts ≡ Some (found, ts)
unfolding repeat
turn_end turn most done found ts behind =
    let e : most - done ≡ 0 = omega (arith, behind) in
    ap (λ n. repeat turn n found ts) e

-- a fault of a turn is one of the list
pub fault_of_turn : {A : Type 0} (turn : Turn A) (found : FoundPart (List A)) (fault : ParseFault) → Turns {A = A} turn (Err fault) → (turn ≡ None → found ≡ None) → Gives found (Err fault)
fault_of_turn turn found at.Off given none = none given
fault_of_turn turn found at.OutOfMemory given none = tt

-- one level deeper
pub deeper : {X : Type 0} (f : ℕ → X) (n : ℕ) → 0 < n → f n ≡ f (suc (n - 1))
deeper f n some = let e : n ≡ suc (n - 1) = omega (arith, some) in ap f e
