-- What is known of a result where it is no fault.
use Rattle.std.proofs.Common.{◌≡◌}
use Rattle.std.specs.Prelude.{Option, Some, None, Result, Ok, Err, IfOk, IfSome}
use Rattle.std.specs.Coded.{Coded, Coded-set}
use Rattle.std.proofs.Math.Logic.{∥∥₁_elim}

pub ok_weaker : {V E : Type 0} {P Q : V → Type 0} (r : Result V E) → ((v : V) → P v → Q v) → IfOk r P → IfOk r Q
ok_weaker (Err e) step h = tt
ok_weaker (Ok v) step h = step v h

-- an equation that is known under a truncated premise is known
pub ok_known : {A V E X : Type 0} (coded : Coded X) (view : V → X) (r : Result V E) (x : X) → ∥ A ∥₁ → (A → IfOk r (λ v. view v ≡ x)) → IfOk r (λ v. view v ≡ x)
ok_known coded view (Err e) x good told = tt
ok_known coded view (Ok v) x good told = ∥∥₁_elim good (Coded-set coded (view v) x) told

pub some_weaker : {V E : Type 0} {P Q : V → Type 0} (r : Result (Option V) E) → ((v : V) → P v → Q v) → IfOk r (λ o. IfSome o P) → IfOk r (λ o. IfSome o Q)
some_weaker (Err e) step h = tt
some_weaker (Ok None) step h = tt
some_weaker (Ok (Some v)) step h = step v h
