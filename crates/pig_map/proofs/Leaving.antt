-- What a call leaves, from what a call within it left.
use Rattle.std.specs.Prelude.{◌≡◌, ℕ, Option, Some, Result, Ok, Err, IfOk, IfSome, MatchResult, ⊤}
use Rattle.std.proofs.Common.{arith, refl, subst}
use Rattle.pig_outside.specs.declared.faults.OutsideError.{OutsideError}
use Rattle.pig_map.specs.Working.{Leaves}

never_err : {T E : Type 0} (x : T) (e : E) → Ok x ≡ Err e → ⊥
never_err x e is = subst (λ r. MatchResult r (λ _. ⊤) (λ _. ⊥)) is tt

module _ {H I A S K T : Type 0} (inputs : H → I) (begun : H → A) (faults : H → ℕ) (kept : S → K) (won : S → Type 0) (host : H) (stop : S) where
  -- what a call made is something else, too
  pub leaves_as : (host' : H) (stop' : S) (r : Result (Option T) OutsideError) (P Q : T → Type 0)
      → Leaves inputs begun faults kept won host host' stop stop' r P → IfOk r (λ o. IfSome o Q)
      → Leaves inputs begun faults kept won host host' stop stop' r Q
  leaves_as host' stop' r P Q h made = record { made = made; stopped = h.stopped; same_kept = h.same_kept; read = h.read }

  -- of what a call made something else was made
  pub leaves_made : {U : Type 0} (host' : H) (stop' : S) (r : Result (Option U) OutsideError) (P : U → Type 0) (Q : T → Type 0) (x : T)
      → Leaves inputs begun faults kept won host host' stop stop' r P → Q x
      → Leaves inputs begun faults kept won host host' stop stop' (Ok (Some x)) Q
  leaves_made host' stop' r P Q x h is = record {
    made = is;
    stopped = tt;
    same_kept = h.same_kept;
    read = record {
      same_inputs = h.read.same_inputs;
      same_begun = h.read.same_begun;
      cause = record { later = h.read.cause.later; failed = λ e. absurd (never_err _ _ e) };
    };
  }

  -- something was made without a look at the host
  pub leaves_all : (Q : T → Type 0) (x : T) → Q x → Leaves inputs begun faults kept won host host stop stop (Ok (Some x)) Q
  leaves_all Q x is = record {
    made = is;
    stopped = tt;
    same_kept = refl;
    read = record { same_inputs = refl; same_begun = refl; cause = record { later = omega arith; failed = λ e. absurd (never_err _ _ e) } };
  }
