-- A call that ends by no fault of the depot blames it for nothing.
use Rattle.std.proofs.Common.{◌≡◌, ℕ, Option, Some, None, Result, Ok, Err, IfErr, arith}
use Rattle.pig_plan.specs.Plans.{Plan}
use Rattle.pig_physical.specs.Stages.{Stages}
use Rattle.pig_work.specs.Working.{Tellings}
use Rattle.pig_run.specs.declared.outcome.RunFault.{RunFault}
use Rattle.pig_run.specs.declared.outcome.RunFault.TheVariants as fault
use Rattle.pig_run.specs.declared.progress.Progress.{Progress}
use Rattle.pig_run.specs.Running.{EndsFinding, lost, no_room, not_met}
use Rattle.pig_run.specs.Steps.{DepotCause, StoreBlame}

abbrev pub IsNoDepot : RunFault → Type 0
IsNoDepot f = (store : Option ℕ) → ¬ (f ≡ fault.DepotFault store)

err_of : {T : Type 0} {f g : RunFault} → ◌≡◌ {A = Result T RunFault} (Err f) (Err g) → f ≡ g
err_of e = cc

ok_err : {T : Type 0} {x : T} {g : RunFault} → ◌≡◌ {A = Result T RunFault} (Ok x) (Err g) → ⊥
ok_err e = cc

pub no_cause : {T : Type 0} (n : ℕ) (result : Result T RunFault) → IfErr result IsNoDepot → DepotCause n n result
no_cause n (Ok x) h = record { later = omega arith; failed = λ store e. absurd (ok_err e) }
no_cause n (Err f) h = record { later = omega arith; failed = λ store e. absurd (h store (err_of e)) }

pub no_blame : {T : Type 0} (n : ℕ) (result : Result T RunFault) → IfErr result IsNoDepot → StoreBlame n n result
no_blame n (Ok x) h = record { later = omega arith; store = λ number e. absurd (ok_err e); lookup = λ e. absurd (ok_err e) }
no_blame n (Err f) h = record { later = omega arith; store = λ number e. absurd (h (Some number) (err_of e)); lookup = λ e. absurd (h None (err_of e)) }

-- waves end by tasks, by an ASSERT or by memory
pub ends_unblamed : {plan : Plan} {s : Stages} {limit : ℕ} {tellings : Tellings} {progress : Progress} (f : RunFault) → EndsFinding plan s limit tellings progress f → IsNoDepot f
ends_unblamed _ (lost {wave = w} {task = t} {failed = n} given_up quiet silent) = λ store e. let wrong : fault.TaskFailed w t n ≡ fault.DepotFault store = e in cc
ends_unblamed _ (not_met {n = n} won unmet stands said) = λ store e. let wrong : fault.AssertFailed n ≡ fault.DepotFault store = e in cc
ends_unblamed _ (no_room won quiet silent) = λ store e. let wrong : fault.OutOfMemory ≡ fault.DepotFault store = e in cc
