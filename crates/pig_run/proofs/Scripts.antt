-- What the bytes that were read of a script say of it, where one byte more than the limit is asked for.
use Rattle.std.proofs.Common.{◌≡◌, Result, Ok, Err, IfErr, ℕ, ◌+◌, ◌<◌, ◌≤◌, ◌^◌, true, false, List, [], ◌∷◌, ◌++◌, Option, Some, None, take, length, refl, sym, ◌∙◌, subst, arith, inl, inr, ◌⊎◌}
use Rattle.std.specs.Option.{is_some, unwrap_or}
use Rattle.std.proofs.lemmas.Bool.{cases_lt}
use Rattle.std.proofs.lemmas.List.{length-take, take_all}
use Rattle.pig_outside.specs.Calls.{DepotCall}
use Rattle.pig_outside.specs.Shelf.{Shelf, script_of}
use Rattle.pig_outside.specs.declared.failing.Method.TheVariants as method
use Rattle.pig_params.specs.Substitution.{Named}
use Rattle.pig_plan.specs.Plans.{plan_of, PlanNode}
use Rattle.pig_run.specs.declared.reading.Checked.{Checked}
use Rattle.pig_run.specs.declared.outcome.RunFault.{RunFault}
use Rattle.pig_run.specs.declared.outcome.RunFault.TheVariants as fault
use Rattle.pig_run.specs.declared.outcome.TooLarge.TheVariants as large
use Rattle.pig_run.specs.Due.{PlanStage, ScriptDue, call, script_found, script_missing, script_refused}
use Rattle.pig_run.specs.Looking.{IsRead}
use Rattle.pig_run.specs.Reading.{Faulty, Finding, IsFound, Typed, Verdict, too_long}
use Rattle.pig_run.specs.Refusals.{no_script, too_large}
use Rattle.pig_run.specs.Steps.{DepotCause, IsLookFault, IsPlanFault, IsReadFault, Passes, Step, StopsIn, TellsPlan}
use Rattle.pig_run.specs.Told.{Asked, IsPrefix}
use Rattle.pig_run.proofs.Deciding.{just, not_none}
use Rattle.pig_run.proofs.Readings.{PlanLaws, one_found}

pub is_read : (n : ℕ) (o : Option (List ℕ)) (bytes : List ℕ) → true ≡ is_some o → bytes ≡ [] ++ take (n + 1) (unwrap_or o []) → IsRead n o bytes
is_read n None bytes h k = absurd (cc)
is_read n (Some script) bytes h k = record { script = script; there = refl; front = k }

pub is_missing : (o : Option (List ℕ)) → false ≡ is_some o → o ≡ None
is_missing None h = refl
is_missing (Some script) h = absurd (cc)

whole : (n : ℕ) (script : List ℕ) → length (take (n + 1) script) ≤ n → take (n + 1) script ≡ script
whole n script h = let e = length-take (n + 1) script in take_all (n + 1) script (omega (arith, e))

module _ (laws : PlanLaws) (given : List Named) (path : List ℕ) (s : Shelf) (next : PlanStage) where
  -- what the front of a script is found to be, the whole script is
  found_whole : (n : ℕ) → n ≡ 2 ^ 20 → (bytes : List ℕ) (r : IsRead n (script_of path s) bytes) → (found : Finding) → IsFound given bytes found → IsFound given r.script found
  found_whole n limit bytes r found is = elim (cases_lt n (length bytes)) [
    | inl long ↦
        (let more : n < length r.script = not_shorter (subst (λ b. n < length b) r.front long) in
        let big : IsFound given bytes (Faulty (too_large large.Script)) = too_long (subst (λ m. m < length bytes) limit long) in
        let same : Faulty (too_large large.Script) ≡ found = one_found laws given bytes (Faulty (too_large large.Script)) found big is in
        subst (IsFound given r.script) same (too_long (subst (λ m. m < length r.script) limit more)))
    | inr few ↦
        (let same : bytes ≡ r.script = r.front ∙ whole n r.script (subst (λ b. length b ≤ n) r.front few) in
        subst (λ b. IsFound given b found) same is)
  ]
    where
      not_shorter : n < length (take (n + 1) r.script) → n < length r.script
      not_shorter h = let e = length-take (n + 1) r.script in omega (arith, h, e)

  begins : (asked : List DepotCall) (v : Verdict) → ScriptDue given path s next asked v → IsPrefix (call method.Script path ∷ []) asked
  begins _ _ (script_missing h) = ([], refl)
  begins _ _ (script_refused h is) = ([], refl)
  begins _ v (script_found {asked = more} h is due) = (more, refl)

  -- where the script is found to be a plan, the next stage is due behind it
  module _ (script : List ℕ) (there : script_of path s ≡ Some script) (n : ℕ) (plan : List PlanNode) (is : IsFound given script (Typed n plan)) where
    pub plan_behind : (all : List DepotCall) (v : Verdict) → ScriptDue given path s next all v → (more : List DepotCall) × (all ≡ (call method.Script path ∷ []) ++ more) × next n plan more v
    plan_behind _ _ (script_missing h) = not_none (sym h ∙ there)
    plan_behind _ _ (script_refused {script = t} {refusal = r} h js) =
        absurd (let e = one_found laws given script (Typed n plan) (Faulty r) is (subst (λ x. IsFound given x (Faulty r)) (just (sym h ∙ there)) js) in cc)
    plan_behind _ v (script_found {script = t} {n = m} {plan = q} {asked = more} h js due) =
        let e = one_found laws given script (Typed m q) (Typed n plan) (subst (λ x. IsFound given x (Typed m q)) (just (sym h ∙ there)) js) is in
        let same : q ≡ plan = cc in
        let number : m ≡ n = cc in
        (more, refl, subst (λ i. next i plan more v) number (subst (λ x. next m x more v) same due))

  module _ (old new : Option (List DepotCall)) (asked : Asked (call method.Script path ∷ []) old new) where
    pub script_broken : (f : RunFault) → IsLookFault f → StopsIn (ScriptDue given path s next) old new f
    script_broken f free = record { made = call method.Script path ∷ []; asked = asked; ends = inr (record { free = free; first = begins }) }

    pub script_gone : script_of path s ≡ None → StopsIn (ScriptDue given path s next) old new fault.NoScript
    script_gone none = record { made = call method.Script path ∷ []; asked = asked; ends = inl (record { refusal = no_script; due = script_missing none; names = refl }) }

    script_is : (script : List ℕ) → script_of path s ≡ Some script → (n : ℕ) (plan : List PlanNode) → IsFound given script (Typed n plan) → Passes (ScriptDue given path s next) (next n plan) old new
    script_is script there n plan is = record {
      made = call method.Script path ∷ [];
      asked = asked;
      hands = record { on = λ more v due. script_found there is due; back = plan_behind script there n plan is };
    }

    -- how the reading of a script that is there ends
    pub script_step : (n : ℕ) → n ≡ 2 ^ 20 → (bytes : List ℕ) → IsRead n (script_of path s) bytes → (result : Result Checked RunFault) → TellsPlan (IsFound given bytes) result
        → Step (ScriptDue given path s next) (λ c. next c.statements (plan_of c.plan)) old new result
    script_step n limit bytes r (Ok c) h = script_is r.script r.there c.statements (plan_of c.plan) (found_whole n limit bytes r (Typed c.statements (plan_of c.plan)) h)
    script_step n limit bytes r (Err f) (inl h) = record {
      made = call method.Script path ∷ [];
      asked = asked;
      ends = inl (record { refusal = h.0; due = script_refused r.there (found_whole n limit bytes r (Faulty h.0) h.1); names = h.2 });
    }
    script_step n limit bytes r (Err f) (inr h) = script_broken f (inr h)

    -- the bytes could not be had
    pub script_stops : (f : RunFault) → ((f ≡ fault.NoScript) × (script_of path s ≡ None)) ⊎ IsLookFault f → StopsIn (ScriptDue given path s next) old new f
    script_stops f (inl (is, none)) = subst (λ g. StopsIn (ScriptDue given path s next) old new g) (sym is) (script_gone none)
    script_stops f (inr free) = script_broken f free

-- a fault of reading is one of the steps before the run, and blames no device
pub plan_fault : (f : RunFault) → IsReadFault f → IsPlanFault f
plan_fault (fault.Param offset) h = tt
plan_fault (fault.Lex offset) h = tt
plan_fault (fault.Syntax n) h = tt
plan_fault (fault.Check n kind) h = tt
plan_fault (fault.TooLarge which) h = tt
plan_fault fault.OutOfMemory h = tt
plan_fault f h = absurd h

no_device : (f : RunFault) (store : Option ℕ) → IsReadFault f → f ≡ fault.DepotFault store → ⊥
no_device f store h is = let e : IsReadFault (fault.DepotFault store) = subst IsReadFault is h in e

err_same : {f g : RunFault} → ◌≡◌ {A = Result Checked RunFault} (Err f) (Err g) → f ≡ g
err_same e = cc

pub read_cause : (before now : ℕ) (result : Result Checked RunFault) → before ≤ now → IfErr result IsReadFault → DepotCause before now result
read_cause before now (Ok plan) later h = record { later = later; failed = λ store e. absurd (cc) }
read_cause before now (Err f) later h = record { later = later; failed = λ store e. absurd (no_device f store h (err_same e)) }

pub read_fault : (result : Result Checked RunFault) → IfErr result IsReadFault → IfErr result IsPlanFault
read_fault (Ok plan) h = tt
read_fault (Err f) h = plan_fault f h
