-- Texts that are put one after the other: what is done, and what is left.
use Rattle.std.proofs.Common.{◌≡◌, ◌∙◌, ℕ, List, [], ◌++◌, refl, sym, ap, subst}
use Rattle.std.proofs.lemmas.List.{append_assoc, append-nil}
use Rattle.std.specs.declared.result.Result.TheVariants.{Ok, Err}
use Rattle.pig_params.specs.declared.faults.ParamFault.{ParamFault}
use Rattle.pig_params.specs.declared.faults.ParamFault.TheVariants as fault
use Rattle.pig_params.specs.Making.{IsCause, IsMade, Puts, PutsOutcome}
use Rattle.pig_params.specs.Substitution.{Outcome, behind, both}
use Rattle.pig_params.specs.declared.making.Made.{Made}

-- Of the whole outcome so much is put, and what is left is that of the rest.
pub record Going (whole left : Outcome) (old new : Made) : Type 0 where
  pub done : List ℕ
  pub is : whole ≡ behind done left
  pub puts : Puts done old new

behind_behind : (first second : List ℕ) (o : Outcome) → behind first (behind second o) ≡ behind (first ++ second) o
behind_behind first second (Ok text) = ap Ok (sym (append_assoc first second text))
behind_behind first second (Err offset) = refl

pub both_nothing : (o : Outcome) → both o (Ok []) ≡ o
both_nothing (Ok text) = ap Ok (append-nil text)
both_nothing (Err offset) = refl

pub puts_both : (first second : List ℕ) (old mid new : Made) → Puts first old mid → Puts second mid new → Puts (first ++ second) old new
puts_both first second old mid new p q front made = subst (λ text. IsMade text new) (append_assoc front first second) (q (front ++ first) (p front made))

-- one part more is put
pub going_on : (whole part next : Outcome) (old mid new : Made) → Going whole (both part next) old mid → PutsOutcome part mid new → Going whole next old new
going_on whole part next old mid new going put = record {
  done = going.done ++ put.text;
  is = going.is ∙ ap (λ o. behind going.done (both o next)) put.is ∙ behind_behind going.done put.text next;
  puts = puts_both going.done put.text old mid new going.puts put.puts;
}

-- the last part is put
pub going_ends : (whole part : Outcome) (old mid new : Made) → Going whole part old mid → PutsOutcome part mid new → PutsOutcome whole old new
going_ends whole part old mid new going put = record {
  text = going.done ++ put.text;
  is = going.is ∙ ap (behind going.done) put.is;
  puts = puts_both going.done put.text old mid new going.puts put.puts;
}

-- what a part misses is missing in the whole
pub going_misses : (whole part next : Outcome) (old new : Made) (offset : ℕ) → Going whole (both part next) old new → part ≡ Err offset → whole ≡ Err offset
going_misses whole part next old new offset going e = going.is ∙ ap (λ o. behind going.done (both o next)) e

pub last_misses : (whole part : Outcome) (old new : Made) (offset : ℕ) → Going whole part old new → part ≡ Err offset → whole ≡ Err offset
last_misses whole part old new offset going e = going.is ∙ ap (behind going.done) e

-- a refusal of a part is one of the whole
pub cause_of_part : (whole part next : Outcome) (old new : Made) → Going whole (both part next) old new → (f : ParamFault) → IsCause part f → IsCause whole f
cause_of_part whole part next old new going (fault.Missing offset) e = going_misses whole part next old new offset going e
cause_of_part whole part next old new going fault.TooLong h = h
cause_of_part whole part next old new going fault.OutOfMemory h = h

pub cause_of_last : (whole part : Outcome) (old new : Made) → Going whole part old new → (f : ParamFault) → IsCause part f → IsCause whole f
cause_of_last whole part old new going (fault.Missing offset) e = last_misses whole part old new offset going e
cause_of_last whole part old new going fault.TooLong h = h
cause_of_last whole part old new going fault.OutOfMemory h = h
