-- What the text is that is being made, of which nothing is kept once it is too long.
use Rattle.std.specs.Prelude.{◌≡◌, ◌≤◌, ◌<◌, ℕ, true, false, List, ◌++◌, length, ⊤}
use Rattle.std.specs.declared.result.Result.TheVariants.{Ok, Err}
use Rattle.pig_params.specs.Substitution.{Outcome}
use Rattle.pig_params.specs.declared.faults.ParamFault.{ParamFault}
use Rattle.pig_params.specs.declared.faults.ParamFault.TheVariants as fault
use Rattle.pig_params.specs.declared.making.Made.{Made}

-- the text, where it may be as long as it is
pub record IsMade (text : List ℕ) (m : Made) : Type 0 where
  pub kept : m.over ≡ false → (m.bytes.items ≡ text) × (length text ≤ m.most)
  pub over : m.over ≡ true → m.most < length text

-- text is put behind what is made
abbrev pub Puts : List ℕ → Made → Made → Type 0
Puts text old new = (front : List ℕ) → IsMade front old → IsMade (front ++ text) new

-- what was put is the outcome's text
pub record PutsOutcome (outcome : Outcome) (old new : Made) : Type 0 where
  pub text : List ℕ
  pub is : outcome ≡ Ok text
  pub puts : Puts text old new

-- a refusal that the outcome gives, or want of memory
abbrev pub IsCause : Outcome → ParamFault → Type 0
IsCause outcome (fault.Missing offset) = outcome ≡ Err offset
IsCause outcome fault.TooLong = ⊥
IsCause outcome fault.OutOfMemory = ⊤
