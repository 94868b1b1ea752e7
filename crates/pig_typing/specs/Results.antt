-- Results one after the other, and what code says of a result that a reader has.
use Rattle.std.specs.Prelude.{◌≡◌, Option, Some, None}
use Rattle.std.specs.declared.alloc.AllocError.{AllocError}
use Rattle.std.specs.declared.result.Result.{Result}
use Rattle.std.specs.declared.result.Result.TheVariants.{Ok, Err}
use Rattle.pig_typing.specs.declared.faults.CheckKind.{CheckKind}
use Rattle.pig_typing.specs.declared.faults.TypeFault.{TypeFault}
use Rattle.pig_typing.specs.declared.faults.TypeFault.TheVariants as fault

-- what is found, or the kind of refusal that is due
abbrev pub Checked : Type 0 → Type 0
Checked A = Result A CheckKind

abbrev pub checked_then : {A B : Type 0} → (A → Checked B) → Checked A → Checked B
checked_then next (Ok a) = next a
checked_then next (Err kind) = Err kind

infixl 10 ◌>>=◌
abbrev pub ◌>>=◌ : {A B : Type 0} → Checked A → (A → Checked B) → Checked B
found >>= next = checked_then next found

-- what is found, made into something else
abbrev pub checked_map : {A B : Type 0} → (A → B) → Checked A → Checked B
checked_map make (Ok a) = Ok (make a)
checked_map make (Err kind) = Err kind

-- what is there, or else this refusal
abbrev pub due : {A : Type 0} → CheckKind → Option A → Checked A
due kind (Some a) = Ok a
due kind None = Err kind

-- Code tells what is found, as seen by a view, or refuses with the kind that is due; want of memory says nothing.
abbrev pub Tells : {A B : Type 0} → (B → A) → Checked A → Result B TypeFault → Type 0
Tells view found (Ok b) = found ≡ Ok (view b)
Tells view found (Err (fault.Refused kind)) = found ≡ Err kind
Tells view found (Err fault.OutOfMemory) = Unit {0}

-- of a refusal, what is said of its kind
abbrev pub IfRefused : {B : Type 0} → Result B TypeFault → (CheckKind → Type 0) → Type 0
IfRefused (Ok b) P = Unit {0}
IfRefused (Err (fault.Refused kind)) P = P kind
IfRefused (Err fault.OutOfMemory) P = Unit {0}

-- what was made, where memory was there
abbrev pub in_memory : {A : Type 0} → Result A AllocError → Result A TypeFault
in_memory (Ok a) = Ok a
in_memory (Err e) = Err fault.OutOfMemory
