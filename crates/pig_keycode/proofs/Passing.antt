-- A part that isn't there makes the whole not there.
use Rattle.std.proofs.Common.{◌≡◌, ℕ, List, sym, subst}
use Rattle.std.specs.Borrow.{Bor}
use Rattle.std.specs.declared.result.Result.{Result}
use Rattle.std.specs.declared.result.Result.TheVariants.{Err}
use Rattle.pig_keycode.specs.Reading.{Reads, NoneFirst}
use Rattle.pig_keycode.specs.declared.decoding.ReadFault.{ReadFault}
use Rattle.pig_keycode.specs.declared.decoding.ReadFault.TheVariants as fault

module _ {V X W Y : Type 0} (view : V → X) (write : X → List ℕ) (Good : X → Type 0) (part_view : W → Y) (part : Y → List ℕ) (Fine : Y → Type 0) where
  passes : (bytes from : List ℕ) (e : ReadFault) → (NoneFirst part Fine from → NoneFirst write Good bytes) → Reads part_view part Fine from (Err e) → Reads view write Good bytes (Err e)
  passes bytes from fault.Off none h = none h
  passes bytes from fault.OutOfMemory none h = tt

  pub passes_on : (bytes from : List ℕ) (e : ReadFault) (result : Result (V × Bor (List ℕ)) ReadFault) → result ≡ Err e → Reads part_view part Fine from (Err e) → (NoneFirst part Fine from → NoneFirst write Good bytes) → Reads view write Good bytes result
  passes_on bytes from e result is h none = subst (Reads view write Good bytes) (sym is) (passes bytes from e none h)
