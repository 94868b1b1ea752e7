-- Results and options: what waits beside one, and one after another.
use Rattle.std.specs.Prelude.{Option}
use Rattle.std.specs.Option.{option_and_then}
use Rattle.std.specs.declared.result.Result.{Result}
use Rattle.std.specs.declared.result.Result.TheVariants.{Ok, Err}

-- what is kept, beside what was made
abbrev pub beside : {A B E : Type 0} → A → Result B E → Result (A × B) E
beside kept (Ok made) = Ok (kept, made)
beside kept (Err e) = Err e

-- what is found of what was found, or nothing
infixl 10 ◌>>=◌
abbrev pub ◌>>=◌ : {A B : Type 0} → Option A → (A → Option B) → Option B
found >>= next = option_and_then next found
