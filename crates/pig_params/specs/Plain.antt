-- Scripts without parameters.
use Rattle.std.specs.Prelude.{◌≡◌, ℕ, false, List}
use Rattle.std.specs.List.{list_any}
use Rattle.std.specs.declared.result.Result.TheVariants.{Ok}
use Rattle.pig_params.specs.Cuts.{is_byte}
use Rattle.pig_params.specs.Substitution.{Named, substituted}

abbrev pub HasNo : ℕ → List ℕ → Type 0
HasNo c bs = list_any (is_byte c) bs ≡ false

-- a script without `%` and `$` is its own result
abbrev pub PlainScriptsStay : Type 0
PlainScriptsStay = (given : List Named) (script : List ℕ) → HasNo 37 script → HasNo 36 script → substituted given script ≡ Ok script
