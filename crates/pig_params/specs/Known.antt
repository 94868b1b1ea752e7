-- The values that are known while a script is gone through.
use Rattle.std.specs.Prelude.{◌≡◌, ℕ, List, ◌∷◌, ◌++◌, [], Option}
use Rattle.pig_params.specs.Substitution.{Named, or_else, last_of, declared, defaulted}
use Rattle.pig_params.specs.Tables.{found_in}
use Rattle.pig_params.specs.declared.known.Known.{Known}

-- the value of a name
abbrev pub value_in : Known → List ℕ → Option (List ℕ)
value_in k name = or_else (found_in k.fixed name) (found_in k.defaults name)

-- the values at the line that stands behind those above
pub record AreValues (given : List Named) (above : List (List ℕ)) (k : Known) : Type 0 where
  pub fixed : (name : List ℕ) → found_in k.fixed name ≡ or_else (last_of name (declared above)) (last_of name given)
  pub defaults : (name : List ℕ) → found_in k.defaults name ≡ last_of name (defaulted above)

-- a line is passed, and stands above then
abbrev pub Passes : List ℕ → Known → Known → Type 0
Passes line old new = (given : List Named) (above : List (List ℕ)) → AreValues given above old → AreValues given (above ++ line ∷ []) new
