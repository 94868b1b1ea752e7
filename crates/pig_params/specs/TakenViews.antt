-- What is taken of words in the code, as plain data.
use Rattle.std.specs.Prelude.{◌≡◌, ◌≤◌, ◌⊎◌, ℕ, List, [], ◌∷◌, ◌++◌, length, map, Option, Some, None, ⊤}
use Rattle.std.specs.Option.{option_map}
use Rattle.pig_value.specs.Results.{◌>>=◌}
use Rattle.pig_params.specs.Given.{named_of}
use Rattle.pig_params.specs.ParamWords as plain
use Rattle.pig_params.specs.ParamWords.{Parted, few, param_of}
use Rattle.pig_params.specs.Substitution.{Named}
use Rattle.pig_params.specs.declared.words.Mark.{Mark}
use Rattle.pig_params.specs.declared.words.Mark.TheVariants as mark
use Rattle.pig_params.specs.declared.words.Taken.{Taken}

abbrev pub mark_view : Mark → plain.Mark
mark_view mark.Dashes = plain.dashes
mark_view mark.Apart = plain.apart
mark_view (mark.Joined text) = plain.with_param text.now
mark_view mark.Other = plain.other

-- the words that are left, and the parameters
abbrev pub parted_of : Taken → Parted
parted_of t = (t.rest, map named_of t.params)

-- what was taken, and then what is taken of the words behind
abbrev pub and_then : Parted → Parted → Parted
and_then first later = (first.0 ++ later.0, first.1 ++ later.1)

abbrev pub taken_and : Taken → List (List ℕ) → Option Parted
taken_and t words = option_map (and_then (parted_of t)) (plain.parted words)

-- the words become those that are left, as something is taken
abbrev pub Takes : List (List ℕ) → List (List ℕ) → Taken → Taken → Type 0
Takes words left old new = taken_and old words ≡ taken_and new left

-- nothing is taken, or too much
abbrev pub IsUseless : Option Parted → Type 0
IsUseless found = (found >>= few) ≡ None

-- the parameter of a text comes behind those that are taken
pub record AddsParam (text : List ℕ) (old new : Taken) : Type 0 where
  pub param : Named
  pub is : param_of text ≡ Some param
  pub params : map named_of new.params ≡ map named_of old.params ++ param ∷ []
  pub rest : new.rest ≡ old.rest

-- the text gives no parameter, or as many are taken as there may be
abbrev pub NoParam : List ℕ → Taken → Type 0
NoParam text t = (param_of text ≡ None) ⊎ (64 ≤ length t.params)

-- the first of words gives a parameter
pub record TakesText (words left : List (List ℕ)) (old new : Taken) : Type 0 where
  pub text : List ℕ
  pub is : words ≡ text ∷ left
  pub adds : AddsParam text old new

abbrev pub NoText : List (List ℕ) → Taken → Type 0
NoText [] t = ⊤
NoText (text ∷ words) t = NoParam text t
