-- What the words of a command line hold of parameters.
use Rattle.std.specs.Prelude.{ℕ, List, [], ◌∷◌, length, drop, codes, nat_eq, nat_le, Option, Some, None, if◌then◌else◌}
use Rattle.std.specs.List.{starts_with}
use Rattle.std.specs.Option.{option_map}
use Rattle.std.specs.Str.{bytes_eq}
use Rattle.pig_value.specs.Results.{◌>>=◌}
use Rattle.pig_params.specs.Cuts.{cut_at}
use Rattle.pig_params.specs.Names.{is_name}
use Rattle.pig_params.specs.Substitution.{Named}

-- what a word is
pub data Mark : Type 0 where
  -- `--`, behind which nothing is taken
  dashes : Mark
  -- `--param`, whose parameter is the next word
  apart : Mark
  -- `--param=` with its parameter
  with_param : List ℕ → Mark
  -- any other, which is left
  other : Mark

abbrev pub mark_of : List ℕ → Mark
mark_of word =
    if bytes_eq word (codes "--") then dashes else
    (if bytes_eq word (codes "--param") then apart else
    (if starts_with nat_eq word (codes "--param=") then with_param (drop 8 word) else other))

-- the parameter that is given as `n=v`: n is a name, and v all that stands behind the first `=`
abbrev pub param_of : List ℕ → Option Named
param_of bs = cut_at 61 bs >>= (λ p. if is_name p.0 then Some p else None)

-- the words that are left, and the parameters
abbrev pub Parted : Type 0
Parted = List (List ℕ) × List Named

abbrev pub and_word : List ℕ → Parted → Parted
and_word word p = (word ∷ p.0, p.1)

abbrev pub and_param : Named → Parted → Parted
and_param param p = (p.0, param ∷ p.1)

-- the parameter of a text, before what is taken of the words behind it
abbrev pub with_text : List ℕ → Option Parted → Option Parted
with_text bs later = param_of bs >>= (λ param. option_map (and_param param) later)

-- the last word, which has none behind it
abbrev pub last_word : List ℕ → Mark → Option Parted
last_word word dashes = Some (word ∷ [], [])
last_word word apart = None
last_word word (with_param bs) = with_text bs (Some ([], []))
last_word word other = Some (word ∷ [], [])

-- a word and the next, with what is taken of the words from the next on, and behind it
abbrev pub first_word : List ℕ → List ℕ → List (List ℕ) → Mark → Option Parted → Option Parted → Option Parted
first_word word next more dashes from behind = Some (word ∷ next ∷ more, [])
first_word word next more apart from behind = with_text next behind
first_word word next more (with_param bs) from behind = with_text bs from
first_word word next more other from behind = option_map (and_word word) from

-- words parted from left to right, up to the first `--`; nothing, where a parameter is none
abbrev pub parted : List (List ℕ) → Option Parted
parted [] = Some ([], [])
parted (word ∷ []) = last_word word (mark_of word)
parted (word ∷ next ∷ more) = first_word word next more (mark_of word) (parted (next ∷ more)) (parted more)

-- at most 64 parameters
abbrev pub few : Parted → Option Parted
few p = if nat_le (length p.1) 64 then Some p else None

-- what is taken of words, where they are well used
abbrev pub taken : List (List ℕ) → Option Parted
taken words = parted words >>= few
