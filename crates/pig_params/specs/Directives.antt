-- Lines of a script that give parameters values: `%declare` and `%default`.
-- (Pig Latin Basics: "Parameter Substitution".)
use Rattle.std.specs.Prelude.{ℕ, Bool, ◌==◌, ◌||◌, not, true, false, List, [], ◌∷◌, take, drop, codes, Option, Some, None, if◌then◌else◌}
use Rattle.std.specs.List.{prefix_len}
use Rattle.std.specs.Option.{option_map}
use Rattle.std.specs.Str.{str_eq_ignore_ascii_case}
use Rattle.pig_value.specs.Results.{◌>>=◌}
use Rattle.pig_params.specs.Cuts.{cut_at}
use Rattle.pig_params.specs.Names.{name_at}
use Rattle.pig_params.specs.declared.directives.Word.{Word}
use Rattle.pig_params.specs.declared.directives.Word.TheVariants.{Declare, Default}

pub data Line : Type 0 where
  -- no candidate
  ordinary : Line
  -- a directive, with the name and its value
  directive : Word → List ℕ → List ℕ → Line
  -- a candidate that is no directive, and the number of blanks before its `%`
  off : ℕ → Line

-- a space or a tab
abbrev pub is_blank : ℕ → Bool
is_blank b = b == 32 || b == 9

abbrev pub past_blanks : List ℕ → List ℕ
past_blanks bs = drop (prefix_len is_blank bs) bs

abbrev pub word_of : List ℕ → Option Word
word_of bs = if str_eq_ignore_ascii_case bs (codes "%declare") then Some Declare else (if str_eq_ignore_ascii_case bs (codes "%default") then Some Default else None)

-- the bytes behind a blank
abbrev pub behind_blank : List ℕ → Option (List ℕ)
behind_blank [] = None
behind_blank (b ∷ bs) = if is_blank b then Some bs else None

-- the word of a candidate, in any ASCII case, and what stands behind it and a blank
abbrev pub candidate_at : List ℕ → Option (Word × List ℕ)
candidate_at bs = word_of (take 8 bs) >>= (λ word. option_map (λ rest. (word, rest)) (behind_blank (drop 8 bs)))

abbrev pub is_quote : ℕ → Bool
is_quote b = b == 39 || b == 34

-- a byte of a value without quotes
abbrev pub is_plain : ℕ → Bool
is_plain b = not (is_blank b || b == 13 || b == 59 || is_quote b)

abbrev pub plain_at : List ℕ → Option (List ℕ × List ℕ)
plain_at bs = if prefix_len is_plain bs == 0 then None else Some (take (prefix_len is_plain bs) bs, drop (prefix_len is_plain bs) bs)

-- a value, between quotes or without them, and what stands behind it
abbrev pub value_text_at : List ℕ → Option (List ℕ × List ℕ)
value_text_at [] = None
value_text_at (b ∷ bs) = if is_quote b then cut_at b bs else plain_at (b ∷ bs)

-- the bytes without such a byte in front
abbrev pub past_one : ℕ → List ℕ → List ℕ
past_one c [] = []
past_one c (b ∷ bs) = if b == c then bs else b ∷ bs

abbrev pub is_nothing : List ℕ → Bool
is_nothing [] = true
is_nothing (b ∷ bs) = false

-- at most one `;` and at most one CR, and blanks before each
abbrev pub is_end : List ℕ → Bool
is_end bs = is_nothing (past_one 13 (past_blanks (past_one 59 (past_blanks bs))))

-- a name, one or more blanks, a value, and nothing behind them
abbrev pub given_at : List ℕ → Option (List ℕ × List ℕ)
given_at bs = name_at (past_blanks bs) >>= (λ n. behind_blank n.1 >>= (λ rest. value_text_at (past_blanks rest) >>= (λ v. if is_end v.1 then Some (n.0, v.0) else None)))

-- the line that a candidate is, behind so many blanks
abbrev pub line_behind : ℕ → Word → Option (List ℕ × List ℕ) → Line
line_behind before word (Some given) = directive word given.0 given.1
line_behind before word None = off before

abbrev pub line_at : ℕ → Option (Word × List ℕ) → Line
line_at before (Some found) = line_behind before found.0 (given_at found.1)
line_at before None = ordinary

-- what a line is
abbrev pub line_of : List ℕ → Line
line_of bs = line_at (prefix_len is_blank bs) (candidate_at (past_blanks bs))
