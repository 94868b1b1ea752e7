-- What a script is with the values of parameters in the place of their names.
-- (Pig Latin Basics: "Parameter Substitution".)
use Rattle.std.specs.Prelude.{ℕ, ◌+◌, ◌==◌, ◌<◌, List, [], ◌∷◌, ◌++◌, length, map, reverse, Option, Some, None, if◌then◌else◌}
use Rattle.std.specs.List.{slice_split, filter_map, sum_by}
use Rattle.std.specs.Map.{lookup}
use Rattle.std.specs.Str.{bytes_eq}
use Rattle.std.specs.declared.result.Result.{Result}
use Rattle.std.specs.declared.result.Result.TheVariants.{Ok, Err}
use Rattle.pig_value.specs.Results.{◌>>=◌}
use Rattle.pig_params.specs.Cuts.{is_byte}
use Rattle.pig_params.specs.Names.{name_at}
use Rattle.pig_params.specs.Directives.{Line, ordinary, directive, off, line_of}
use Rattle.pig_params.specs.declared.directives.Word.TheVariants.{Declare, Default}

-- a name and its value
abbrev pub Named : Type 0
Named = List ℕ × List ℕ

-- ---- which value a name has

-- the value of the last of a name
abbrev pub last_of : List ℕ → List Named → Option (List ℕ)
last_of name given = lookup (λ key. bytes_eq key name) (reverse given)

abbrev pub or_else : {A : Type 0} → Option A → Option A → Option A
or_else (Some first) second = Some first
or_else None second = second

abbrev pub declared_by : Line → Option Named
declared_by (directive Declare name value) = Some (name, value)
declared_by (directive Default name value) = None
declared_by ordinary = None
declared_by (off before) = None

abbrev pub defaulted_by : Line → Option Named
defaulted_by (directive Declare name value) = None
defaulted_by (directive Default name value) = Some (name, value)
defaulted_by ordinary = None
defaulted_by (off before) = None

-- what the `%declare`s of lines give, and what their `%default`s do
abbrev pub declared : List (List ℕ) → List Named
declared lines = filter_map (λ line. declared_by (line_of line)) lines

abbrev pub defaulted : List (List ℕ) → List Named
defaulted lines = filter_map (λ line. defaulted_by (line_of line)) lines

-- The value of a name at a line: that of the last `%declare` above, else the given one, else that of the last `%default`
-- above.
abbrev pub value_at : List Named → List (List ℕ) → List ℕ → Option (List ℕ)
value_at given above name = or_else (last_of name (declared above)) (or_else (last_of name given) (last_of name (defaulted above)))

-- ---- what is put for a part of a script: its text, or the offset of what is missing

abbrev pub Outcome : Type 0
Outcome = Result (List ℕ) ℕ

-- one text behind another; what is missing first counts
abbrev pub behind : List ℕ → Outcome → Outcome
behind front (Ok text) = Ok (front ++ text)
behind front (Err offset) = Err offset

abbrev pub both : Outcome → Outcome → Outcome
both (Ok text) next = behind text next
both (Err offset) next = Err offset

abbrev pub joined : List Outcome → Outcome
joined [] = Ok []
joined (part ∷ parts) = both part (joined parts)

abbrev pub closed : List ℕ × List ℕ → Option (List ℕ × List ℕ)
closed (name, []) = None
closed (name, b ∷ rest) = if b == 125 then Some (name, rest) else None

-- a name and the `}` behind it
abbrev pub closed_at : List ℕ → Option (List ℕ × List ℕ)
closed_at bs = name_at bs >>= closed

-- the name behind a `$`, as `n` or `{n}`, and what stands behind it
abbrev pub use_at : List ℕ → Option (List ℕ × List ℕ)
use_at [] = None
use_at (b ∷ bs) = if b == 123 then closed_at bs else name_at (b ∷ bs)

abbrev pub put_value : ℕ → List ℕ → Option (List ℕ) → Outcome
put_value at rest (Some value) = Ok (value ++ rest)
put_value at rest None = Err at

module _ (value_of : List ℕ → Option (List ℕ)) where
  abbrev pub put_use : ℕ → List ℕ → Option (List ℕ × List ℕ) → Outcome
  put_use at part (Some use_) = put_value at use_.1 (value_of use_.0)
  put_use at part None = Ok (36 ∷ part)

  -- each part of a line that a `$` stands before, of which the first `$` is at the offset
  abbrev pub put_uses : ℕ → List (List ℕ) → List Outcome
  put_uses at [] = []
  put_uses at (part ∷ parts) = put_use at part (use_at part) ∷ put_uses (at + (length part + 1)) parts

  -- the parts of a line, cut at each `$`
  abbrev pub put_parts : ℕ → List (List ℕ) → List Outcome
  put_parts at [] = []
  put_parts at (front ∷ parts) = Ok front ∷ put_uses (at + length front) parts

  -- a line that begins at the offset
  abbrev pub put_line : ℕ → List ℕ → Line → Outcome
  put_line at line ordinary = joined (put_parts at (slice_split (is_byte 36) line))
  put_line at line (directive word name value) = Ok []
  put_line at line (off before) = Err (at + before)

-- each line with the lines above it, behind those that stand above the first
abbrev pub with_above : List (List ℕ) → List (List ℕ) → List (List (List ℕ) × List ℕ)
with_above above [] = []
with_above above (line ∷ lines) = (above, line) ∷ with_above (above ++ line ∷ []) lines

-- where a line begins: behind the lines above, and the LF of each
abbrev pub start_behind : List (List ℕ) → ℕ
start_behind above = sum_by (λ line. length line + 1) above

-- what is put for a line below others
abbrev pub line_put : List Named → List (List ℕ) × List ℕ → Outcome
line_put given (above, line) = put_line (value_at given above) (start_behind above) line (line_of line)

-- one behind the other, with an LF between each two
abbrev pub joined_by_lf : List Outcome → Outcome
joined_by_lf [] = Ok []
joined_by_lf (last ∷ []) = last
joined_by_lf (part ∷ next ∷ more) = both part (behind (10 ∷ []) (joined_by_lf (next ∷ more)))

-- a script with the values in it, or the offset of the first place where one is missing
abbrev pub substituted : List Named → List ℕ → Outcome
substituted given script = joined_by_lf (map (line_put given) (with_above [] (slice_split (is_byte 10) script)))

-- nothing is missing, and the text is longer
abbrev pub IsLonger : ℕ → Outcome → Type 0
IsLonger most (Ok text) = most < length text
IsLonger most (Err offset) = ⊥
