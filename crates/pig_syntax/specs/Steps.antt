-- What one step of the lexer finds.
use Rattle.std.specs.Prelude.{◌≡◌, ◌<◌, ℕ, List, length, Some}
use Rattle.pig_syntax.specs.declared.lexing.Ahead.{Ahead}
use Rattle.pig_syntax.specs.declared.lexing.Ahead.TheVariants as ahead
use Rattle.pig_syntax.specs.Tokens.{Begins, Stops, after_gap}

-- white space, a comment or a token, and the bytes behind it, of which there are fewer; or nothing
abbrev pub IsAhead : List ℕ → Ahead → Type 0
IsAhead bs (ahead.Gap rest) = (after_gap bs ≡ Some rest.now) × (length rest.now < length bs)
IsAhead bs (ahead.Token form rest) = Begins bs form rest.now × (length rest.now < length bs)
IsAhead bs ahead.Nothing = Stops bs
