-- The statements of a script as ranges of its tokens, and how deep the brackets of a statement nest.
use Rattle.std.specs.Prelude.{◌≡◌, ◌<◌, ◌≤◌, ◌+◌, ℕ, Bool, true, false, List, [], ◌∷◌, length, take, slice_get, Some}
use Rattle.std.specs.List.{count_by, slice_range}
use Rattle.std.specs.Option.{option_map}
use Rattle.pig_syntax.specs.declared.cutting.Piece.{Piece}
use Rattle.pig_syntax.specs.declared.tokens.Keyword.TheVariants as k
use Rattle.pig_syntax.specs.declared.tokens.Symbol.TheVariants as s
use Rattle.pig_syntax.specs.declared.tokens.Token.{Token}
use Rattle.pig_syntax.specs.declared.tokens.TokenForm.{TokenForm}
use Rattle.pig_syntax.specs.declared.tokens.TokenForm.TheVariants as f

-- ---- statements

-- the form is `;`
abbrev pub is_semicolon : TokenForm → Bool
is_semicolon (f.Symbol s.Semicolon) = true
is_semicolon _ = false

-- the form is `{`
abbrev pub is_open_brace : TokenForm → Bool
is_open_brace (f.Symbol s.OpenBrace) = true
is_open_brace _ = false

-- the form is `}`
abbrev pub is_close_brace : TokenForm → Bool
is_close_brace (f.Symbol s.CloseBrace) = true
is_close_brace _ = false

-- the number of `{` among the tokens
abbrev pub open_braces : List Token → ℕ
open_braces ts = count_by (λ t. is_open_brace t.form) ts

-- the number of `}` among the tokens
abbrev pub close_braces : List Token → ℕ
close_braces ts = count_by (λ t. is_close_brace t.form) ts

-- a `;` ends the statement that starts at this place: since its start there are at most as many `{` as `}`
pub record IsCut (ts : List Token) (start at : ℕ) : Type 0 where
  pub behind : start ≤ at
  pub mark : option_map (λ t. is_semicolon t.form) (slice_get ts at) ≡ Some true
  pub closed : open_braces (slice_range ts start at) ≤ close_braces (slice_range ts start at)

-- no `;` before this place ends the statement
unfoldable pub NoCut : List Token → ℕ → ℕ → Type 0
NoCut ts start to = (at : ℕ) → at < to → IsCut ts start at → ⊥

-- the statements from a place on. A statement goes up to the first `;` that ends it, and the next one starts behind this `;`. Tokens
-- that no such `;` follows are a last statement
pub data Statements (ts : List Token) : ℕ → List Piece → Type 0 where
  none : {start : ℕ} → start ≡ length ts → Statements ts start []
  last : {start : ℕ} → start < length ts → NoCut ts start (length ts) → Statements ts start (record { «from» = start; to = length ts } ∷ [])
  next : {start at : ℕ} {ps : List Piece} → IsCut ts start at → NoCut ts start at → Statements ts (at + 1) ps → Statements ts start (record { «from» = start; to = at } ∷ ps)

-- these are the statements of the tokens
abbrev pub AreStatements : List Token → List Piece → Type 0
AreStatements ts ps = Statements ts 0 ps

-- the piece lies within the tokens
pub record IsWithin (ts : List Token) (p : Piece) : Type 0 where
  pub ordered : p.from ≤ p.to
  pub ends : p.to ≤ length ts

-- the tokens of a piece
abbrev pub piece_of : List Token → Piece → List Token
piece_of ts p = slice_range ts p.from p.to

-- ---- brackets

-- the form opens a bracket: `(`, `{`, `[` or CASE
abbrev pub opens_bracket : TokenForm → Bool
opens_bracket (f.Symbol s.OpenParen) = true
opens_bracket (f.Symbol s.OpenBrace) = true
opens_bracket (f.Symbol s.OpenBracket) = true
opens_bracket (f.Keyword k.Case) = true
opens_bracket _ = false

-- the form closes a bracket: `)`, `}`, `]` or END
abbrev pub closes_bracket : TokenForm → Bool
closes_bracket (f.Symbol s.CloseParen) = true
closes_bracket (f.Symbol s.CloseBrace) = true
closes_bracket (f.Symbol s.CloseBracket) = true
closes_bracket (f.Keyword k.End) = true
closes_bracket _ = false

-- the number of brackets that the tokens open
abbrev pub opened : List Token → ℕ
opened ts = count_by (λ t. opens_bracket t.form) ts

-- the number of brackets that the tokens close
abbrev pub closed : List Token → ℕ
closed ts = count_by (λ t. closes_bracket t.form) ts

-- the greatest number of opened minus closed brackets over the prefixes of the tokens, the empty one included
pub record IsDepth (ts : List Token) (depth : ℕ) : Type 0 where
  pub most : (n : ℕ) → n ≤ length ts → opened (take n ts) ≤ depth + closed (take n ts)
  pub place : ℕ
  pub within : place ≤ length ts
  pub reached : opened (take place ts) ≡ depth + closed (take place ts)
