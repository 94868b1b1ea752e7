-- The tokens of a script: what each token's text is, where a token begins, and what a script's tokens are.
use Rattle.std.specs.Prelude.{◌≡◌, ◌<◌, ◌≤◌, ◌-◌, ◌⊎◌, ℕ, pos, Bool, true, false, not, ◌&&◌, ◌||◌, ◌==◌, nat_lt, List, [], ◌∷◌, ◌++◌, length, drop, take_while, codes, Option, Some, None, option_and_then, bytes_eq, if◌then◌else◌}
use Rattle.std.specs.Char.{is_ascii_alphabetic, is_ascii_alphanumeric, is_ascii_digit, digit_value, encode_utf8, IsScalar}
use Rattle.std.specs.List.{list_all}
use Rattle.std.specs.Option.{option_map_or}
use Rattle.std.specs.Str.{IsUtf8, str_eq_ignore_ascii_case}
use Rattle.std.specs.Str.Parse.{digits_value}
use Rattle.pig_value.specs.Texts.{HasNoLf}
use Rattle.pig_syntax.specs.declared.lexing.LexFault.{LexFault}
use Rattle.pig_syntax.specs.declared.lexing.LexFault.TheVariants as fault
use Rattle.pig_syntax.specs.declared.tokens.Keyword.{Keyword}
use Rattle.pig_syntax.specs.declared.tokens.Keyword.TheVariants as k
use Rattle.pig_syntax.specs.declared.tokens.Symbol.{Symbol}
use Rattle.pig_syntax.specs.declared.tokens.Symbol.TheVariants as s
use Rattle.pig_syntax.specs.declared.tokens.Token.{Token}
use Rattle.pig_syntax.specs.declared.tokens.TokenForm.{TokenForm}
use Rattle.pig_syntax.specs.declared.tokens.TokenForm.TheVariants as f

-- ---- words

-- the keywords, each with its name
unfoldable pub keywords : List (List ℕ × Keyword)
keywords =
    (codes "ALL", k.All) ∷ (codes "AND", k.And) ∷ (codes "AS", k.As) ∷ (codes "ASC", k.Asc) ∷
    (codes "ASSERT", k.Assert) ∷ (codes "BAG", k.Bag) ∷ (codes "BIGDECIMAL", k.BigDecimal) ∷
    (codes "BIGINTEGER", k.BigInteger) ∷ (codes "BOOLEAN", k.Boolean) ∷ (codes "BY", k.By) ∷
    (codes "BYTEARRAY", k.Bytearray) ∷ (codes "CASE", k.Case) ∷ (codes "CHARARRAY", k.Chararray) ∷
    (codes "COGROUP", k.Cogroup) ∷ (codes "CROSS", k.Cross) ∷ (codes "CUBE", k.Cube) ∷
    (codes "DATETIME", k.DateTime) ∷ (codes "DEFINE", k.Define) ∷ (codes "DENSE", k.Dense) ∷ (codes "DESC", k.Desc) ∷
    (codes "DESCRIBE", k.Describe) ∷ (codes "DISTINCT", k.Distinct) ∷ (codes "DOUBLE", k.Double) ∷
    (codes "DUMP", k.Dump) ∷ (codes "ELSE", k.Else) ∷ (codes "END", k.End) ∷ (codes "EXPLAIN", k.Explain) ∷
    (codes "FALSE", k.False) ∷ (codes "FILTER", k.Filter) ∷ (codes "FLATTEN", k.Flatten) ∷ (codes "FLOAT", k.Float) ∷
    (codes "FOREACH", k.Foreach) ∷ (codes "FULL", k.Full) ∷ (codes "GENERATE", k.Generate) ∷
    (codes "GROUP", k.Group) ∷ (codes "IF", k.If) ∷ (codes "ILLUSTRATE", k.Illustrate) ∷ (codes "IMPORT", k.Import) ∷
    (codes "IN", k.In) ∷ (codes "INNER", k.Inner) ∷ (codes "INT", k.Int) ∷ (codes "INTO", k.Into) ∷
    (codes "IS", k.Is) ∷ (codes "JOIN", k.Join) ∷ (codes "LEFT", k.Left) ∷ (codes "LIMIT", k.Limit) ∷
    (codes "LOAD", k.Load) ∷ (codes "LONG", k.Long) ∷ (codes "MAP", k.Map) ∷ (codes "MAPREDUCE", k.MapReduce) ∷
    (codes "NOT", k.Not) ∷ (codes "NULL", k.Null) ∷ (codes "ONSCHEMA", k.OnSchema) ∷ (codes "OR", k.Or) ∷
    (codes "ORDER", k.Order) ∷ (codes "OTHERWISE", k.Otherwise) ∷ (codes "OUTER", k.Outer) ∷
    (codes "PARALLEL", k.Parallel) ∷ (codes "RANK", k.Rank) ∷ (codes "REGISTER", k.Register) ∷
    (codes "RIGHT", k.Right) ∷ (codes "ROLLUP", k.Rollup) ∷ (codes "SAMPLE", k.Sample) ∷ (codes "SET", k.Set) ∷
    (codes "SPLIT", k.Split) ∷ (codes "STORE", k.Store) ∷ (codes "STREAM", k.Stream) ∷ (codes "THEN", k.Then) ∷
    (codes "TRUE", k.True) ∷ (codes "TUPLE", k.Tuple) ∷ (codes "UNION", k.Union) ∷ (codes "USING", k.Using) ∷
    (codes "WHEN", k.When) ∷ []

-- the first entry of a table whose name is the text in any case of ASCII letters
abbrev pub among_names : {A : Type 0} → List (List ℕ × A) → List ℕ → Option A
among_names [] text = None
among_names (e ∷ es) text = if str_eq_ignore_ascii_case e.0 text then Some e.1 else among_names es text

-- the keyword that a word is, in any case
unfoldable pub keyword_of : List ℕ → Option Keyword
keyword_of word = among_names keywords word

-- a byte that goes on a word: an ASCII letter, a digit or `_`
unfoldable pub is_word_byte : ℕ → Bool
is_word_byte b = is_ascii_alphanumeric b || b == 95

-- a word: a letter, then bytes that go on it
abbrev pub IsWord : List ℕ → Type 0
IsWord [] = ⊥
IsWord (b ∷ bs) = (is_ascii_alphabetic b ≡ true) × (list_all is_word_byte bs ≡ true)

-- ---- numbers

-- one or more digits
pub record IsDigits (text : List ℕ) : Type 0 where
  pub some : 0 < length text
  pub digits : list_all is_ascii_digit text ≡ true

-- digits and an `L` or an `l`, and the number that the digits write
pub record IsLong (text : List ℕ) (n : ℕ) : Type 0 where
  pub ds : List ℕ
  pub mark : ℕ
  pub spelled : text ≡ ds ++ mark ∷ []
  pub digits : IsDigits ds
  pub letter : (mark ≡ 76) ⊎ (mark ≡ 108)
  pub value : n ≡ digits_value 10 ds

-- an optional sign
abbrev pub IsSign : List ℕ → Type 0
IsSign text = (text ≡ []) ⊎ (text ≡ codes "+") ⊎ (text ≡ codes "-")

-- `e` or `E`, an optional sign, and digits
pub record IsExponent (text : List ℕ) : Type 0 where
  pub mark : ℕ
  pub sign : List ℕ
  pub ds : List ℕ
  pub spelled : text ≡ mark ∷ sign ++ ds
  pub letter : (mark ≡ 69) ⊎ (mark ≡ 101)
  pub signed : IsSign sign
  pub digits : IsDigits ds

-- an optional `f` or `F`
abbrev pub IsSuffix : List ℕ → Type 0
IsSuffix text = (text ≡ []) ⊎ (text ≡ codes "f") ⊎ (text ≡ codes "F")

-- digits, a point, digits, an optional exponent, an optional suffix
pub record IsFloat (text : List ℕ) : Type 0 where
  pub whole : List ℕ
  pub fraction : List ℕ
  pub exponent : List ℕ
  pub suffix : List ℕ
  pub spelled : text ≡ whole ++ codes "." ++ fraction ++ exponent ++ suffix
  pub before : IsDigits whole
  pub behind : IsDigits fraction
  pub scaled : (exponent ≡ []) ⊎ IsExponent exponent
  pub ended : IsSuffix suffix

-- `$` and one to nine digits
pub record IsPosition (text : List ℕ) (n : ℕ) : Type 0 where
  pub ds : List ℕ
  pub spelled : text ≡ codes "$" ++ ds
  pub digits : IsDigits ds
  pub few : length ds ≤ 9
  pub value : n ≡ digits_value 10 ds

-- ---- texts

-- a byte that stands for itself inside a text: no quote (39), no backslash (92), no LF (10)
unfoldable pub is_plain : ℕ → Bool
is_plain b = not (b == 39 || b == 92 || b == 10)

-- what a backslash and this letter stand for: a quote, a backslash, a tab
unfoldable pub escape_of : ℕ → Option ℕ
escape_of e = if e == 39 then Some 39 else (if e == 92 then Some 92 else (if e == 116 then Some 9 else None))

-- a hexadecimal digit, in either case
unfoldable pub is_hex_digit : ℕ → Bool
is_hex_digit b = nat_lt (digit_value b) 16

-- the character that four hexadecimal digits name: any but the LF and the surrogates
pub record IsNamed (digits : List ℕ) (c : ℕ) : Type 0 where
  pub hexadecimal : list_all is_hex_digit digits ≡ true
  pub value : c ≡ digits_value 16 digits
  pub no_lf : (c == 10) ≡ false
  pub scalar : IsScalar c

-- what stands between two quotes, and what it means
pub data Means : List ℕ → List ℕ → Type 0 where
  nothing : Means [] []
  plain : {b : ℕ} {bs cs : List ℕ} → is_plain b ≡ true → Means bs cs → Means (b ∷ bs) (b ∷ cs)
  escaped : {e c : ℕ} {bs cs : List ℕ} → escape_of e ≡ Some c → Means bs cs → Means (92 ∷ e ∷ bs) (c ∷ cs)
  named : {a b c d v : ℕ} {bs cs : List ℕ} → IsNamed (a ∷ b ∷ c ∷ d ∷ []) v → Means bs cs → Means (92 ∷ 117 ∷ a ∷ b ∷ c ∷ d ∷ bs) (encode_utf8 v ++ cs)

-- a quote, UTF-8 text, a quote
pub record IsText (text content : List ℕ) : Type 0 where
  pub body : List ℕ
  pub spelled : text ≡ 39 ∷ body ++ 39 ∷ []
  pub characters : IsUtf8 body
  pub means : Means body content

-- ---- symbols

-- the symbols, each with its text
unfoldable pub symbols : List (List ℕ × Symbol)
symbols =
    (codes ";", s.Semicolon) ∷ (codes ",", s.Comma) ∷ (codes "(", s.OpenParen) ∷ (codes ")", s.CloseParen) ∷
    (codes "{", s.OpenBrace) ∷ (codes "}", s.CloseBrace) ∷ (codes "[", s.OpenBracket) ∷ (codes "]", s.CloseBracket) ∷
    (codes ":", s.Colon) ∷ (codes "::", s.DoubleColon) ∷ (codes ".", s.Dot) ∷ (codes "#", s.Hash) ∷
    (codes "=", s.Assign) ∷ (codes "==", s.Equal) ∷ (codes "!=", s.NotEqual) ∷ (codes "<", s.Less) ∷
    (codes "<=", s.LessEqual) ∷ (codes ">", s.Greater) ∷ (codes ">=", s.GreaterEqual) ∷ (codes "+", s.Plus) ∷
    (codes "-", s.Minus) ∷ (codes "*", s.Star) ∷ (codes "/", s.Slash) ∷ (codes "%", s.Percent) ∷
    (codes "?", s.Question) ∷ []

-- the first entry of a table whose name is the text
abbrev pub among_texts : {A : Type 0} → List (List ℕ × A) → List ℕ → Option A
among_texts [] text = None
among_texts (e ∷ es) text = if bytes_eq e.0 text then Some e.1 else among_texts es text

-- the symbol that a text is
unfoldable pub symbol_of : List ℕ → Option Symbol
symbol_of text = among_texts symbols text

-- ---- tokens

-- the text of a token: one case for each form
abbrev pub IsToken : TokenForm → List ℕ → Type 0
IsToken (f.Ident name) text = IsWord text × (keyword_of text ≡ None) × (name ≡ text)
IsToken (f.Keyword k) text = IsWord text × (keyword_of text ≡ Some k)
IsToken (f.Int z) text = IsDigits text × (digits_value 10 text ≤ 2147483647) × (z ≡ pos (digits_value 10 text))
IsToken (f.Long z) text = (n : ℕ) × IsLong text n × (n ≤ 9223372036854775807) × (z ≡ pos n)
IsToken f.Float text = IsFloat text
IsToken (f.Position n) text = IsPosition text n
IsToken (f.Text content) text = IsText text content
IsToken (f.Symbol s) text = symbol_of text ≡ Some s

-- the forms that no byte of a word may follow
abbrev pub is_number : TokenForm → Bool
is_number (f.Int z) = true
is_number (f.Long z) = true
is_number f.Float = true
is_number (f.Position n) = true
is_number _ = false

-- the bytes begin with a byte that goes on a word
abbrev pub begins_as_word : List ℕ → Bool
begins_as_word [] = false
begins_as_word (b ∷ bs) = is_word_byte b

-- ---- white space and comments

-- space, tab, CR or LF
unfoldable pub is_space : ℕ → Bool
is_space b = b == 32 || b == 9 || b == 13 || b == 10

-- the bytes behind a prefix, where they begin with it
unfoldable pub strip : List ℕ → List ℕ → Option (List ℕ)
strip [] bs = Some bs
strip (p ∷ ps) [] = None
strip (p ∷ ps) (b ∷ bs) = if p == b then strip ps bs else None

-- the bytes behind the first `*/`
unfoldable pub after_close : List ℕ → Option (List ℕ)
after_close [] = None
after_close (b ∷ bs) = option_map_or Some (strip (codes "*/") (b ∷ bs)) (after_close bs)

-- a byte that does not end a line
abbrev pub is_in_line : ℕ → Bool
is_in_line b = not (b == 10)

-- the bytes from the first LF on
unfoldable pub from_lf : List ℕ → List ℕ
from_lf bs = drop (length (take_while is_in_line bs)) bs

-- the bytes behind a comment: `--` up to the next LF or the end, or `/*` up to the first `*/` behind it
unfoldable pub after_comment : List ℕ → Option (List ℕ)
after_comment bs = option_map_or (λ line. Some (from_lf line)) (strip (codes "--") bs) (option_and_then after_close (strip (codes "/*") bs))

-- the bytes behind a byte of white space or a comment
unfoldable pub after_gap : List ℕ → Option (List ℕ)
after_gap [] = None
after_gap (b ∷ bs) = if is_space b then Some bs else after_comment (b ∷ bs)

-- ---- the tokens of a script

-- a token of this form begins the bytes, and these are left: no white space and no comment, closed or not, stands there; no text of a
-- token is longer; and a number is not followed by a byte of a word
pub record Begins (bs : List ℕ) (form : TokenForm) (rest : List ℕ) : Type 0 where
  pub no_gap : after_gap bs ≡ None
  pub no_comment : strip (codes "/*") bs ≡ None
  pub text : List ℕ
  pub whole : bs ≡ text ++ rest
  pub spelled : IsToken form text
  pub longest : (other : TokenForm) (more left : List ℕ) → bs ≡ more ++ left → IsToken other more → length more ≤ length text
  pub apart : (is_number form && begins_as_word rest) ≡ false

-- neither white space nor a comment nor a token begins the bytes
pub record Stops (bs : List ℕ) : Type 0 where
  pub no_gap : after_gap bs ≡ None
  pub no_token : (form : TokenForm) (rest : List ℕ) → Begins bs form rest → ⊥

-- what is left of a script of `total` bytes, its tokens from there on, and what is left behind them. A token's offset is the number of
-- bytes before it
pub data Reads (total : ℕ) : List ℕ → List Token → List ℕ → Type 0 where
  here : {bs : List ℕ} → Reads total bs [] bs
  skips : {bs mid rest : List ℕ} {ts : List Token} → after_gap bs ≡ Some mid → Reads total mid ts rest → Reads total bs ts rest
  takes : {bs mid rest : List ℕ} {ts : List Token} {form : TokenForm} → Begins bs form mid → Reads total mid ts rest → Reads total bs (record { form = form; «from» = total - length bs } ∷ ts) rest

-- these are the tokens of the script
abbrev pub AreTokens : List ℕ → List Token → Type 0
AreTokens script ts = Reads (length script) script ts []

-- the script has tokens up to this offset, and there, before its end, no token begins
pub record IsBadAt (script : List ℕ) (offset : ℕ) : Type 0 where
  pub tokens : List Token
  pub rest : List ℕ
  pub reads : Reads (length script) script tokens rest
  pub more : 0 < length rest
  pub stops : Stops rest
  pub place : offset ≡ length script - length rest

-- what a fault says of the script
abbrev pub IsLexFault : List ℕ → LexFault → Type 0
IsLexFault script (fault.Bad offset) = IsBadAt script offset
IsLexFault script fault.OutOfMemory = Unit {0}

-- neither a name nor a text holds an LF
abbrev pub HoldsNoLf : TokenForm → Type 0
HoldsNoLf (f.Ident name) = HasNoLf name
HoldsNoLf (f.Text content) = HasNoLf content
HoldsNoLf _ = Unit {0}
