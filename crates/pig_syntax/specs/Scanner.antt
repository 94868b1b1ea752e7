-- What the lexer's functions find at the front of some bytes, and what they leave; nothing where their part does not stand there.
-- `Tokens` says what a token is, and the lemmas of `proofs/` that these find exactly that.
use Rattle.std.specs.Prelude.{◌-◌, ◌+◌, ◌*◌, ℕ, pos, zero, suc, Bool, true, false, ◌&&◌, ◌||◌, ◌==◌, nat_lt, nat_le, List, [], ◌∷◌, ◌++◌, length, take, drop, take_while, codes, Option, Some, None, option_map, option_and_then, if◌then◌else◌}
use Rattle.std.specs.Char.{is_ascii_alphabetic, is_ascii_digit, digit_value, encode_utf8}
use Rattle.std.specs.Option.{option_map_or}
use Rattle.std.specs.Str.{is_utf8}
use Rattle.std.specs.Str.Parse.{digits_value}
use Rattle.std.proofs.Math.Utf8.{scalar}
use Rattle.pig_syntax.specs.Tokens.{keyword_of, is_word_byte, is_hex_digit, is_plain, escape_of, symbol_of, is_number, begins_as_word, strip}
use Rattle.pig_syntax.specs.declared.tokens.TokenForm.{TokenForm}
use Rattle.pig_syntax.specs.declared.tokens.TokenForm.TheVariants as f
use Rattle.pig_syntax.specs.declared.scanning.TextUnit.{TextUnit}
use Rattle.pig_syntax.specs.declared.scanning.TextUnit.TheVariants as u
use Rattle.pig_value.specs.Results.{◌>>=◌}

-- what is read, and the bytes that are left
abbrev pub Found : Type 0 → Type 0
Found A = Option (A × List ℕ)

-- the bytes from the front on that pass
unfoldable pub run : (ℕ → Bool) → List ℕ → List ℕ
run p bs = take (length (take_while p bs)) bs

-- the bytes behind those that pass
unfoldable pub past : (ℕ → Bool) → List ℕ → List ℕ
past p bs = drop (length (take_while p bs)) bs

-- a form, if there is one, and what is left behind it
abbrev pub with_rest : List ℕ → Option TokenForm → Found TokenForm
with_rest rest form = option_map (λ form. (form, rest)) form

-- ---- words

-- the keyword or the name that a word is
unfoldable pub word_form : List ℕ → TokenForm
word_form word = option_map_or f.Keyword (keyword_of word) (f.Ident word)

-- a word, where a letter begins the bytes
unfoldable pub word_at : List ℕ → Found TokenForm
word_at bs = Some (word_form (run is_word_byte bs), past is_word_byte bs)

-- ---- numbers

-- an optional byte of two
unfoldable pub past_either : ℕ → ℕ → List ℕ → List ℕ
past_either x y [] = []
past_either x y (b ∷ bs) = if b == x || b == y then bs else b ∷ bs

-- the bytes behind digits, where a digit begins them
unfoldable pub past_digits : List ℕ → Option (List ℕ)
past_digits [] = None
past_digits (b ∷ bs) = if is_ascii_digit b then Some (past is_ascii_digit (b ∷ bs)) else None

-- an optional exponent
unfoldable pub past_exponent : List ℕ → List ℕ
past_exponent [] = []
past_exponent (b ∷ bs) = if b == 69 || b == 101 then option_map_or (λ rest. rest) (past_digits (past_either 43 45 bs)) (b ∷ bs) else b ∷ bs

-- the rest of a float behind its first digits
unfoldable pub past_fraction : List ℕ → Option (List ℕ)
past_fraction bs = do
  point ← strip (codes ".") bs
  digits ← past_digits point
  Some (past_either 70 102 (past_exponent digits))

-- the int of these digits
unfoldable pub int_of : List ℕ → Option TokenForm
int_of ds = if nat_le (digits_value 10 ds) 2147483647 then Some (f.Int (pos (digits_value 10 ds))) else None

-- the long of these digits
unfoldable pub long_of : List ℕ → Option TokenForm
long_of ds = if nat_le (digits_value 10 ds) 9223372036854775807 then Some (f.Long (pos (digits_value 10 ds))) else None

-- the int or the long of these digits, by what stands behind them
unfoldable pub whole_after : List ℕ → List ℕ → Found TokenForm
whole_after ds [] = with_rest [] (int_of ds)
whole_after ds (b ∷ bs) = if b == 76 || b == 108 then with_rest bs (long_of ds) else with_rest (b ∷ bs) (int_of ds)

-- the number of these digits, by what stands behind them
unfoldable pub number_after : List ℕ → List ℕ → Found TokenForm
number_after ds bs = option_map_or (λ rest. Some (f.Float, rest)) (past_fraction bs) (whole_after ds bs)

-- a number, where a digit begins the bytes
unfoldable pub number_at : List ℕ → Found TokenForm
number_at bs = number_after (run is_ascii_digit bs) (past is_ascii_digit bs)

-- a position, behind its `$`
unfoldable pub position_at : List ℕ → Found TokenForm
position_at bs =
    if nat_lt 0 (length (run is_ascii_digit bs)) && nat_le (length (run is_ascii_digit bs)) 9
    then Some (f.Position (digits_value 10 (run is_ascii_digit bs)), past is_ascii_digit bs)
    else None

-- ---- texts

-- the number of a hexadecimal digit
unfoldable pub hex_of : ℕ → Option ℕ
hex_of b = if is_hex_digit b then Some (digit_value b) else None

-- the character of a number: no LF, and no surrogate
unfoldable pub character_of : ℕ → Option ℕ
character_of n = if n == 10 then None else (if scalar n then Some n else None)

-- the character that four bytes name
unfoldable pub named_by : ℕ → ℕ → ℕ → ℕ → Option ℕ
named_by a b c d = do
  x ← hex_of a
  y ← hex_of b
  z ← hex_of c
  w ← hex_of d
  character_of (((x * 16 + y) * 16 + z) * 16 + w)

-- what stands behind `\u`
unfoldable pub named_at : List ℕ → Found TextUnit
named_at (a ∷ b ∷ c ∷ d ∷ bs) = option_map (λ v. (u.Char v, bs)) (named_by a b c d)
named_at _ = None

-- what stands behind a backslash
unfoldable pub escape_at : List ℕ → Found TextUnit
escape_at [] = None
escape_at (e ∷ bs) = if e == 117 then named_at bs else option_map (λ c. (u.Byte c, bs)) (escape_of e)

-- the end of a text, or what a byte or an escape inside it means
unfoldable pub unit_at : List ℕ → Found TextUnit
unit_at [] = None
unit_at (b ∷ bs) =
    if b == 39 then Some (u.End, bs)
    else (if b == 92 then escape_at bs
    else (if is_plain b then Some (u.Byte b, bs) else None))

-- the bytes of a unit
abbrev pub bytes_of : TextUnit → List ℕ
bytes_of u.End = []
bytes_of (u.Byte b) = b ∷ []
bytes_of (u.Char c) = encode_utf8 c

abbrev pub is_end : TextUnit → Bool
is_end u.End = true
is_end _ = false

-- the content of a text up to its closing quote, with what is read of it already, in at most a number of units
unfoldable pub content_after : ℕ → List ℕ → List ℕ → Found (List ℕ)
content_after zero read bs = None
content_after (suc most) read bs = do
  unit ← unit_at bs
  if is_end unit.0 then Some (read, unit.1) else content_after most (read ++ bytes_of unit.0) unit.1

-- the content, where the bytes that write it are UTF-8
unfoldable pub text_of : List ℕ → List ℕ → Option (List ℕ)
text_of body content = if is_utf8 body then Some content else None

-- a text, behind its first quote
unfoldable pub text_at : List ℕ → Found TokenForm
text_at bs = do
  found ← content_after (length bs) [] bs
  option_map (λ text. (f.Text text, found.1)) (text_of (take (length bs - length found.1 - 1) bs) found.0)

-- ---- symbols

-- the symbol of so many bytes
unfoldable pub symbol_of_length : ℕ → List ℕ → Found TokenForm
symbol_of_length n bs = option_map (λ s. (f.Symbol s, drop n bs)) (symbol_of (take n bs))

-- a symbol: that of two bytes before that of one
unfoldable pub symbol_at : List ℕ → Found TokenForm
symbol_at bs = option_map_or Some (symbol_of_length 2 bs) (symbol_of_length 1 bs)

-- ---- tokens

-- the longest token, whatever follows it
unfoldable pub form_at : List ℕ → Found TokenForm
form_at [] = None
form_at (b ∷ bs) =
    if is_ascii_alphabetic b then word_at (b ∷ bs)
    else (if is_ascii_digit b then number_at (b ∷ bs)
    else (if b == 36 then position_at bs
    else (if b == 39 then text_at bs
    else symbol_at (b ∷ bs))))

-- a token that may stand where it ends
unfoldable pub standing : TokenForm × List ℕ → Found TokenForm
standing found = if is_number found.0 && begins_as_word found.1 then None else Some found

-- the token that begins the bytes, where no white space and no comment stands
unfoldable pub token_at : List ℕ → Found TokenForm
token_at bs = option_map_or (λ comment. None) (strip (codes "/*") bs) (form_at bs >>= standing)
