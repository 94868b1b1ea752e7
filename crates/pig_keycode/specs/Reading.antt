-- What is read from the front of bytes: a part in the grammar and the bytes behind it, or that no part stands there.
use Rattle.std.specs.Prelude.{◌≡◌, ◌<◌, ℕ, Bool, List, [], ◌∷◌, ◌++◌, map, ⊤}
use Rattle.std.specs.Borrow.{Bor}
use Rattle.std.specs.List.{AllByRecursion}
use Rattle.std.specs.Str.{IsUtf8}
use Rattle.std.specs.declared.option.Option.{Option}
use Rattle.std.specs.declared.option.Option.TheVariants.{Some, None}
use Rattle.std.specs.declared.result.Result.{Result}
use Rattle.std.specs.declared.result.Result.TheVariants.{Ok, Err}
use Rattle.std.specs.declared.cmp.Ordering.TheVariants.{Less}
use Rattle.pig_value.specs.Orders.{text_cmp}
use Rattle.pig_value.specs.Trees.{Tree, v_chars, v_tuple, fields_of, tuples_of, entries_of}
use Rattle.pig_value.specs.Valid.{IsValue, AreEntries}
use Rattle.pig_keycode.specs.Codes.{bool_code, escaped_byte, code, fields_code, tuples_code, entries_code}
use Rattle.pig_keycode.specs.declared.decoding.ReadFault.{ReadFault}
use Rattle.pig_keycode.specs.declared.decoding.ReadFault.TheVariants as fault

-- the bytes begin with what `write` makes of x, which is in the grammar
pub record StandsFirst {X : Type 0} (write : X → List ℕ) (Good : X → Type 0) (bytes : List ℕ) (x : X) (rest : List ℕ) : Type 0 where
  pub is : bytes ≡ write x ++ rest
  pub good : Good x

abbrev pub NoneFirst : {X : Type 0} → (X → List ℕ) → (X → Type 0) → List ℕ → Type 0
NoneFirst {X} write Good bytes = (x : X) (rest : List ℕ) → StandsFirst write Good bytes x rest → ⊥

-- the code finds what stands first
abbrev pub Reads : {V X : Type 0} → (V → X) → (X → List ℕ) → (X → Type 0) → List ℕ → Result (V × Bor (List ℕ)) ReadFault → Type 0
Reads view write Good bytes (Ok r) = StandsFirst write Good bytes (view r.0) r.1.now
Reads view write Good bytes (Err fault.Off) = NoneFirst write Good bytes
Reads view write Good bytes (Err fault.OutOfMemory) = ⊤

-- a mark
abbrev pub mark_code : Bool → List ℕ
mark_code b = bool_code b ∷ []

abbrev pub AnyMark : Bool → Type 0
AnyMark b = ⊤

-- a byte of a text, or its end
abbrev pub byte_code : Option ℕ → List ℕ
byte_code None = 0 ∷ 0 ∷ []
byte_code (Some b) = escaped_byte b

abbrev pub IsByteOrEnd : Option ℕ → Type 0
IsByteOrEnd None = ⊤
IsByteOrEnd (Some b) = b < 256

-- none of the bytes is zero
abbrev pub HasNoZero : List ℕ → Type 0
HasNoZero = AllByRecursion (λ b. b ≡ 0 → ⊥)

-- a row as a tuple, and its fields alone
abbrev pub row_code : List Tree → List ℕ
row_code row = code (v_tuple (fields_of row))

abbrev pub fields_part : List Tree → List ℕ
fields_part row = fields_code (fields_of row)

-- the rows of a bag
abbrev pub rows_part : List (List Tree) → List ℕ
rows_part rows = tuples_code (tuples_of rows)

-- a key with its value, and the pairs of a map
abbrev pub pair_code : List ℕ × Tree → List ℕ
pair_code p = code (v_chars p.0) ++ code p.1

abbrev pub IsCodedPair : List ℕ × Tree → Type 0
IsCodedPair p = IsUtf8 p.0 × IsValue p.1

abbrev pub pairs_part : List (List ℕ × Tree) → List ℕ
pairs_part pairs = entries_code (entries_of pairs)

abbrev pub AreCodedPairs : List (List ℕ × Tree) → Type 0
AreCodedPairs pairs = AreEntries (entries_of pairs)

-- the keys of a map's pairs
abbrev pub pair_keys : List (List ℕ × Tree) → List (List ℕ)
pair_keys = map (λ p. p.0)

-- a key stands before the first of those behind it
abbrev pub KeyRises : List ℕ → List (List ℕ) → Type 0
KeyRises key [] = ⊤
KeyRises key (next ∷ keys) = text_cmp key next ≡ Less
