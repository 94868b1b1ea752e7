-- Plain values: those that are read again from their text.
use Rattle.std.specs.Prelude.{◌≡◌, ◌≢◌, ◌==◌, ◌||◌, ℕ, Bool, false, List, [], All}
use Rattle.pig_value.specs.Brackets.{is_opening, is_closing}
use Rattle.pig_value.specs.Leaves.{Leaf, LeavesAre}
use Rattle.pig_value.specs.Trees.{Tree, v_chars, v_bytes}

-- a bracket or a comma
abbrev pub is_mark : ℕ → Bool
is_mark b = is_opening b || is_closing b || b == 44

-- bytes without brackets and commas
abbrev pub HasNoMark : List ℕ → Type 0
HasNoMark bytes = All (λ b. is_mark b ≡ false) bytes

-- Each text and bytearray has bytes, without brackets and commas; so have the keys, which have no `#` either and may be
-- empty; and no bag has an order of its own.
abbrev pub plain_leaf : Leaf
plain_leaf = record {
  chars = λ text. (text ≢ []) × HasNoMark text;
  bytes = λ bytes. (bytes ≢ []) × HasNoMark bytes;
  key = λ key. HasNoMark key × All (λ b. b ≢ 35) key;
  listed = ⊥;
}

abbrev pub IsPlain : Tree → Type 0
IsPlain = LeavesAre plain_leaf

-- a text or bytearray that is a field of its own may hold brackets and commas
abbrev pub IsPlainField : Tree → Type 0
IsPlainField (v_chars text) = text ≢ []
IsPlainField (v_bytes bytes) = bytes ≢ []
IsPlainField v = IsPlain v
