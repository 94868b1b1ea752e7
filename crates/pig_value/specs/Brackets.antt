-- Balanced text, and its items.
use Rattle.std.specs.Prelude.{◌≡◌, ◌==◌, ◌&&◌, ◌||◌, ◌+◌, ◌-◌, ℕ, Bool, true, false, List, [], ◌∷◌, ◌++◌, length, Option, None, Some, nat_le, slice_range, if◌then◌else◌}
use Rattle.std.specs.List.{onto_first, slice_index}

-- `(`, `[` and `{` open
abbrev pub is_opening : ℕ → Bool
is_opening b = b == 40 || b == 91 || b == 123

-- `)`, `]` and `}` close
abbrev pub is_closing : ℕ → Bool
is_closing b = b == 41 || b == 93 || b == 125

-- the bracket that closes an opening one
abbrev pub closing_of : ℕ → ℕ
closing_of b = if b == 40 then 41 else (if b == 91 then 93 else 125)

-- the brackets match and nest
pub data IsBalanced : List ℕ → Type 0 where
  nothing : IsBalanced []
  plain : (b : ℕ) (bs : List ℕ) → is_opening b ≡ false → is_closing b ≡ false → IsBalanced bs → IsBalanced (b ∷ bs)
  nested : (b : ℕ) (inner rest : List ℕ) → is_opening b ≡ true → IsBalanced inner → IsBalanced rest → IsBalanced (b ∷ (inner ++ closing_of b ∷ rest))

-- the same as a test

-- the next bracket that is wanted is this one, and the rest closes the others
abbrev pub takes : ℕ → (List ℕ → Bool) → List ℕ → Bool
takes b rest [] = false
takes b rest (next ∷ wanted) = next == b && rest wanted

abbrev pub closes_from : ℕ → (List ℕ → Bool) → List ℕ → Bool
closes_from b rest wanted = if is_opening b then rest (closing_of b ∷ wanted) else (if is_closing b then takes b rest wanted else rest wanted)

abbrev pub is_nothing : List ℕ → Bool
is_nothing [] = true
is_nothing (b ∷ bs) = false

-- the bytes close the brackets that are wanted, the first of them first, and each that they open
abbrev pub closes : List ℕ → List ℕ → Bool
closes [] wanted = is_nothing wanted
closes (b ∷ bs) wanted = closes_from b (closes bs) wanted

abbrev pub is_balanced : List ℕ → Bool
is_balanced bytes = closes bytes []

-- how many brackets are open behind a byte
abbrev pub depth_after : ℕ → ℕ → ℕ
depth_after depth b = if is_opening b then depth + 1 else (if is_closing b then depth - 1 else depth)

-- a comma outside all brackets
abbrev pub is_separator : ℕ → ℕ → Bool
is_separator depth b = b == 44 && depth == 0

-- what lies between the commas outside all brackets, where so many brackets are open before it
abbrev pub items_at : ℕ → List ℕ → List (List ℕ)
items_at depth [] = [] ∷ []
items_at depth (b ∷ bytes) = if is_separator depth b then [] ∷ items_at depth bytes else onto_first b (items_at (depth_after depth b) bytes)

-- the items of a balanced body: one that is empty where the body is
abbrev pub items : List ℕ → List (List ℕ)
items bytes = items_at 0 bytes

-- the items of a body that may have none
abbrev pub items_or_none : List ℕ → List (List ℕ)
items_or_none [] = []
items_or_none (b ∷ bytes) = items (b ∷ bytes)

-- what stands between the first byte and the last
abbrev pub inside : List ℕ → List ℕ
inside bytes = slice_range bytes 1 (length bytes - 1)

-- two brackets round a balanced body
abbrev pub is_bracketed : ℕ → ℕ → List ℕ → Bool
is_bracketed opening closing bytes =
    nat_le 2 (length bytes) && slice_index bytes 0 == opening && slice_index bytes (length bytes - 1) == closing && is_balanced (inside bytes)

-- the body between two brackets, where there is one
abbrev pub body_of : ℕ → ℕ → List ℕ → Option (List ℕ)
body_of opening closing bytes = if is_bracketed opening closing bytes then Some (inside bytes) else None
