-- Bytes that are cut at a byte.
use Rattle.std.specs.Prelude.{ℕ, Bool, ◌==◌, nat_lt, List, length, Option, Some, None, if◌then◌else◌}
use Rattle.std.specs.List.{position_or_len, before_first, after_first}

abbrev pub is_byte : ℕ → ℕ → Bool
is_byte c b = b == c

-- what stands before the first such byte, and behind it
abbrev pub cut_at : ℕ → List ℕ → Option (List ℕ × List ℕ)
cut_at c bs = if nat_lt (position_or_len (is_byte c) bs) (length bs) then Some (before_first (is_byte c) bs, after_first (is_byte c) bs) else None
