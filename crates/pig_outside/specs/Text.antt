-- What a console's text is after a write that failed.
use Rattle.std.specs.Prelude.{◌≡◌, ◌≤◌, ◌++◌, ℕ, List, Option, length, take}
use Rattle.std.specs.Option.{option_map}

-- A prefix of the bytes was written, perhaps nothing.
abbrev pub LeftPrefix : List ℕ → Option (List ℕ) → Option (List ℕ) → Type 0
LeftPrefix bytes old new = (n : ℕ) × (n ≤ length bytes) × (new ≡ option_map (λ t. t ++ take n bytes) old)
