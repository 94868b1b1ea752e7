-- What `next_line` says of the span that it answers.
use Rattle.std.specs.Prelude.{◌≡◌, ℕ, ◌+◌, ◌<◌, ◌≤◌, min, List, ◌∷◌, length, drop, slice_range}
use Rattle.std.specs.List.{position_or_len}
use Rattle.std.specs.Str.Lines.{strip_carriage_return}
use Rattle.pig_value.specs.Lines.{is_lf, lines}
use Rattle.pig_storage.specs.declared.lines.Span.{Span}

-- where a line that starts at a place ends: at the first LF from there on, or else with the bytes
abbrev pub line_end : List ℕ → ℕ → ℕ
line_end bytes from = from + position_or_len is_lf (drop from bytes)

-- The span's line is the bytes up to that end, without a CR before it; `next` is the place behind the LF, or the end of
-- the bytes. So the lines of the bytes behind `from` are the span's line, and then those of the bytes behind `next`.
pub record IsNextLine (bytes : List ℕ) (from : ℕ) (s : Span) : Type 0 where
  pub starts : s.from ≡ from
  pub ordered : from ≤ s.to
  pub within : s.to ≤ s.next
  pub goes_on : from < s.next
  pub ends : s.next ≤ length bytes
  pub next : s.next ≡ min (line_end bytes from + 1) (length bytes)
  pub line : slice_range bytes from s.to ≡ strip_carriage_return (slice_range bytes from (line_end bytes from))
  pub is : lines (drop from bytes) ≡ slice_range bytes from s.to ∷ lines (drop s.next bytes)
