-- The next line of a window, among the bytes that are held.
use Rattle.std.specs.Prelude.{◌≡◌, ◌<◌, ◌+◌, ◌⊎◌, true, false, length}
use Rattle.pig_stream.specs.Ranges.{Reading, lf_in}
use Rattle.pig_stream.specs.declared.window.Found.{Found}

-- It starts within the range and ends at the first LF, or with the last byte where there is none and no more come.
pub record IsFound (r : Reading) (f : Found) : Type 0 where
  pub told : r.skips ≡ false
  pub starts : 0 < r.limit
  pub here : 0 < length r.held
  pub end : f.end ≡ lf_in r.held
  pub ends : (f.end < length r.held) × (f.next ≡ f.end + 1) ⊎ (f.end ≡ length r.held) × (f.next ≡ f.end) × (r.ended ≡ true)
