-- The front of a text: its first sixteen bytes as two numbers, by which texts are compared before their bytes are.
use Rattle.std.specs.Prelude.{ℕ, zero, suc, ◌+◌, ◌*◌, ◌^◌, ◌==◌, min, if◌then◌else◌, List, [], ◌∷◌, length, take, drop}
use Rattle.std.specs.Ordering.{ordering_then, nat_cmp}
use Rattle.std.specs.declared.cmp.Ordering.{Ordering}
use Rattle.std.specs.declared.cmp.Ordering.TheVariants.{Less, Equal, Greater}
use Rattle.pig_value.specs.Orders.{text_cmp}
use Rattle.pig_runs.specs.declared.slots.Front.{Front}

-- the first so many bytes as a number, the highest first, where those that are missing are 0
abbrev pub first_bytes : ℕ → List ℕ → ℕ
first_bytes zero text = 0
first_bytes (suc k) [] = 0
first_bytes (suc k) (b ∷ text) = b * 256 ^ k + first_bytes k text

-- so many bytes the front is of
abbrev pub front_len : ℕ
front_len = 16

abbrev pub front : List ℕ → Front
front text = record { high = first_bytes 8 text; low = first_bytes 8 (drop 8 text) }

abbrev pub front_cmp : Front → Front → Ordering
front_cmp p q = ordering_then (nat_cmp p.high q.high) (nat_cmp p.low q.low)

-- a text with its front and its length
pub record Fronted : Type 0 where
  pub front : Front
  pub len : ℕ
  pub text : List ℕ

-- what is compared where the fronts are the same: how many bytes they are of, and the bytes behind them
abbrev pub behind_cmp : Fronted → Fronted → Ordering
behind_cmp p q = ordering_then (nat_cmp (min p.len front_len) (min q.len front_len)) (text_cmp (drop front_len p.text) (drop front_len q.text))

abbrev pub fronted_cmp : Fronted → Fronted → Ordering
fronted_cmp p q = ordering_then (front_cmp p.front q.front) (behind_cmp p q)

-- ---- rows, of which those under one key may all begin with it

-- how the first bytes of a row's code stand to those of the rows whose first field is the key
abbrev pub against : List ℕ → List ℕ → Ordering
against key row = ordering_then (text_cmp (take 2 row) (6 ∷ 1 ∷ [])) (text_cmp (take (length key) (drop 2 row)) key)

-- on which side of these rows it stands: before them, among them, behind them
abbrev pub side_number : Ordering → ℕ
side_number Less = 0
side_number Equal = 1
side_number Greater = 2

abbrev pub side_of : List ℕ → List ℕ → ℕ
side_of key row = side_number (against key row)

-- how many bytes of a row are told by its side and a key of so many, and those that are not
abbrev pub told_len : ℕ → ℕ → ℕ
told_len side len = if side == 1 then len + 2 else 0

abbrev pub untold : ℕ → ℕ → List ℕ → List ℕ
untold side len row = drop (told_len side len) row

-- a row's side, and the bytes that it doesn't tell with their front
pub record Sided : Type 0 where
  pub side : ℕ
  pub rest : Fronted

abbrev pub sided_cmp : Sided → Sided → Ordering
sided_cmp p q = ordering_then (nat_cmp p.side q.side) (fronted_cmp p.rest q.rest)
