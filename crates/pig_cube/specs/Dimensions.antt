-- The dimensions of a cube, and the sets of them that CUBE and ROLLUP choose.
-- (Pig Latin Basics: "CUBE". That there are 1 to 8 dimensions, and 512 fields at most, are choices of this profile.)
use Rattle.std.specs.Prelude.{◌≡◌, ◌<◌, ◌≤◌, ◌==◌, ◌+◌, ℕ, Bool, false, not, List, [], ◌∷◌, ◌++◌, length, map, take, if◌then◌else◌, ⊤}
use Rattle.std.specs.List.{AllByRecursion, filter, list_any, range_with_len}

-- a position stands among these
abbrev pub is_in : List ℕ → ℕ → Bool
is_in positions p = list_any (λ q. q == p) positions

-- no position stands twice
abbrev pub AreDistinct : List ℕ → Type 0
AreDistinct [] = ⊤
AreDistinct (p ∷ positions) = (is_in positions p ≡ false) × AreDistinct positions

-- 1 to 8 distinct positions in rows that are 512 fields wide at most
pub record AreDimensions (dims : List ℕ) (width : ℕ) : Type 0 where
  pub one : 0 < length dims
  pub few : length dims ≤ 8
  pub within : AllByRecursion (λ p. p < width) dims
  pub distinct : AreDistinct dims
  pub narrow : width ≤ 512

-- the other positions of a row, in order
abbrev pub other_positions : List ℕ → ℕ → List ℕ
other_positions dims width = filter (λ p. not (is_in dims p)) (range_with_len 0 width)

-- all subsets of a list
abbrev pub subsets : List ℕ → List (List ℕ)
subsets [] = [] ∷ []
subsets (p ∷ positions) = map (λ set. p ∷ set) (subsets positions) ++ subsets positions

-- the prefixes of a list, the empty one first
abbrev pub prefixes : List ℕ → List (List ℕ)
prefixes positions = map (λ n. take n positions) (range_with_len 0 (length positions + 1))

-- CUBE chooses all sets of dimensions, ROLLUP the prefixes of their list
abbrev pub chosen_sets : Bool → List ℕ → List (List ℕ)
chosen_sets rollup dims = if rollup then prefixes dims else subsets dims
