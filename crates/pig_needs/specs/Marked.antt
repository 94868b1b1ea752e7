-- Lists of marks that stand for a need: what they mark is what is needed.
use Rattle.std.specs.Prelude.{◌≡◌, ◌||◌, ◌==◌, ◌+◌, ℕ, Bool, false, List, [], get_or}
use Rattle.pig_needs.specs.declared.lists.Need.{Need}
use Rattle.pig_needs.specs.declared.lists.Part.{Part}
use Rattle.pig_needs.specs.declared.lists.Part.TheVariants as part
use Rattle.pig_needs.specs.Needed.{is_named, is_needed, same_need}

-- the marks with one more
abbrev pub HaveOneMore : ℕ → List Bool → List Bool → Type 0
HaveOneMore place old new = (k : ℕ) → get_or new k false ≡ ((place == k) || get_or old k false)

-- of each position whether it is named
abbrev pub AreNamed : List Need → List Bool → Type 0
AreNamed need marks = (k : ℕ) → get_or marks k false ≡ is_named need k

-- ---- the entries by their parts: of each part the positions of which it is needed

abbrev pub part_number : Part → ℕ
part_number part.Whole = 0
part_number part.Rows = 1
part_number (part.Column q) = q + 2

abbrev pub has_entry : List (List Bool) → Need → Bool
has_entry index n = get_or (get_or index (part_number n.part) []) n.position false

abbrev pub IsIndex : List Need → List (List Bool) → Type 0
IsIndex need index = (n : Need) → has_entry index n ≡ is_needed n need

-- the index with one entry more
abbrev pub HasOneMore : Need → List (List Bool) → List (List Bool) → Type 0
HasOneMore m old new = (n : Need) → has_entry new n ≡ (same_need n m || has_entry old n)
