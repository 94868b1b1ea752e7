-- Paths of LOAD and STORE: the path that is kept of a text, which texts are no path here, and when two paths collide.
-- (Pig Latin Basics: "LOAD", "STORE". That a path holds no pattern and no `.` or `..`, and which paths collide, are choices of this
-- profile.)
use Rattle.std.specs.Prelude.{◌≡◌, ◌==◌, ◌&&◌, ◌||◌, ℕ, Bool, true, false, not, List, [], ◌∷◌, codes, if◌then◌else◌}
use Rattle.std.specs.List.{list_all, list_any, ends_with}
use Rattle.std.specs.declared.result.Result.TheVariants.{Ok, Err}
use Rattle.pig_value.specs.FieldRows.{pieces}
use Rattle.pig_typing.specs.declared.faults.CheckKind.{CheckKind}
use Rattle.pig_typing.specs.declared.faults.CheckKind.TheVariants as kind
use Rattle.pig_typing.specs.Results.{Checked}

-- ---- the path of a text

-- a slash
abbrev pub slash : ℕ
slash = 47

-- the text without the slash at its end, where there is one
abbrev pub kept : List ℕ → List ℕ
kept [] = []
kept (b ∷ []) = if b == slash then [] else b ∷ []
kept (b ∷ c ∷ bytes) = b ∷ kept (c ∷ bytes)

-- the path without the slash at its front, where there is one
abbrev pub below_root : List ℕ → List ℕ
below_root [] = []
below_root (b ∷ path) = if b == slash then path else b ∷ path

-- the parts of a path: cut at every slash
abbrev pub components : List ℕ → List (List ℕ)
components path = pieces slash (below_root path)

-- a byte of a pattern: `*`, `?`, `{`, `}`, `[` or `]`
abbrev pub is_pattern : ℕ → Bool
is_pattern b = b == 42 || b == 63 || b == 123 || b == 125 || b == 91 || b == 93

-- nothing, `.` or `..`
abbrev pub is_dots : List ℕ → Bool
is_dots [] = true
is_dots (a ∷ []) = a == 46
is_dots (a ∷ b ∷ []) = a == 46 && b == 46
is_dots (a ∷ b ∷ c ∷ more) = false

abbrev pub is_component : List ℕ → Bool
is_component c = not (is_dots c) && not (list_any is_pattern c)

abbrev pub is_plain : List ℕ → Bool
is_plain path = list_all is_component (components path)

-- the path has the ending of compressed files
abbrev pub ends_so : List ℕ → List ℕ → Bool
ends_so path ending = ends_with (λ a b. a == b) path ending

abbrev pub is_compressed : List ℕ → Bool
is_compressed path = ends_so path (codes ".gz") || ends_so path (codes ".bz2") || ends_so path (codes ".lzo") || ends_so path (codes ".zst")

-- the path that the text gives
pub data GivesPath : List ℕ → List ℕ → Type 0 where
  a_path : {text : List ℕ} → is_plain (kept text) ≡ true → is_compressed (kept text) ≡ false → GivesPath text (kept text)

pub data GivesNoPath : List ℕ → CheckKind → Type 0 where
  not_plain : {text : List ℕ} → is_plain (kept text) ≡ false → GivesNoPath text kind.Unsupported
  compressed : {text : List ℕ} → is_compressed (kept text) ≡ true → GivesNoPath text kind.Compressed

unfoldable pub path_of : List ℕ → Checked (List ℕ)
path_of text = if is_plain (kept text) then (if is_compressed (kept text) then Err kind.Compressed else Ok (kept text)) else Err kind.Unsupported

-- ---- collisions

-- the second path is the first, or goes on behind it with a slash: so its components begin with those of the first
abbrev pub is_within : List ℕ → List ℕ → Bool
is_within [] [] = true
is_within [] (b ∷ other) = b == slash
is_within (a ∷ path) [] = false
is_within (a ∷ path) (b ∷ other) = a == b && is_within path other

abbrev pub collide : List ℕ → List ℕ → Bool
collide path other = is_within path other || is_within other path
