-- The path that is kept of a text, and its components.
use Rattle.std.proofs.Common.{◌≡◌, ◌∙◌, ◌<◌, ◌++◌, ◌≢◌, ℕ, Bool, true, false, List, [], ◌∷◌, length, ap, refl, sym}
use Rattle.std.specs.Prelude.{◌==◌, ◌&&◌, All, if◌then◌else◌}
use Rattle.std.specs.List.{after_first, before_first, list_all, position_or_len}
use Rattle.std.proofs.lemmas.List.Splits.{slice_split_first, slice_split_none}
use Rattle.pig_value.specs.FieldRows.{pieces}
use Rattle.std.proofs.lemmas.Bool.{eqb-true}
use Rattle.pig_check.specs.Paths.{below_root, is_component, kept, slash}

pub kept_without : (front : List ℕ) → kept (front ++ slash ∷ []) ≡ front
kept_without [] = refl
kept_without (a ∷ []) = refl
kept_without (a ∷ b ∷ front) = ap (λ rest. a ∷ rest) (kept_without (b ∷ front))

pub kept_whole : (text : List ℕ) → ((front : List ℕ) → text ≢ front ++ slash ∷ []) → kept text ≡ text
kept_whole [] none = refl
kept_whole (a ∷ []) none = by (a == slash) refl
  where
    by : (b : Bool) → (a == slash) ≡ b → (if b then [] else a ∷ []) ≡ a ∷ []
    by true e = absurd (none [] (ap (λ n. n ∷ []) (eqb-true a slash e)))
    by false e = refl
kept_whole (a ∷ b ∷ text) none = ap (λ rest. a ∷ rest) (kept_whole (b ∷ text) (λ front e. none (a ∷ front) (ap (λ rest. a ∷ rest) e)))

-- ---- the path below the root

pub below_itself : (path : List ℕ) → ((rest : List ℕ) → path ≢ slash ∷ rest) → below_root path ≡ path
below_itself [] none = refl
below_itself (a ∷ path) none = by (a == slash) refl
  where
    by : (b : Bool) → (a == slash) ≡ b → (if b then path else a ∷ path) ≡ a ∷ path
    by true e = absurd (none path (ap (λ n. n ∷ path) (eqb-true a slash e)))
    by false e = refl

-- ---- components

-- the first component, and those behind the slash
pub first_component : (left part rest : List ℕ) → position_or_len (λ b. b == slash) left < length left → part ≡ before_first (λ b. b == slash) left → rest ≡ after_first (λ b. b == slash) left
    → list_all is_component (pieces slash left) ≡ (is_component part && list_all is_component (pieces slash rest))
first_component left part rest h e g =
    ap (list_all is_component) (slice_split_first (λ b. b == slash) left 0 h)
    ∙ (λ i. is_component (sym e i) && list_all is_component (pieces slash (sym g i)))

-- where it is none, the path is none, and else it is one where those behind it are
pub stops : (left part rest path : List ℕ) → position_or_len (λ b. b == slash) left < length left → part ≡ before_first (λ b. b == slash) left → rest ≡ after_first (λ b. b == slash) left
    → false ≡ is_component part → list_all is_component (pieces slash left) ≡ list_all is_component (pieces slash path) → false ≡ list_all is_component (pieces slash path)
stops left part rest path h e g none is =
    ap (λ b. b && list_all is_component (pieces slash rest)) none ∙ sym (first_component left part rest h e g) ∙ is

pub goes_behind : (left part rest path : List ℕ) → position_or_len (λ b. b == slash) left < length left → part ≡ before_first (λ b. b == slash) left → rest ≡ after_first (λ b. b == slash) left
    → true ≡ is_component part → list_all is_component (pieces slash left) ≡ list_all is_component (pieces slash path)
    → list_all is_component (pieces slash rest) ≡ list_all is_component (pieces slash path)
goes_behind left part rest path h e g one is =
    ap (λ b. b && list_all is_component (pieces slash rest)) one ∙ sym (first_component left part rest h e g) ∙ is

-- the last one
pub last_component : (left : List ℕ) → All (λ b. (b == slash) ≡ false) left → list_all is_component (pieces slash left) ≡ is_component left
last_component left h = ap (list_all is_component) (slice_split_none (λ b. b == slash) left h) ∙ and_true (is_component left)
  where
    and_true : (b : Bool) → (b && true) ≡ b
    and_true true = refl
    and_true false = refl
