-- Rows that are joined as they come with the sides of a replicated JOIN.
-- (Pig Latin Basics: "JOIN (inner)", "JOIN (outer)", "Replicated Joins".)
use Rattle.std.specs.Prelude.{◌≡◌, ℕ, List, [], ◌∷◌, ◌++◌, map, Option, refl}
use Rattle.std.proofs.Common.{ap, sym, ◌∙◌, append-nil, append_assoc}
use Rattle.std.specs.List.{AllByRecursion, flat_map}
use Rattle.std.proofs.lemmas.Grind.{flat_map-append}
use Rattle.pig_value.specs.Trees.{Tree}
use Rattle.pig_value.specs.Valid.{IsRow}
use Rattle.pig_typed.specs.Typed.{Typed, typed}
use Rattle.pig_typed.specs.declared.exprs.TExpr.{TExpr}
use Rattle.pig_replicated.specs.Holding.{KeyedRow, key_in}
use Rattle.pig_replicated.specs.Joining.{probe_rows, probed}

-- the sides: what is looked up, and the number of nulls behind a row that is kept without a match
abbrev pub SidesSeen : Type 0
SidesSeen = List (List KeyedRow) × Option ℕ

-- the rows of a lookup are rows of values
abbrev pub HoldsRows : List KeyedRow → Type 0
HoldsRows held = AllByRecursion (λ r. IsRow r.row) held

-- what a row of the first input gives, and what rows do, one after another
abbrev pub probed_row : SidesSeen → List Typed → List Tree → List (List Tree)
probed_row sides keys row = probe_rows sides.0 sides.1 (key_in keys row) row

abbrev pub probed_by : SidesSeen → List Typed → List (List Tree) → List (List Tree)
probed_by sides keys rows = probed sides.0 sides.1 keys rows

-- what these rows give stands behind the rows that were there; keys and sides stay
pub record HasProbed (keys : List TExpr) (sides : SidesSeen) (old rows : List (List Tree)) (keys_new : List TExpr) (sides_new : SidesSeen)
    (new : List (List Tree)) : Type 0 where
  pub keys_are : keys_new ≡ keys
  pub sides_are : sides_new ≡ sides
  pub rows_are : new ≡ old ++ probed_by sides (map typed keys) rows

-- ---- laws

pub probed_nothing : (keys : List TExpr) (sides : SidesSeen) (rows : List (List Tree)) → HasProbed keys sides rows [] keys sides rows
probed_nothing keys sides rows = record { keys_are = refl; sides_are = refl; rows_are = sym (append-nil rows) }

pub probed_onwards : (ka kb kc : List TExpr) (sa sb sc : SidesSeen) (a b c xs ys : List (List Tree))
    → HasProbed ka sa a xs kb sb b → HasProbed kb sb b ys kc sc c → HasProbed ka sa a (xs ++ ys) kc sc c
probed_onwards ka kb kc sa sb sc a b c xs ys h k = record {
  keys_are = k.keys_are ∙ h.keys_are;
  sides_are = k.sides_are ∙ h.sides_are;
  rows_are =
      k.rows_are
      ∙ (λ i. h.rows_are i ++ probed_by (h.sides_are i) (map typed (h.keys_are i)) ys)
      ∙ append_assoc a (probed_by sa (map typed ka) xs) (probed_by sa (map typed ka) ys)
      ∙ ap (λ rows. a ++ rows) (sym (flat_map-append (probed_row sa (map typed ka)) xs ys));
}
