-- The sides of an outer JOIN.
use Rattle.std.proofs.Common.{◌≡◌, ◌≤◌, ◌==◌, ℕ, Bool, true, false, List, [], ◌∷◌, ◌++◌, map, length, refl, sym, ◌∙◌, ap, append_assoc, arith}
use Rattle.std.specs.Prelude.{not, ◌||◌, if◌then◌else◌}
use Rattle.pig_value.specs.declared.operators.Side.{Side}
use Rattle.pig_value.specs.Sorts.{Ascends}
use Rattle.pig_value.specs.Trees.{Tree}
use Rattle.pig_plan.specs.ByKey.{holds_null, is_empty, keeps_left, keeps_right, nulls, outer_of, rows_of}
use Rattle.std.specs.List.{range_with_len}
use Rattle.pig_runs.specs.Entries.{InDirections}
use Rattle.pig_typed.specs.Products.{product}
use Rattle.pig_operators.specs.Groups.{AreSides, IsInput, between, group_entries}
use Rattle.pig_operators.proofs.Apart.{none_between}
use Rattle.pig_operators.proofs.Inputs.{Remains, input_behind, input_rows, remains_all}
use Rattle.pig_operators.proofs.Sorted.{behind_key}

pub sides_are : (run : InDirections) (from end middle last : ℕ) → from ≤ end → end ≤ length run.entries → Ascends behind_key (between from end run.entries) → IsInput run from end 0 middle → IsInput run middle end 1 last
    → AreSides run from end middle last
sides_are run from end middle last order within up a b =
    let all : Remains run.entries from from end 0 = remains_all run.entries from end order in
    let behind : Remains run.entries from middle end 1 = input_behind run from from end 0 middle all a up in
    record {
      left_order = a.order;
      right_order = b.order;
      within = (let high = b.within in omega (arith, high, within));
      left = input_rows run from from end 0 middle all a up;
      right = input_rows run from middle end 1 last behind b up;
    }

module _ (s : Side) (m n : ℕ) (k : Tree) (rows : ℕ → List (List Tree)) where
  abbrev alone_rows : List (List Tree)
  alone_rows = (if keeps_left s then map (λ row. row ++ nulls n) (rows 0) else []) ++ (if keeps_right s then map (λ row. nulls m ++ row) (rows 1) else [])

  abbrev tested : Bool → List (List Tree)
  tested b = if b then alone_rows else product (rows 0 ∷ rows 1 ∷ [])

  abbrev partner_test : Bool
  partner_test = holds_null k || is_empty (rows 0) || is_empty (rows 1)

  pub outer_apart : partner_test ≡ true → outer_of s m n k rows ≡ alone_rows
  outer_apart h = ap tested h

  pub outer_joined : partner_test ≡ false → outer_of s m n k rows ≡ product (rows 0 ∷ rows 1 ∷ [])
  outer_joined h = ap tested h

-- whether there are partners, by places
partners_by_place : (run : InDirections) (from end middle last : ℕ) (k : Tree) (rows : ℕ → List (List Tree)) → from ≤ middle → middle ≤ last → last ≤ length run.entries
    → rows 0 ≡ map (λ e. e.row) (between from middle run.entries) → rows 1 ≡ map (λ e. e.row) (between middle last run.entries)
    → (holds_null k || is_empty (rows 0) || is_empty (rows 1)) ≡ (holds_null k || (from == middle) || (middle == last))
partners_by_place run from end middle last k rows a b c left right =
    let low : middle ≤ length run.entries = omega (arith, b, c) in
    λ i. holds_null k || (ap is_empty left ∙ none_between (λ e. e.row) from middle run.entries a low) i || (ap is_empty right ∙ none_between (λ e. e.row) middle last run.entries b c) i

off : (b c : Bool) → b ≡ not c → b ≡ true → c ≡ false
off b true h k = absurd (let wrong : false ≡ true = sym h ∙ k in cc)
off b false h k = refl

on : (b c : Bool) → b ≡ not c → b ≡ false → c ≡ true
on b true h k = refl
on b false h k = absurd (let wrong : true ≡ false = sym h ∙ k in cc)

module _ (run : InDirections) (from end middle last : ℕ) (sides : AreSides run from end middle last) (s : Side) (m n : ℕ) (k : Tree) (partners : Bool)
    (told : partners ≡ not (holds_null k || (from == middle) || (middle == last))) where
  abbrev rows : ℕ → List (List Tree)
  rows = rows_of (group_entries run from end)

  abbrev lefts : List (List Tree)
  lefts = map (λ e. e.row) (between from middle run.entries)

  abbrev rights : List (List Tree)
  rights = map (λ e. e.row) (between middle last run.entries)

  test_is : (holds_null k || is_empty (rows 0) || is_empty (rows 1)) ≡ (holds_null k || (from == middle) || (middle == last))
  test_is = partners_by_place run from end middle last k rows sides.left_order sides.right_order sides.within sides.left sides.right

  pub outer_with : partners ≡ true → outer_of s m n k rows ≡ product (map rows (range_with_len 0 2))
  outer_with yes_is = outer_joined s m n k rows (test_is ∙ off partners (holds_null k || (from == middle) || (middle == last)) told yes_is)

  pub outer_without : partners ≡ false → (l r : Bool) → l ≡ keeps_left s → r ≡ keeps_right s → (old mid new : List (List Tree))
      → mid ≡ old ++ (if l then map (λ row. row ++ nulls n) lefts else []) → new ≡ mid ++ (if r then map (λ row. nulls m ++ row) rights else []) → new ≡ old ++ outer_of s m n k rows
  outer_without no_is l r left right old mid new first second =
      let a = if l then map (λ row. row ++ nulls n) lefts else [] in
      let b = if r then map (λ row. nulls m ++ row) rights else [] in
      second
      ∙ (ap (λ x. x ++ b) first
      ∙ (append_assoc old a b
      ∙ ap (λ x. old ++ x)
      ((λ i. (if left i then map (λ row. row ++ nulls n) (sym sides.left i) else []) ++ (if right i then map (λ row. nulls m ++ row) (sym sides.right i) else []))
      ∙ sym (outer_apart s m n k rows (test_is ∙ on partners (holds_null k || (from == middle) || (middle == last)) told no_is)))))
