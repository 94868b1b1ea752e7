-- Rows that are added in turn: all together they are joined behind those that were there.
use Rattle.std.proofs.Common.{◌≡◌, ◌+◌, ℕ, List, [], ◌∷◌, ◌++◌, map, take, sym, ◌∙◌, ap}
use Rattle.std.specs.Prelude.{Some, slice_get}
use Rattle.std.specs.List.{flat_map}
use Rattle.std.proofs.lemmas.List.{append-nil, append_assoc, map-append}
use Rattle.std.proofs.lemmas.List.Concat.{flat_map-append}
use Rattle.pig_value.specs.Trees.{Tree}
use Rattle.pig_value.proofs.list_laws.Indexing.{more_taken}
use Rattle.pig_packed.specs.Growth.{Begun, whole_rows, and_bytes, and_row, and_rows}

-- pieces of a row are one piece
pub and_bytes-append : (xs ys : List ℕ) (b : Begun) → and_bytes ys (and_bytes xs b) ≡ and_bytes (xs ++ ys) b
and_bytes-append xs ys b = ap (λ l. record { rows = b.rows; begun = l }) (append_assoc b.begun xs ys)

-- rows that are added to others are joined with them
pub and_rows-append : (xs ys : List (List Tree)) (b : Begun) → and_rows ys (and_rows xs b) ≡ and_rows (xs ++ ys) b
and_rows-append xs ys b = ap whole_rows (append_assoc b.rows xs ys)

-- a loop by index that adds one row for each element, and one that adds several
module _ {X : Type 0} (xs : List X) (at : ℕ) (x : X) (here : slice_get xs at ≡ Some x) (b so_far new : Begun) where
  pub one_mapped : (f : X → List Tree) → so_far ≡ and_rows (map f (take at xs)) b → new ≡ and_row (f x) so_far → new ≡ and_rows (map f (take (at + 1) xs)) b
  one_mapped f were is =
      is
      ∙ (ap (and_row (f x)) were
      ∙ (and_rows-append (map f (take at xs)) (f x ∷ []) b
      ∙ ap (λ l. and_rows l b) (sym (ap (map f) (more_taken xs at x here) ∙ map-append f (take at xs) (x ∷ [])))))

  pub some_mapped : (f : X → List (List Tree)) → so_far ≡ and_rows (flat_map f (take at xs)) b → new ≡ and_rows (f x) so_far → new ≡ and_rows (flat_map f (take (at + 1) xs)) b
  some_mapped f were is =
      is
      ∙ (ap (and_rows (f x)) were
      ∙ (and_rows-append (flat_map f (take at xs)) (f x) b
      ∙ ap (λ l. and_rows l b)
      (sym
      (ap (flat_map f) (more_taken xs at x here)
      ∙ (flat_map-append f (take at xs) (x ∷ []) ∙ ap (λ l. flat_map f (take at xs) ++ l) (append-nil (f x)))))))
