-- Rows that are moved to the front of a list.
use Rattle.std.specs.Prelude.{◌≡◌, ◌+◌, ℕ, Bool, List, ◌++◌, map, take, drop}
use Rattle.std.proofs.Common.{ap, sym, ◌∙◌}
use Rattle.std.specs.List.{filter}
use Rattle.std.proofs.Math.Seq.{take-add}
use Rattle.std.proofs.lemmas.List.{drop-drop, map-append}
use Rattle.std.proofs.lemmas.List.Elements.{filter-append}

module _ {V : Type 0} where
  -- what stands behind a place more
  pub behind_one : (xs ys : List V) (i : ℕ) → drop i xs ≡ drop i ys → drop (i + 1) xs ≡ drop (i + 1) ys
  behind_one xs ys i same = sym (drop-drop 1 i xs) ∙ ap (drop 1) same ∙ drop-drop 1 i ys

module _ {V X : Type 0} (p : X → Bool) (f : V → X) where
  -- a turn of the loop
  pub kept_more : (all old new : List V) (front n i : ℕ) → map f (take front old) ≡ filter p (map f (take i all)) → drop i old ≡ drop i all
      → map f (take n new) ≡ map f (take front old) ++ filter p (map f (take 1 (drop i old))) → map f (take n new) ≡ filter p (map f (take (i + 1) all))
  kept_more all old new front n i were rest is =
      is
      ∙ (λ j. were j ++ filter p (map f (take 1 (rest j))))
      ∙ sym (filter-append p (map f (take i all)) (map f (take 1 (drop i all))))
      ∙ ap (filter p) (sym (map-append f (take i all) (take 1 (drop i all))) ∙ ap (map f) (sym (take-add i 1 all)))
