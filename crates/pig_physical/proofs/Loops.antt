-- Loops that add to a list.
use Rattle.std.specs.Prelude.{◌≡◌, ◌+◌, ℕ, List, [], ◌∷◌, ◌++◌, map}
use Rattle.std.proofs.Common.{ap, sym, ◌∙◌, arith, append_assoc}
use Rattle.std.specs.List.{range_with_len}
use Rattle.std.proofs.lemmas.List.FromFn.{map-range_with_len_more}

-- one more of the things that are numbered from 0
pub one_more : {X : Type 0} (f : ℕ → X) (old found next : List X) (n : ℕ) (x : X) → found ≡ old ++ map f (range_with_len 0 n) → next ≡ found ++ x ∷ [] → x ≡ f n
    → next ≡ old ++ map f (range_with_len 0 (n + 1))
one_more f old found next n x so_far adds is =
    adds ∙ ap (λ xs. xs ++ x ∷ []) so_far ∙ append_assoc old (map f (range_with_len 0 n)) (x ∷ [])
    ∙ ap (λ y. old ++ (map f (range_with_len 0 n) ++ y ∷ [])) is
    ∙ ap (λ xs. old ++ xs) (sym (map-range_with_len_more f 0 n n (omega arith)))
