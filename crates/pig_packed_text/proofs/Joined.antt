-- Texts that are joined: the first, and the others with the delimiter before each.
use Rattle.std.proofs.Common.{◌≡◌, ℕ, List, [], ◌∷◌, ◌++◌, refl, sym, ◌∙◌, ap, append-nil}
use Rattle.std.proofs.lemmas.List.{append_assoc}
use Rattle.std.specs.List.{flat_map, join_with_byte}

abbrev pub behind : ℕ → List (List ℕ) → List ℕ
behind c xs = flat_map (λ text. c ∷ text) xs

joined_first : (c : ℕ) (x : List ℕ) (xs : List (List ℕ)) → join_with_byte c (x ∷ xs) ≡ x ++ behind c xs
joined_first c x [] = sym (append-nil x)
joined_first c x (y ∷ ys) = ap (λ l. x ++ c ∷ l) (joined_first c y ys)

-- the first is written, and then the others
pub all_written : (c : ℕ) (old mid new first : List ℕ) (more texts : List (List ℕ)) → texts ≡ first ∷ more → mid ≡ old ++ first → new ≡ mid ++ behind c more
    → new ≡ old ++ join_with_byte c texts
all_written c old mid new first more texts is one others =
    others ∙ (ap (λ l. l ++ behind c more) one ∙ (append_assoc old first (behind c more)
    ∙ (ap (λ l. old ++ l) (sym (joined_first c first more)) ∙ ap (λ l. old ++ join_with_byte c l) (sym is))))
