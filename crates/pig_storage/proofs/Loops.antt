-- Steps of the loop that reads a row.
use Rattle.std.proofs.Common.{◌≡◌, ℕ, ◌+◌, ◌<◌, ◌≤◌, List, [], ◌∷◌, ◌++◌, length, map, drop, get_or, sym, ◌∙◌, ap}
use Rattle.std.proofs.lemmas.List.{append_assoc, append-nil, drop_all, drop_more, map-append}

-- one more value is pushed, and one element less is left to read
pub reads_one : {C V T : Type 0} (f : V → T) (g : C → T) (cs : List C) (i : ℕ) (c : C) (row next : List V) (v : V) (whole : List T) → i < length cs → c ≡ get_or cs i c → map f row ++ map g (drop i cs) ≡ whole → next ≡ row ++ v ∷ [] → f v ≡ g c → map f next ++ map g (drop (i + 1) cs) ≡ whole
reads_one f g cs i c row next v whole within at so_far pushed same =
    let rest : List _ = map g (drop (i + 1) cs) in
    let here : drop i cs ≡ c ∷ drop (i + 1) cs = drop_more cs i c within ∙ ap (λ x. x ∷ drop (i + 1) cs) (sym at) in
    let grown : map f next ≡ map f row ++ f v ∷ [] = ap (map f) pushed ∙ map-append f row (v ∷ []) in
    ap (λ l. l ++ rest) grown ∙ (append_assoc (map f row) (f v ∷ []) rest ∙ (ap (λ t. map f row ++ t ∷ rest) same ∙ (ap (λ l. map f row ++ map g l) (sym here) ∙ so_far)))

-- and at the end nothing is left
pub reads_all : {C V T : Type 0} (f : V → T) (g : C → T) (cs : List C) (i : ℕ) (row : List V) (whole : List T) → length cs ≤ i → map f row ++ map g (drop i cs) ≡ whole → map f row ≡ whole
reads_all f g cs i row whole past so_far = sym (append-nil (map f row)) ∙ (ap (λ l. map f row ++ map g l) (sym (drop_all i cs past)) ∙ so_far)
