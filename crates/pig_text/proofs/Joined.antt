-- One more text joined to those before it.
use Rattle.std.proofs.Common.{◌≡◌, ℕ, ◌+◌, ◌<◌, ◌==◌, Bool, true, false, if◌then◌else◌, List, [], ◌∷◌, ◌++◌, length, map, take, get_or, refl, sym, ◌∙◌, ap, subst, arith}
use Rattle.std.specs.List.{join_with_byte}
use Rattle.std.proofs.lemmas.Bool.Decides.{Decides-eqb, not_from_Decides}
use Rattle.std.proofs.lemmas.List.{append_assoc, get_or-map, length-map, length-take-le, take_more}

joined_more : (c : ℕ) (y : List ℕ) (ys : List (List ℕ)) (x : List ℕ) → join_with_byte c ((y ∷ ys) ++ x ∷ []) ≡ join_with_byte c (y ∷ ys) ++ c ∷ x
joined_more c y [] x = refl
joined_more c y (z ∷ zs) x = ap (λ l. y ++ c ∷ l) (joined_more c z zs x) ∙ sym (append_assoc y (c ∷ join_with_byte c (z ∷ zs)) (c ∷ x))

joined_some : (c : ℕ) (ys : List (List ℕ)) (x : List ℕ) → 0 < length ys → join_with_byte c (ys ++ x ∷ []) ≡ join_with_byte c ys ++ c ∷ x
joined_some c [] x h = absurd (omega arith)
joined_some c (y ∷ ys) x h = joined_more c y ys x

-- one more text stands behind those so far, with the separator between them where it isn't the first
pub joined_next : (c : ℕ) (texts : List (List ℕ)) (i : ℕ) (x : List ℕ) → i < length texts → get_or texts i x ≡ x
    → (join_with_byte c (take i texts) ++ (if i == 0 then [] else c ∷ [])) ++ x ≡ join_with_byte c (take (i + 1) texts)
joined_next c texts i x within at = by_first (i == 0) refl
  where
    more : take (i + 1) texts ≡ take i texts ++ x ∷ []
    more = take_more texts i x within ∙ ap (λ y. take i texts ++ y ∷ []) at

    by_first : (b : Bool) → (i == 0) ≡ b → (join_with_byte c (take i texts) ++ (if b then [] else c ∷ [])) ++ x ≡ join_with_byte c (take (i + 1) texts)
    by_first true e =
        let none : i ≡ 0 = (Decides-eqb i 0).0 e in
        let empty : take i texts ≡ [] = ap (λ n. take n texts) none in
        ap (λ l. (join_with_byte c l ++ []) ++ x) empty ∙ sym (ap (join_with_byte c) (more ∙ ap (λ l. l ++ x ∷ []) empty))
    by_first false e =
        let some : ¬ (i ≡ 0) = not_from_Decides (i == 0) (Decides-eqb i 0) e in
        let long : 0 < length (take i texts) = omega (arith, length-take-le i texts) in
        append_assoc (join_with_byte c (take i texts)) (c ∷ []) x ∙ sym (ap (join_with_byte c) more ∙ joined_some c (take i texts) x long)

-- the text of an item, by two maps over the items
pub text_at : {V T : Type 0} (g : T → List ℕ) (f : V → T) (items : List V) (i : ℕ) (item : V) → i < length items → item ≡ get_or items i item
    → get_or (map g (map f items)) i (g (f item)) ≡ g (f item)
text_at g f items i item within at =
    get_or-map g (map f items) i (f item) (g (f item)) (omega (arith, length-map items f)) ∙ ap g (get_or-map f items i item (f item) within ∙ ap f (sym at))

pub count_of_texts : {V T : Type 0} (g : T → List ℕ) (f : V → T) (items : List V) → length (map g (map f items)) ≡ length items
count_of_texts g f items = length-map (map f items) g ∙ length-map items f

-- a step of a loop that tells items
module _ {X V T : Type 0} (after : X → List ℕ → X → Type 0) (onwards : (a b c : X) (xs ys : List ℕ) → after a xs b → after b ys c → after a (xs ++ ys) c) (g : T → List ℕ) (f : V → T) where
  pub tells_next : (c : ℕ) (items : List V) (i : ℕ) (item : V) (start old begun new : X) → i < length items → item ≡ get_or items i item
      → after start (join_with_byte c (take i (map g (map f items)))) old → after old (if i == 0 then [] else c ∷ []) begun → after begun (g (f item)) new
      → after start (join_with_byte c (take (i + 1) (map g (map f items)))) new
  tells_next c items i item start old begun new within at so_far separated told =
      let texts : List (List ℕ) = map g (map f items) in
      let sep : List ℕ = if i == 0 then [] else c ∷ [] in
      let inside : i < length texts = subst (λ n. i < n) (sym (count_of_texts g f items)) within in
      subst (λ l. after start l new) (joined_next c texts i (g (f item)) inside (text_at g f items i item within at))
      (onwards start begun new (join_with_byte c (take i texts) ++ sep) (g (f item)) (onwards start old begun (join_with_byte c (take i texts)) sep so_far separated) told)
