-- What a code stands before is told apart from the code: equal bytes begin with equal parts.
use Rattle.std.proofs.Common.{◌≡◌, ℕ, List, [], ◌∷◌, ◌++◌, refl, sym, ◌∙◌, ap}
use Rattle.std.specs.Ordering.{nat_cmp, ordering_then}
use Rattle.std.specs.Cmp.Lexicographic.{slice_cmp}
use Rattle.std.specs.declared.cmp.Ordering.{Ordering}
use Rattle.std.specs.declared.cmp.Ordering.TheVariants.{Less, Equal, Greater}
use Rattle.std.proofs.lemmas.Cmp.{ranked}
use Rattle.std.specs.Cmp.{nat_cmp_is}
use Rattle.pig_value.specs.Trees.{Tree}
use Rattle.pig_value.specs.Orders.{text_cmp, tree_cmp}
use Rattle.pig_value.proofs.OrderLaws.{tree_same}
use Rattle.pig_value.specs.Valid.{IsValue}
use Rattle.pig_keycode.specs.Codes.{text_code, code}
use Rattle.pig_keycode.proofs.TextOrder.{text_order}
use Rattle.pig_keycode.proofs.CodeOrder.{code_order}

pub itself : (xs : List ℕ) → slice_cmp nat_cmp xs xs ≡ Equal
itself [] = refl
itself (x ∷ xs) = ap (λ r. ordering_then r (slice_cmp nat_cmp xs xs)) (sym (nat_cmp_is x x Equal refl)) ∙ itself xs

pub both_equal : (r s : Ordering) → ordering_then r s ≡ Equal → (r ≡ Equal) × (s ≡ Equal)
both_equal Less s h = absurd (cc)
both_equal Equal s h = (refl, h)
both_equal Greater s h = absurd (cc)

same_byte : (x y : ℕ) (r : Ordering) → r ≡ nat_cmp x y → r ≡ Equal → x ≡ y
same_byte x y Less h e = absurd (cc)
same_byte x y Equal h e = ranked x y Equal h
same_byte x y Greater h e = absurd (cc)

pub same_bytes : (xs ys : List ℕ) → slice_cmp nat_cmp xs ys ≡ Equal → xs ≡ ys
same_bytes [] [] h = refl
same_bytes [] (y ∷ ys) h = absurd (cc)
same_bytes (x ∷ xs) [] h = absurd (cc)
same_bytes (x ∷ xs) (y ∷ ys) h =
    let both = both_equal (nat_cmp x y) (slice_cmp nat_cmp xs ys) h in
    ap (λ z. z ∷ xs) (same_byte x y (nat_cmp x y) refl both.0) ∙ ap (λ zs. y ∷ zs) (same_bytes xs ys both.1)

-- bytes that compare part by part are equal part by part
pub parts_equal : (xs ys s t : List ℕ) (r : Ordering) → slice_cmp nat_cmp xs ys ≡ ordering_then r (slice_cmp nat_cmp s t) → xs ≡ ys → (r ≡ Equal) × (s ≡ t)
parts_equal xs ys s t r law e =
    let both = both_equal r (slice_cmp nat_cmp s t) (sym law ∙ (ap (λ l. slice_cmp nat_cmp xs l) (sym e) ∙ itself xs)) in
    (both.0, same_bytes s t both.1)

pub text_told : (a b s t : List ℕ) → text_code a ++ s ≡ text_code b ++ t → (a ≡ b) × (s ≡ t)
text_told a b s t e =
    let both = parts_equal (text_code a ++ s) (text_code b ++ t) s t (text_cmp a b) (text_order a b s t) e in
    (same_bytes a b both.0, both.1)

pub code_told : (a b : Tree) (s t : List ℕ) → IsValue a → IsValue b → code a ++ s ≡ code b ++ t → (a ≡ b) × (s ≡ t)
code_told a b s t h k e =
    let both = parts_equal (code a ++ s) (code b ++ t) s t (tree_cmp a b) (code_order a b h k s t) e in
    (tree_same a b both.0, both.1)
