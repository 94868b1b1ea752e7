-- Texts as they are written compare as texts do, whatever follows them.
use Rattle.std.proofs.Common.{◌≡◌, ℕ, zero, suc, List, [], ◌∷◌, ◌++◌, refl, arith, sym, ◌∙◌, ap}
use Rattle.std.specs.Ordering.{nat_cmp, ordering_then}
use Rattle.std.specs.Cmp.{nat_cmp_is}
use Rattle.std.specs.Cmp.Lexicographic.{slice_cmp}
use Rattle.std.specs.declared.cmp.Ordering.{Ordering}
use Rattle.std.specs.declared.cmp.Ordering.TheVariants.{Less, Equal, Greater}
use Rattle.std.proofs.lemmas.List.{append_assoc}
use Rattle.pig_value.specs.Orders.{text_cmp}
use Rattle.pig_keycode.specs.Codes.{escaped, text_code}

pub then_assoc : (r s t : Ordering) → ordering_then (ordering_then r s) t ≡ ordering_then r (ordering_then s t)
then_assoc Less s t = refl
then_assoc Equal s t = refl
then_assoc Greater s t = refl

zero_less : (n : ℕ) → nat_cmp 0 (suc n) ≡ Less
zero_less n = sym (nat_cmp_is 0 (suc n) Less (omega arith))

more_greater : (n : ℕ) → nat_cmp (suc n) 0 ≡ Greater
more_greater n = sym (nat_cmp_is (suc n) 0 Greater (omega arith))

ends_order : (a b s t : List ℕ) → slice_cmp nat_cmp (escaped a ++ 0 ∷ 0 ∷ s) (escaped b ++ 0 ∷ 0 ∷ t) ≡ ordering_then (text_cmp a b) (slice_cmp nat_cmp s t)
ends_order [] [] s t = refl
ends_order [] (zero ∷ b) s t = refl
ends_order [] (suc y ∷ b) s t = ap (λ r. ordering_then r (slice_cmp nat_cmp (0 ∷ s) (escaped b ++ 0 ∷ 0 ∷ t))) (zero_less y)
ends_order (zero ∷ a) [] s t = refl
ends_order (suc x ∷ a) [] s t = ap (λ r. ordering_then r (slice_cmp nat_cmp (escaped a ++ 0 ∷ 0 ∷ s) (0 ∷ t))) (more_greater x)
ends_order (zero ∷ a) (zero ∷ b) s t = ends_order a b s t
ends_order (zero ∷ a) (suc y ∷ b) s t =
    ap (λ r. ordering_then r (slice_cmp nat_cmp (255 ∷ (escaped a ++ 0 ∷ 0 ∷ s)) (escaped b ++ 0 ∷ 0 ∷ t))) (zero_less y)
    ∙ sym (ap (λ r. ordering_then (ordering_then r (text_cmp a b)) (slice_cmp nat_cmp s t)) (zero_less y))
ends_order (suc x ∷ a) (zero ∷ b) s t =
    ap (λ r. ordering_then r (slice_cmp nat_cmp (escaped a ++ 0 ∷ 0 ∷ s) (255 ∷ (escaped b ++ 0 ∷ 0 ∷ t)))) (more_greater x)
    ∙ sym (ap (λ r. ordering_then (ordering_then r (text_cmp a b)) (slice_cmp nat_cmp s t)) (more_greater x))
ends_order (suc x ∷ a) (suc y ∷ b) s t =
    ap (ordering_then (nat_cmp (suc x) (suc y))) (ends_order a b s t) ∙ sym (then_assoc (nat_cmp (suc x) (suc y)) (text_cmp a b) (slice_cmp nat_cmp s t))

pub text_order : (a b s t : List ℕ) → slice_cmp nat_cmp (text_code a ++ s) (text_code b ++ t) ≡ ordering_then (text_cmp a b) (slice_cmp nat_cmp s t)
text_order a b s t =
    ap (λ x. slice_cmp nat_cmp x (text_code b ++ t)) (append_assoc (escaped a) (0 ∷ 0 ∷ []) s)
    ∙ (ap (λ y. slice_cmp nat_cmp (escaped a ++ 0 ∷ 0 ∷ s) y) (append_assoc (escaped b) (0 ∷ 0 ∷ []) t) ∙ ends_order a b s t)
