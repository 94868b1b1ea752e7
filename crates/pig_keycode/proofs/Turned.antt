-- Codes as bytes, whole: what follows of their order, and the same where each byte is turned round.
use Rattle.std.proofs.Common.{◌≡◌, ◌<◌, ◌-◌, ℕ, List, [], ◌∷◌, ◌++◌, refl, arith, sym, ◌∙◌, ap}
use Rattle.std.specs.Ordering.{nat_cmp, ordering_then, ordering_reverse}
use Rattle.std.specs.Cmp.{nat_cmp_is}
use Rattle.std.specs.Cmp.Lexicographic.{slice_cmp}
use Rattle.std.specs.declared.cmp.Ordering.{Ordering}
use Rattle.std.specs.declared.cmp.Ordering.TheVariants.{Less, Equal, Greater}
use Rattle.std.proofs.lemmas.List.{append-nil}
use Rattle.std.proofs.lemmas.Cmp.{ranked, nat_cmp_total, lists_total}
use Rattle.pig_value.specs.Trees.{Tree}
use Rattle.pig_value.specs.Orders.{tree_cmp}
use Rattle.pig_value.proofs.OrderLaws.{tree_same, tree_total}
use Rattle.pig_value.specs.Valid.{IsValue}
use Rattle.pig_keycode.specs.Codes.{code, turned}
use Rattle.pig_value.specs.Leaves.{AreBytes}
use Rattle.pig_keycode.proofs.CodeOrder.{code_order}
use Rattle.pig_keycode.proofs.CodeBytes.{code_bytes}
use Rattle.pig_keycode.proofs.Unique.{code_told}

pub then_nothing : (r : Ordering) → ordering_then r Equal ≡ r
then_nothing Less = refl
then_nothing Equal = refl
then_nothing Greater = refl

pub whole_order : (a b : Tree) → IsValue a → IsValue b → slice_cmp nat_cmp (code a) (code b) ≡ tree_cmp a b
whole_order a b h k =
    ap (λ l. slice_cmp nat_cmp l (code b)) (sym (append-nil (code a)))
    ∙ (ap (λ l. slice_cmp nat_cmp (code a ++ []) l) (sym (append-nil (code b)))
    ∙ (code_order a b h k [] [] ∙ then_nothing (tree_cmp a b)))

pub no_prefix : (a b : Tree) (more : List ℕ) → IsValue a → IsValue b → code a ++ more ≡ code b → more ≡ []
no_prefix a b more h k e = (code_told a b more [] h k (e ∙ sym (append-nil (code b)))).1

pub one_value : (a b : Tree) → IsValue a → IsValue b → code a ≡ code b → a ≡ b
one_value a b h k e = (code_told a b [] [] h k (ap (λ l. l ++ []) e)).0

-- where the first bytes that differ are less, they are greater turned round, whatever follows; bytes that go on are
-- not less
first_differs : (x y : ℕ) (xs ys s t : List ℕ) (r : Ordering) → y < 256 → r ≡ nat_cmp x y
    → (slice_cmp nat_cmp (xs ++ 256 ∷ []) ys ≡ Less → slice_cmp nat_cmp (turned xs ++ s) (turned ys ++ t) ≡ Greater)
    → ordering_then r (slice_cmp nat_cmp (xs ++ 256 ∷ []) ys) ≡ Less
    → ordering_then (nat_cmp (255 - x) (255 - y)) (slice_cmp nat_cmp (turned xs ++ s) (turned ys ++ t)) ≡ Greater
first_differs x y xs ys s t Less small is rest h =
    let less : x < y = ranked x y Less is in
    ap (λ r. ordering_then r (slice_cmp nat_cmp (turned xs ++ s) (turned ys ++ t))) (sym (nat_cmp_is (255 - x) (255 - y) Greater (omega arith)))
first_differs x y xs ys s t Equal small is rest h =
    let same : x ≡ y = ranked x y Equal is in
    ap (λ r. ordering_then r (slice_cmp nat_cmp (turned xs ++ s) (turned ys ++ t))) (sym (nat_cmp_is (255 - x) (255 - y) Equal (ap (λ z. 255 - z) same))) ∙ rest h
first_differs x y xs ys s t Greater small is rest h = absurd (cc)

not_less : (y : ℕ) (more : Ordering) (r : Ordering) → y < 256 → r ≡ nat_cmp 256 y → ordering_then r more ≡ Less → 256 < y
not_less y more Less small is h = ranked 256 y Less is
not_less y more Equal small is h = absurd (let e : 256 ≡ y = ranked 256 y Equal is in omega arith)
not_less y more Greater small is h = absurd (cc)

less_turned : (xs ys s t : List ℕ) → AreBytes ys → slice_cmp nat_cmp (xs ++ 256 ∷ []) ys ≡ Less → slice_cmp nat_cmp (turned xs ++ s) (turned ys ++ t) ≡ Greater
less_turned [] [] s t b h = absurd (cc)
less_turned [] (y ∷ ys) s t b h = absurd (let wrong : 256 < y = not_less y (slice_cmp nat_cmp [] ys) (nat_cmp 256 y) b.0 refl h in let small : y < 256 = b.0 in omega arith)
less_turned (x ∷ xs) [] s t b h = absurd (cc)
less_turned (x ∷ xs) (y ∷ ys) s t b h = first_differs x y xs ys s t (nat_cmp x y) b.0 refl (less_turned xs ys s t b.1) h

code_turned : (a b : Tree) (s t : List ℕ) → IsValue a → IsValue b → tree_cmp a b ≡ Less → slice_cmp nat_cmp (turned (code a) ++ s) (turned (code b) ++ t) ≡ Greater
code_turned a b s t h k less =
    less_turned (code a) (code b) s t (code_bytes b k)
    (ap (λ l. slice_cmp nat_cmp (code a ++ 256 ∷ []) l) (sym (append-nil (code b)))
    ∙ (code_order a b h k (256 ∷ []) [] ∙ ap (λ r. ordering_then r Greater) less))

-- the same bytes before others
behind_same : (xs s t : List ℕ) → slice_cmp nat_cmp (xs ++ s) (xs ++ t) ≡ slice_cmp nat_cmp s t
behind_same [] s t = refl
behind_same (x ∷ xs) s t = ap (λ r. ordering_then r (slice_cmp nat_cmp (xs ++ s) (xs ++ t))) (sym (nat_cmp_is x x Equal refl)) ∙ behind_same xs s t

pub turned_followed : (a b : Tree) (s t : List ℕ) → IsValue a → IsValue b → slice_cmp nat_cmp (turned (code a) ++ s) (turned (code b) ++ t) ≡ ordering_then (ordering_reverse (tree_cmp a b)) (slice_cmp nat_cmp s t)
turned_followed a b s t h k = by (tree_cmp a b) refl
  where
    by : (r : Ordering) → tree_cmp a b ≡ r → slice_cmp nat_cmp (turned (code a) ++ s) (turned (code b) ++ t) ≡ ordering_then (ordering_reverse r) (slice_cmp nat_cmp s t)
    by Less e = code_turned a b s t h k e
    by Equal e = ap (λ v. slice_cmp nat_cmp (turned (code a) ++ s) (turned (code v) ++ t)) (sym (tree_same a b e)) ∙ behind_same (turned (code a)) s t
    by Greater e =
        (lists_total nat_cmp_total).antisymm (turned (code a) ++ s) (turned (code b) ++ t)
        ∙ ap ordering_reverse (code_turned b a t s k h (tree_total.antisymm b a ∙ ap ordering_reverse e))

pub turned_order : (a b : Tree) → IsValue a → IsValue b → slice_cmp nat_cmp (turned (code a)) (turned (code b)) ≡ ordering_reverse (tree_cmp a b)
turned_order a b h k =
    ap (λ l. slice_cmp nat_cmp l (turned (code b))) (sym (append-nil (turned (code a))))
    ∙ (ap (λ l. slice_cmp nat_cmp (turned (code a) ++ []) l) (sym (append-nil (turned (code b))))
    ∙ (turned_followed a b [] [] h k ∙ then_nothing (ordering_reverse (tree_cmp a b))))
