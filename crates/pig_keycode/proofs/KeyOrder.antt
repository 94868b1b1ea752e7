-- Codes of keys compare as the keys do in their directions, whatever follows them.
use Rattle.std.proofs.Common.{◌≡◌, ℕ, List, [], ◌∷◌, ◌++◌, length, refl, sym, ◌∙◌, ap, subst, arith}
use Rattle.std.specs.Ordering.{nat_cmp, ordering_then}
use Rattle.std.specs.Cmp.Lexicographic.{slice_cmp}
use Rattle.std.specs.declared.cmp.Ordering.{Ordering}
use Rattle.std.specs.declared.cmp.Ordering.TheVariants.{Less, Equal, Greater}
use Rattle.std.specs.Cmp.{IsTotalOrder}
use Rattle.std.proofs.lemmas.Cmp.{then_total, on_total, tied_itself}
use Rattle.std.proofs.lemmas.List.{append-nil}
use Rattle.pig_value.specs.Trees.{Tree, v_tuple, fields_of}
use Rattle.pig_value.specs.Orders.{tree_cmp, dir_cmp, dirs_cmp}
use Rattle.pig_value.specs.Valid.{IsValue, IsRow}
use Rattle.pig_value.specs.declared.operators.Dir.{Dir}
use Rattle.pig_value.specs.declared.operators.Dir.TheVariants as dir
use Rattle.pig_value.proofs.OrderLaws.{tree_total, tree_same, dirs_total, dirs_same}
use Rattle.pig_keycode.specs.Codes.{code_in}
use Rattle.pig_keycode.specs.Keys.{IsKey, fields_of_key, key_cmp, codes_in, key_code}
use Rattle.pig_keycode.proofs.CodeOrder.{chained, code_order}
use Rattle.pig_keycode.proofs.Turned.{turned_followed, then_nothing}
use Rattle.pig_keycode.proofs.Unique.{both_equal, parts_equal}

-- one field in its direction
pub field_order : (d : Dir) (a b : Tree) → IsValue a → IsValue b → (s t : List ℕ) → slice_cmp nat_cmp (code_in d a ++ s) (code_in d b ++ t) ≡ ordering_then (dir_cmp d a b) (slice_cmp nat_cmp s t)
field_order dir.Asc a b h k s t = code_order a b h k s t
field_order dir.Desc a b h k s t = turned_followed a b s t h k ∙ ap (λ r. ordering_then r (slice_cmp nat_cmp s t)) (sym (tree_total.antisymm b a))

fields_order : (ds : List Dir) (xs ys : List Tree) → length xs ≡ length ds → length ys ≡ length ds → IsRow xs → IsRow ys → (s t : List ℕ)
    → slice_cmp nat_cmp (codes_in ds xs ++ s) (codes_in ds ys ++ t) ≡ ordering_then (dirs_cmp ds xs ys) (slice_cmp nat_cmp s t)
fields_order [] [] [] m n h k s t = refl
fields_order [] [] (y ∷ ys) m n h k s t = absurd (omega (arith, n))
fields_order [] (x ∷ xs) ys m n h k s t = absurd (omega (arith, m))
fields_order (d ∷ ds) [] ys m n h k s t = absurd (omega (arith, m))
fields_order (d ∷ ds) (x ∷ xs) [] m n h k s t = absurd (omega (arith, n))
fields_order (d ∷ ds) (x ∷ xs) (y ∷ ys) m n h k s t =
    chained (code_in d x) (code_in d y) (codes_in ds xs) (codes_in ds ys) s t (dir_cmp d x y) (dirs_cmp ds xs ys) (field_order d x y h.0 k.0)
    (fields_order ds xs ys (omega (arith, m)) (omega (arith, n)) h.1 k.1 s t)

-- keys that are the same by their fields are the same
same_key : (ds : List Dir) (a b : Tree) → a ≡ v_tuple (fields_of (fields_of_key a)) → b ≡ v_tuple (fields_of (fields_of_key b)) → dirs_cmp ds (fields_of_key a) (fields_of_key b) ≡ Equal → a ≡ b
same_key ds a b h k e = h ∙ (ap (λ vs. v_tuple (fields_of vs)) (dirs_same ds (fields_of_key a) (fields_of_key b) e) ∙ sym k)

then_itself : (r : Ordering) (a b : Tree) → (r ≡ Equal → a ≡ b) → ordering_then r (tree_cmp a b) ≡ r
then_itself Less a b h = refl
then_itself Equal a b h = ap (tree_cmp a) (sym (h refl)) ∙ tied_itself tree_total a
then_itself Greater a b h = refl

-- the order of keys of the form that the directions ask is that of their fields alone
pub key_cmp_is : (d : Dir) (ds : List Dir) (a b : Tree) → IsKey (d ∷ ds) a → IsKey (d ∷ ds) b → key_cmp (d ∷ ds) a b ≡ dirs_cmp (d ∷ ds) (fields_of_key a) (fields_of_key b)
key_cmp_is d ds a b h k = then_itself (dirs_cmp (d ∷ ds) (fields_of_key a) (fields_of_key b)) a b (same_key (d ∷ ds) a b h.1 k.1)

pub key_order : (ds : List Dir) (a b : Tree) → IsKey ds a → IsKey ds b → (s t : List ℕ) → slice_cmp nat_cmp (key_code ds a ++ s) (key_code ds b ++ t) ≡ ordering_then (key_cmp ds a b) (slice_cmp nat_cmp s t)
key_order [] a b h k s t = code_order a b h k s t
key_order (d ∷ ds) a b h k s t =
    fields_order (d ∷ ds) (fields_of_key a) (fields_of_key b) h.2 k.2 (subst IsValue h.1 h.0) (subst IsValue k.1 k.0) s t
    ∙ ap (λ r. ordering_then r (slice_cmp nat_cmp s t)) (sym (key_cmp_is d ds a b h k))

pub whole_key_order : (ds : List Dir) (a b : Tree) → IsKey ds a → IsKey ds b → slice_cmp nat_cmp (key_code ds a) (key_code ds b) ≡ key_cmp ds a b
whole_key_order ds a b h k =
    ap (λ l. slice_cmp nat_cmp l (key_code ds b)) (sym (append-nil (key_code ds a)))
    ∙ (ap (λ l. slice_cmp nat_cmp (key_code ds a ++ []) l) (sym (append-nil (key_code ds b)))
    ∙ (key_order ds a b h k [] [] ∙ then_nothing (key_cmp ds a b)))

-- the order of keys is total, and tells keys apart
pub key_total : (ds : List Dir) → IsTotalOrder (key_cmp ds)
key_total [] = tree_total
key_total (d ∷ ds) = then_total (on_total fields_of_key (dirs_total (d ∷ ds))) tree_total

pub key_same : (ds : List Dir) (a b : Tree) → key_cmp ds a b ≡ Equal → a ≡ b
key_same [] a b e = tree_same a b e
key_same (d ∷ ds) a b e = tree_same a b (both_equal (dirs_cmp (d ∷ ds) (fields_of_key a) (fields_of_key b)) (tree_cmp a b) e).1

-- the code of a key tells it, whatever follows
pub key_told : (ds : List Dir) (a b : Tree) (s t : List ℕ) → IsKey ds a → IsKey ds b → key_code ds a ++ s ≡ key_code ds b ++ t → (a ≡ b) × (s ≡ t)
key_told ds a b s t h k e =
    let both = parts_equal (key_code ds a ++ s) (key_code ds b ++ t) s t (key_cmp ds a b) (key_order ds a b h k s t) e in
    (key_same ds a b both.0, both.1)

pub one_key : (ds : List Dir) (a b : Tree) → IsKey ds a → IsKey ds b → key_code ds a ≡ key_code ds b → a ≡ b
one_key ds a b h k e = (key_told ds a b [] [] h k (ap (λ l. l ++ []) e)).0
