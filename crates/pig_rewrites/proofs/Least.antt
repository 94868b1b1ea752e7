-- The first of sorted numbers is the least.
use Rattle.std.specs.Prelude.{◌≡◌, ◌≤◌, ◌<◌, ℕ, Bool, true, false, List, [], ◌∷◌, Option, None, Some, slice_get, refl}
use Rattle.std.proofs.Common.{ap, sym, ◌∙◌, arith, cond, inl, inr, subst}
use Rattle.std.specs.List.{AllByRecursion}
use Rattle.std.specs.Option.{unwrap_or}
use Rattle.std.specs.Ordering.{is_gt, nat_cmp}
use Rattle.std.specs.Cmp.{nat_cmp_is}
use Rattle.std.specs.declared.cmp.Ordering.{Ordering}
use Rattle.std.specs.declared.cmp.Ordering.TheVariants.{Equal, Greater, Less}
use Rattle.std.proofs.Math.Nat.{eq-or-lt_of_le}
use Rattle.std.proofs.lemmas.Bool.{cases_lt}
use Rattle.pig_value.specs.Sorts.{put, sort}
use Rattle.pig_value.proofs.list_laws.Listing.{each_weaker}

-- where each number has a property, the first of them has it, and none is less
pub data IsLeast (P : ℕ → Type 0) (xs : List ℕ) (o : Option ℕ) : Type 0 where
  none : xs ≡ [] → o ≡ None → IsLeast P xs o
  some : (m : ℕ) → o ≡ Some m → P m → AllByRecursion (λ x. m ≤ x) xs → IsLeast P xs o

-- the number that is put before others stands first, or behind the first
first_put : (x y : ℕ) (ys : List ℕ) (r : Ordering) → r ≡ nat_cmp x y → slice_get (put nat_cmp x (y ∷ ys)) 0 ≡ Some (cond (is_gt r) y x)
first_put x y ys r is = ap (λ o. slice_get (cond (is_gt o) (y ∷ put nat_cmp x ys) (x ∷ y ∷ ys)) 0) (sym is) ∙ by_test (is_gt r)
  where
    by_test : (b : Bool) → slice_get (cond b (y ∷ put nat_cmp x ys) (x ∷ y ∷ ys)) 0 ≡ Some (cond b y x)
    by_test true = refl
    by_test false = refl

module _ (P : ℕ → Type 0) where
  first_less : (x y : ℕ) (xs ys : List ℕ) → y < x → P y → AllByRecursion (λ z. y ≤ z) xs → IsLeast P (x ∷ xs) (slice_get (put nat_cmp x (y ∷ ys)) 0)
  first_less x y xs ys less held least = some y (first_put x y ys Greater (nat_cmp_is x y Greater less)) held (omega (arith, less), least)

  own_first : (x y : ℕ) (xs ys : List ℕ) → x ≤ y → P x → AllByRecursion (λ z. y ≤ z) xs → slice_get (put nat_cmp x (y ∷ ys)) 0 ≡ Some x → IsLeast P (x ∷ xs) (slice_get (put nat_cmp x (y ∷ ys)) 0)
  own_first x y xs ys most held least is = some x is held (omega arith, each_weaker (λ z. y ≤ z) (λ z. x ≤ z) (λ z h. omega (arith, h, most)) xs least)

  put_least : (x : ℕ) (xs sorted : List ℕ) → P x → IsLeast P xs (slice_get sorted 0) → IsLeast P (x ∷ xs) (slice_get (put nat_cmp x sorted) 0)
  put_least x xs [] held (none empty is) = some x refl held (omega arith, subst (AllByRecursion (λ z. x ≤ z)) (sym empty) tt)
  put_least x xs [] held (some m is own least) = absurd (cc)
  put_least x xs (y ∷ ys) held (none empty is) = absurd (cc)
  put_least x xs (y ∷ ys) held (some m is own least) =
      let same : y ≡ m = ap (λ o. unwrap_or o y) is in
      let own_y : P y = subst P (sym same) own in
      let least_y : AllByRecursion (λ z. y ≤ z) xs = subst (λ n. AllByRecursion (λ z. n ≤ z) xs) (sym same) least in
      elim (cases_lt y x) [
        | inl less ↦ first_less x y xs ys less own_y least_y
        | inr most ↦ elim (eq-or-lt_of_le most) [
          | inl equal ↦ own_first x y xs ys most held least_y (first_put x y ys Equal (nat_cmp_is x y Equal equal))
          | inr less ↦ own_first x y xs ys most held least_y (first_put x y ys Less (nat_cmp_is x y Less less))
        ]
      ]

  pub least_found : (xs : List ℕ) → AllByRecursion P xs → IsLeast P xs (slice_get (sort nat_cmp xs) 0)
  least_found [] held = none refl refl
  least_found (x ∷ xs) held = put_least x xs (sort nat_cmp xs) held.0 (least_found xs held.1)
