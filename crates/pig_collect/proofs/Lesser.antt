-- The least of several numbers: found one by one, it is the first of the sorted ones, and lists that hold the same have the same.
use Rattle.std.specs.Prelude.{◌≡◌, ◌≤◌, ◌-◌, ℕ, List, [], ◌∷◌, ◌++◌, drop, get_or, length, map, min, take, Option, None, Some, slice_get, refl}
use Rattle.std.proofs.Common.{ap, sym, ◌∙◌, arith, cond, inl, inr, subst}
use Rattle.std.specs.List.{AllByRecursion, flat_map}
use Rattle.std.specs.Ordering.{is_gt, nat_cmp}
use Rattle.std.specs.Cmp.{nat_cmp_is}
use Rattle.std.specs.declared.cmp.Ordering.{Ordering}
use Rattle.std.specs.declared.cmp.Ordering.TheVariants.{Equal, Greater, Less}
use Rattle.std.proofs.Math.Nat.{eq-or-lt_of_le}
use Rattle.std.proofs.lemmas.Bool.{cases_lt}
use Rattle.pig_value.specs.Sorts.{put, sort}
use Rattle.pig_value.proofs.list_laws.Listing.{each_at, each_weaker}
use Rattle.pig_physical.specs.Handed.{out_of, outs_of}
use Rattle.pig_physical.specs.Running.{all_unmet}
use Rattle.pig_physical.specs.declared.outputs.Out.{Out}
use Rattle.pig_waves.proofs.Among.{Among, among_first, among_later}
use Rattle.pig_collect.specs.Collecting.{least}
use Rattle.pig_collect.specs.Tallies.{least_of, lesser}
use Rattle.pig_collect.proofs.Cutting.{first_and_rest}

-- ---- found one by one

lesser_joined : (a b c : Option ℕ) → lesser (lesser a b) c ≡ lesser a (lesser b c)
lesser_joined None b c = refl
lesser_joined (Some m) None c = refl
lesser_joined (Some m) (Some n) None = refl
lesser_joined (Some m) (Some n) (Some k) = let e : min (min m n) k ≡ min m (min n k) = omega arith in ap Some e

least_joined : (xs ys : List ℕ) → least_of (xs ++ ys) ≡ lesser (least_of xs) (least_of ys)
least_joined [] ys = refl
least_joined (x ∷ xs) ys = ap (lesser (Some x)) (least_joined xs ys) ∙ sym (lesser_joined (Some x) (least_of xs) (least_of ys))

-- one list more
pub least_on : (found : Option ℕ) (xs ys : List ℕ) → lesser (lesser found (least_of xs)) (least_of ys) ≡ lesser found (least_of (xs ++ ys))
least_on found xs ys = lesser_joined found (least_of xs) (least_of ys) ∙ ap (lesser found) (sym (least_joined xs ys))

pub least_next : (found next : Option ℕ) (xs ys : List ℕ) (all : Option ℕ) → next ≡ least_of xs → lesser found (least_of (xs ++ ys)) ≡ all
    → lesser (lesser found next) (least_of ys) ≡ all
least_next found next xs ys all is so_far = ap (λ o. lesser (lesser found o) (least_of ys)) is ∙ least_on found xs ys ∙ so_far

-- the outputs of one wave more, and one output more
pub waves_on : (left : List (List Out)) (wave : List Out) (found own next all : Option ℕ) → 1 ≤ length left → wave ≡ get_or left 0 wave
    → own ≡ least_of (flat_map (λ out. out.unmet) (map out_of wave)) → next ≡ lesser found own → lesser found (least_of (all_unmet (outs_of left))) ≡ all
    → lesser next (least_of (all_unmet (outs_of (take (length left - 1) (drop 1 left))))) ≡ all
waves_on left wave found own next all some first is adds so_far =
    let rest = take (length left - 1) (drop 1 left) in
    ap (λ o. lesser o (least_of (all_unmet (outs_of rest)))) adds
    ∙ least_next found own (flat_map (λ out. out.unmet) (map out_of wave)) (all_unmet (outs_of rest)) all is
    (ap (λ l. lesser found (least_of (all_unmet (outs_of l)))) (sym (first_and_rest left wave some first)) ∙ so_far)

pub outs_on : (left : List Out) (out : Out) (found own next all : Option ℕ) → 1 ≤ length left → out ≡ get_or left 0 out
    → own ≡ least_of out.unmet → next ≡ lesser found own → lesser found (least_of (flat_map (λ o. o.unmet) (map out_of left))) ≡ all
    → lesser next (least_of (flat_map (λ o. o.unmet) (map out_of (take (length left - 1) (drop 1 left))))) ≡ all
outs_on left out found own next all some first is adds so_far =
    let rest = take (length left - 1) (drop 1 left) in
    ap (λ o. lesser o (least_of (flat_map (λ o. o.unmet) (map out_of rest)))) adds
    ∙ least_next found own out.unmet (flat_map (λ o. o.unmet) (map out_of rest)) all is
    (ap (λ l. lesser found (least_of (flat_map (λ o. o.unmet) (map out_of l)))) (sym (first_and_rest left out some first)) ∙ so_far)

-- ---- the first of the sorted ones

first_of_put : (x y : ℕ) (ys : List ℕ) (r : Ordering) (first : ℕ) → r ≡ nat_cmp x y
    → slice_get (cond (is_gt r) (y ∷ put nat_cmp x ys) (x ∷ y ∷ ys)) 0 ≡ Some first → first ≡ min x y
    → slice_get (put nat_cmp x (y ∷ ys)) 0 ≡ Some (min x y)
first_of_put x y ys r first is there lower =
    ap (λ o. slice_get (cond (is_gt o) (y ∷ put nat_cmp x ys) (x ∷ y ∷ ys)) 0) (sym is) ∙ there ∙ ap Some lower

first_put : (x : ℕ) (ys : List ℕ) → slice_get (put nat_cmp x ys) 0 ≡ lesser (Some x) (slice_get ys 0)
first_put x [] = refl
first_put x (y ∷ ys) = elim (cases_lt y x) [
  | inl less ↦ first_of_put x y ys Greater y (nat_cmp_is x y Greater less) refl (omega (arith, less))
  | inr most ↦ elim (eq-or-lt_of_le most) [
    | inl same ↦ first_of_put x y ys Equal x (nat_cmp_is x y Equal same) refl (omega (arith, most))
    | inr less ↦ first_of_put x y ys Less x (nat_cmp_is x y Less less) refl (omega (arith, less))
  ]
]

pub least_is : (xs : List ℕ) → least_of xs ≡ least xs
least_is [] = refl
least_is (x ∷ xs) = ap (lesser (Some x)) (least_is xs) ∙ sym (first_put x (sort nat_cmp xs))

-- ---- lists that hold the same

data IsLeast (xs : List ℕ) (o : Option ℕ) : Type 0 where
  none : xs ≡ [] → o ≡ None → IsLeast xs o
  some : (m : ℕ) → o ≡ Some m → Among m xs → AllByRecursion (λ x. m ≤ x) xs → IsLeast xs o

least_found : (xs : List ℕ) → IsLeast xs (least_of xs)
least_found [] = none refl refl
least_found (x ∷ xs) = by_rest (least_found xs)
  where
    by_rest : IsLeast xs (least_of xs) → IsLeast (x ∷ xs) (lesser (Some x) (least_of xs))
    by_rest (none empty is) =
        some x (ap (lesser (Some x)) is) (among_first x xs)
        (omega arith, subst (AllByRecursion (λ y. x ≤ y)) (sym empty) tt)
    by_rest (some m is among lower) = elim (cases_lt m x) [
      | inl less ↦
          some m (ap (lesser (Some x)) is ∙ (let e : min x m ≡ m = omega (arith, less) in ap Some e))
          (among_later m x xs among) (omega (arith, less), lower)
      | inr most ↦
          some x (ap (lesser (Some x)) is ∙ (let e : min x m ≡ x = omega (arith, most) in ap Some e))
          (among_first x xs) (omega arith, each_weaker (λ y. m ≤ y) (λ y. x ≤ y) (λ y h. omega (arith, h, most)) xs lower)
    ]

pub least_same : (xs ys : List ℕ) → ((x : ℕ) → Among x xs → Among x ys) → ((y : ℕ) → Among y ys → Among y xs) → least_of xs ≡ least_of ys
least_same xs ys over back = by_both (least_found xs) (least_found ys)
  where
    in_empty : (x : ℕ) (zs : List ℕ) → zs ≡ [] → Among x zs → ⊥
    in_empty x zs empty h = let e = sym h.is ∙ ap (λ l. slice_get l h.at) empty in cc

    by_both : IsLeast xs (least_of xs) → IsLeast ys (least_of ys) → least_of xs ≡ least_of ys
    by_both (none empty is) (none empty_too is_too) = is ∙ sym is_too
    by_both (none empty is) (some n is_too among lower) = absurd (in_empty n xs empty (back n among))
    by_both (some m is among lower) (none empty is_too) = absurd (in_empty m ys empty (over m among))
    by_both (some m is among lower) (some n is_too among_too lower_too) =
        let there = back n among_too in
        let here = over m among in
        let low = each_at (λ x. m ≤ x) xs there.at n there.is lower in
        let low_too = each_at (λ y. n ≤ y) ys here.at m here.is lower_too in
        let same : m ≡ n = omega (arith, low, low_too) in
        is ∙ ap Some same ∙ sym is_too
