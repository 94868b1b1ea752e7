-- Where sorted entries are divided by one.
use Rattle.std.proofs.Common.{◌≡◌, zero, suc, ◌<◌, ◌≤◌, ◌+◌, ℕ, Bool, true, false, List, [], ◌∷◌, ◌++◌, length, take, drop, refl, sym, ◌∙◌, ap, subst, arith}
use Rattle.std.proofs.lemmas.Cmp.{tied_itself}
use Rattle.std.proofs.lemmas.List.{append-nil, take-append-drop}
use Rattle.std.proofs.lemmas.List.Elements.{filter-append}
use Rattle.std.proofs.Math.Logic.{∥∥₁_elim}
use Rattle.std.specs.Cmp.{IsTotalOrder}
use Rattle.std.specs.Prelude.{Some, not, slice_get}
use Rattle.std.specs.List.{AllByRecursion, filter}
use Rattle.std.specs.Ordering.{is_gt, is_lt}
use Rattle.std.specs.declared.cmp.Ordering.{Ordering}
use Rattle.pig_value.specs.Gathering.{Entry}
use Rattle.pig_value.specs.declared.operators.Dir.{Dir}
use Rattle.pig_value.specs.Sorts.{Ascends}
use Rattle.pig_value.proofs.list_laws.Bags.{either_way, gt_is_lt, rises_over, rises_all, drop_ascends, ascends_prop}
use Rattle.pig_value.proofs.list_laws.Indexing.{dropped, some_at}
use Rattle.pig_value.proofs.list_laws.Listing.{each_at, each_weaker, each-take, filter_all, filter_none}
use Rattle.pig_runs.specs.Cutting.{Divides, IsHalved, Leads, is_up_to}
use Rattle.pig_runs.specs.Entries.{run_cmp}
use Rattle.pig_runs.proofs.Order.{run_total}

module _ {X : Type 0} (R : X → X → Ordering) (total : IsTotalOrder R) where
  at_most : (x y z : X) → is_gt (R x y) ≡ false → is_gt (R y z) ≡ false → is_gt (R x z) ≡ false
  at_most x y z h k = rises_over R total x y (z ∷ []) h k

  -- not below z, and so not what is not less
  pub stays_above : (x y z : X) → is_lt (R x z) ≡ false → is_gt (R x y) ≡ false → is_lt (R y z) ≡ false
  stays_above x y z h k = sym (gt_is_lt R total z y) ∙ at_most z x y (gt_is_lt R total z x ∙ h) k

  stays_below : (x y z : X) → is_gt (R x y) ≡ false → is_lt (R y z) ≡ true → is_lt (R x z) ≡ true
  stays_below x y z h k = either_way (is_lt (R x z)) (λ e. e)
      (λ e. absurd (let wrong : is_lt (R y z) ≡ false = stays_above x y z e h in let both : true ≡ false = sym k ∙ wrong in cc))

  up_to : (xs : List X) (i : ℕ) (x : X) → Ascends R xs → slice_get xs i ≡ Some x → AllByRecursion (λ y. is_gt (R y x) ≡ false) (take (suc i) xs)
  up_to [] i x h here = tt
  up_to (y ∷ ys) zero x h here = (let same : y ≡ x = first y x here in ap is_gt (ap (R y) (sym same) ∙ tied_itself total y), tt)
    where
      first : (u v : X) → Some u ≡ Some v → u ≡ v
      first u v e = cc
  up_to (y ∷ ys) (suc i) x h here = (each_at (λ z. is_gt (R y z) ≡ false) ys i x here (rises_all R total y ys h.0 h.1), up_to ys i x h.1 here)

  turned_back : (b : Bool) → not b ≡ true → b ≡ false
  turned_back true h = sym h
  turned_back false h = refl

  -- what stands no later than what is up to z is so too, and what stands no earlier than what isn't isn't either
  pub stays_up_to : (equal : Bool) (x y z : X) → is_gt (R x y) ≡ false → is_up_to equal (R y z) ≡ true → is_up_to equal (R x z) ≡ true
  stays_up_to false x y z h k = stays_below x y z h k
  stays_up_to true x y z h k = ap not (at_most x y z h (turned_back (is_gt (R y z)) k))

  pub stays_behind : (equal : Bool) (x y z : X) → is_up_to equal (R x z) ≡ false → is_gt (R x y) ≡ false → is_up_to equal (R y z) ≡ false
  stays_behind equal x y z h k = either_way (is_up_to equal (R y z))
      (λ e. absurd (let wrong : is_up_to equal (R x z) ≡ true = stays_up_to equal x y z k e in let both : true ≡ false = sym wrong ∙ h in cc)) (λ e. e)

  -- where one is up to z, so are those before it, and where it isn't, neither are those behind it
  pub below_up_to : (equal : Bool) (xs : List X) (i : ℕ) (x z : X) → Ascends R xs → slice_get xs i ≡ Some x → is_up_to equal (R x z) ≡ true → AllByRecursion (λ y. is_up_to equal (R y z) ≡ true) (take (i + 1) xs)
  below_up_to equal xs i x z h here k =
      let next : suc i ≡ i + 1 = omega arith in
      subst (λ n. AllByRecursion (λ y. is_up_to equal (R y z) ≡ true) (take n xs)) next
      (each_weaker (λ y. is_gt (R y x) ≡ false) (λ y. is_up_to equal (R y z) ≡ true) (λ y e. stays_up_to equal y x z e k) (take (suc i) xs) (up_to xs i x h here))

  pub above_from : (equal : Bool) (xs : List X) (i : ℕ) (x z : X) → Ascends R xs → slice_get xs i ≡ Some x → is_up_to equal (R x z) ≡ false → AllByRecursion (λ y. is_up_to equal (R y z) ≡ false) (drop i xs)
  above_from equal xs i x z h here k =
      let seam : drop i xs ≡ x ∷ drop (i + 1) xs = dropped xs i x here in
      let rest : Ascends R (x ∷ drop (i + 1) xs) = subst (Ascends R) seam (drop_ascends R i xs h) in
      subst (AllByRecursion (λ y. is_up_to equal (R y z) ≡ false)) (sym seam)
      (k, each_weaker (λ y. is_gt (R x y) ≡ false) (λ y. is_up_to equal (R y z) ≡ false) (λ y e. stays_behind equal x y z k e) (drop (i + 1) xs) (rises_all R total x (drop (i + 1) xs) rest.0 rest.1))

-- nothing is known before a search by halves
pub none_halved : (equal : Bool) (ds : List Dir) (es fs : List Entry) (there most : ℕ) → most ≡ length es → IsHalved equal ds es fs there 0 most
none_halved equal ds es fs there most all = record { first = λ f here. tt; rest = λ f here. subst (AllByRecursion (λ e. is_up_to equal (run_cmp ds e f) ≡ false)) (sym (none_behind most es (omega (arith, all)))) tt }
  where
    none_behind : {X : Type 0} (n : ℕ) (xs : List X) → length xs ≤ n → drop n xs ≡ []
    none_behind zero [] h = refl
    none_behind (suc n) [] h = refl
    none_behind zero (x ∷ xs) h = absurd (omega (arith, h))
    none_behind (suc n) (x ∷ xs) h = none_behind n xs (omega (arith, h))

pub halved_all : (equal : Bool) (ds : List Dir) (es fs : List Entry) (there low high : ℕ) → IsHalved equal ds es fs there low high → low ≤ high → high ≤ low
    → (f : Entry) → slice_get fs there ≡ Some f → Divides (λ e. is_up_to equal (run_cmp ds e f)) es low
halved_all equal ds es fs there low high h order done f here =
    let same : high ≡ low = omega (arith, order, done) in
    record { first = h.first f here; rest = subst (λ n. AllByRecursion (λ e. is_up_to equal (run_cmp ds e f) ≡ false) (drop n es)) same (h.rest f here) }

module _ (equal : Bool) (ds : List Dir) (es fs : List Entry) (there low high middle : ℕ) (b : Bool) (sorted : ∥ Ascends (run_cmp ds) es ∥₁) (h : IsHalved equal ds es fs there low high) (within : middle < length es)
    (told : (e f : Entry) → slice_get es middle ≡ Some e → slice_get fs there ≡ Some f → b ≡ is_up_to equal (run_cmp ds e f)) where
  ascending : Ascends (run_cmp ds) es
  ascending = ∥∥₁_elim sorted (ascends_prop (run_cmp ds) es) (λ k. k)

  pub halved_up : b ≡ true → IsHalved equal ds es fs there (middle + 1) high
  halved_up is =
      let found = some_at es middle within in
      record { first = λ f here. below_up_to (run_cmp ds) (run_total ds) equal es middle found.0 f ascending found.1 (sym (told found.0 f found.1 here) ∙ is); rest = h.rest }

  pub halved_down : b ≡ false → IsHalved equal ds es fs there low middle
  halved_down is =
      let found = some_at es middle within in
      record { first = h.first; rest = λ f here. above_from (run_cmp ds) (run_total ds) equal es middle found.0 f ascending found.1 (sym (told found.0 f found.1 here) ∙ is) }

-- ---- divided lists

module _ {X : Type 0} (P : X → Type 0) where
  each_take_take : (xs : List X) (c m : ℕ) → AllByRecursion P (take c xs) → AllByRecursion P (take c (take m xs))
  each_take_take xs zero m h = tt
  each_take_take xs (suc c) zero h = tt
  each_take_take [] (suc c) (suc m) h = tt
  each_take_take (x ∷ xs) (suc c) (suc m) h = (h.0, each_take_take xs c m h.1)

  each_drop_take : (xs : List X) (c m : ℕ) → AllByRecursion P (drop c xs) → AllByRecursion P (drop c (take m xs))
  each_drop_take xs zero m h = each-take P m xs h
  each_drop_take xs (suc c) zero h = tt
  each_drop_take [] (suc c) (suc m) h = tt
  each_drop_take (x ∷ xs) (suc c) (suc m) h = each_drop_take xs c m h

module _ {X : Type 0} (p : X → Bool) where
  pub divided : (xs : List X) (count : ℕ) → Divides p xs count → filter p xs ≡ take count xs
  divided xs count h =
      ap (filter p) (sym (take-append-drop count xs))
      ∙ (filter-append p (take count xs) (drop count xs)
      ∙ ((λ i. filter_all p (take count xs) h.first i ++ filter_none p (drop count xs) h.rest i) ∙ append-nil (take count xs)))

  pub led : (xs : List X) (count m : ℕ) → Leads p xs count → filter p (take m xs) ≡ drop count (take m xs)
  led xs count m h =
      ap (filter p) (sym (take-append-drop count (take m xs)))
      ∙ (filter-append p (take count (take m xs)) (drop count (take m xs))
      ∙ (λ i. filter_none p (take count (take m xs)) (each_take_take (λ x. p x ≡ false) xs count m h.first) i
      ++ filter_all p (drop count (take m xs)) (each_drop_take (λ x. p x ≡ true) xs count m h.rest) i))
