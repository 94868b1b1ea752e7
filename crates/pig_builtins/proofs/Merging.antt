-- What the parts of a column find together is what the column finds, however it is cut, and in whatever order it is taken.
use Rattle.std.proofs.Common.{◌≡◌, refl, sym, ap, ◌∙◌, append-nil}
use Rattle.std.specs.Prelude.{ℤ, pos, ◌+ℤ◌, true, false, List, [], ◌∷◌, ◌++◌, length, Option, Some, None, slice_get, if◌then◌else◌}
use Rattle.std.specs.Cmp.{IsTotalOrder}
use Rattle.std.specs.Int.{w64, int_wrap}
use Rattle.std.specs.List.{filter, filter_map, cons_option}
use Rattle.std.specs.List.Sorted.{IsPermutation}
use Rattle.std.specs.Ordering.{is_gt}
use Rattle.std.specs.declared.cmp.Ordering.{Ordering}
use Rattle.std.proofs.lemmas.List.{length-append}
use Rattle.std.proofs.lemmas.List.Elements.{filter-append, filter_map-append}
use Rattle.pig_value.specs.Functions.{column_found, first_found, is_present, is_ranked, length_of, long_of, whole_of, sum_found, sum_ℤ}
use Rattle.pig_value.specs.Orders.{dir_cmp}
use Rattle.pig_value.specs.Sorts.{sort, put}
use Rattle.pig_value.specs.Trees.{Tree, v_long}
use Rattle.pig_value.proofs.OrderLaws.{dir_total, dir_same}
use Rattle.pig_value.proofs.list_laws.Bags.{bag_from_permutation, either_way, rises_over, one_way}
use Rattle.pig_value.proofs.list_laws.Permutations.{along_permutation, neighbours, IsPermutation-filter}
use Rattle.std.proofs.lemmas.List.Sorted.{length_permutation}
use Rattle.std.proofs.Math.IntN.{+ℤ_idr, +ℤ_comm}
use Rattle.pig_value.specs.declared.functions.Function.{Function}
use Rattle.pig_value.specs.declared.functions.Function.TheVariants as f
use Rattle.pig_value.specs.declared.operators.Dir.{Dir}
use Rattle.pig_value.specs.declared.operators.Dir.TheVariants as dir
use Rattle.pig_builtins.specs.Folds.{together, add_tree, first_of, merge_found}
use Rattle.pig_builtins.proofs.Sums.{sum_ℤ-append, wraps_both}

-- lengths
lengths_together : {X : Type 0} (xs ys : List X) → length_of (xs ++ ys) ≡ add_tree (length_of xs) (length_of ys)
lengths_together xs ys =
    ap v_long (ap (λ n. int_wrap w64 (pos n)) (length-append xs ys) ∙ sym (wraps_both (pos (length xs)) (pos (length ys))))

-- sums
sums_together : (xs ys : List ℤ) → sum_found (xs ++ ys) ≡ together add_tree (sum_found xs) (sum_found ys)
sums_together [] ys = refl
sums_together (x ∷ xs) [] = ap (λ zs. sum_found (x ∷ zs)) (append-nil xs)
sums_together (x ∷ xs) (y ∷ ys) =
    ap Some (ap v_long (ap (int_wrap w64) (sum_ℤ-append (x ∷ xs) (y ∷ ys)) ∙ sym (wraps_both (sum_ℤ (x ∷ xs)) (sum_ℤ (y ∷ ys)))))

-- the first of a list in an order
module _ {X : Type 0} (R : X → X → Ordering) (total : IsTotalOrder R) where
  abbrev earlier : X → X → X
  earlier a b = if is_gt (R a b) then b else a

  abbrev first : List X → Option X
  first xs = slice_get (sort R xs) 0

  abbrev either : Option X → Option X → Option X
  either None b = b
  either (Some a) None = Some a
  either (Some a) (Some b) = Some (earlier a b)

  first-put : (x : X) (ys : List X) → slice_get (put R x ys) 0 ≡ either (Some x) (slice_get ys 0)
  first-put x [] = refl
  first-put x (y ∷ ys) = either_way (is_gt (R x y)) (λ e. rw e refl) (λ e. rw e refl)

  -- what is not after one that is not after a third
  upto : (a b c : X) → is_gt (R a b) ≡ false → is_gt (R b c) ≡ false → is_gt (R a c) ≡ false
  upto a b c h k = rises_over R total a b (c ∷ []) h k

  beyond : (a b c : X) → is_gt (R a b) ≡ true → is_gt (R b c) ≡ true → is_gt (R a c) ≡ true
  beyond a b c h k = either_way (is_gt (R a c)) (λ e. e)
      (λ e. let back : is_gt (R a b) ≡ false = upto a c b e (one_way R total b c k) in absurd (cc))

  earlier_is : (a b : X) → is_gt (R a b) ≡ true → earlier a b ≡ b
  earlier_is a b h = rw h refl

  earlier_stays : (a b : X) → is_gt (R a b) ≡ false → earlier a b ≡ a
  earlier_stays a b h = rw h refl

  earlier_assoc : (a b c : X) → earlier a (earlier b c) ≡ earlier (earlier a b) c
  earlier_assoc a b c = either_way (is_gt (R b c))
      (λ k. ap (earlier a) (earlier_is b c k) ∙ either_way (is_gt (R a b))
      (λ h. earlier_is a c (beyond a b c h k) ∙ sym (earlier_is b c k) ∙ ap (λ x. earlier x c) (sym (earlier_is a b h)))
      (λ h. ap (λ x. earlier x c) (sym (earlier_stays a b h))))
      (λ k. ap (earlier a) (earlier_stays b c k) ∙ either_way (is_gt (R a b))
      (λ h. earlier_is a b h ∙ sym (earlier_stays b c k) ∙ ap (λ x. earlier x c) (sym (earlier_is a b h)))
      (λ h. earlier_stays a b h ∙ sym (earlier_stays a c (upto a b c h k)) ∙ ap (λ x. earlier x c) (sym (earlier_stays a b h))))

  either_assoc : (a b c : Option X) → either a (either b c) ≡ either (either a b) c
  either_assoc None b c = refl
  either_assoc (Some a) None c = refl
  either_assoc (Some a) (Some b) None = refl
  either_assoc (Some a) (Some b) (Some c) = ap Some (earlier_assoc a b c)

  firsts_together : (xs ys : List X) → first (xs ++ ys) ≡ either (first xs) (first ys)
  firsts_together [] ys = refl
  firsts_together (x ∷ xs) ys =
      first-put x (sort R (xs ++ ys)) ∙ ap (either (Some x)) (firsts_together xs ys) ∙ either_assoc (Some x) (first xs) (first ys)
      ∙ ap (λ o. either o (first ys)) (sym (first-put x (sort R xs)))

either_is : (d : Dir) (a b : Option Tree) → either (dir_cmp d) (dir_total d) a b ≡ first_of d a b
either_is d None b = refl
either_is d (Some a) None = refl
either_is d (Some a) (Some b) = refl

ranked_together : (d : Dir) (us vs : List Tree) → first_found d (us ++ vs) ≡ first_of d (first_found d us) (first_found d vs)
ranked_together d us vs =
    ap (λ ws. slice_get (sort (dir_cmp d) ws) 0) (filter-append is_ranked us vs)
    ∙ firsts_together (dir_cmp d) (dir_total d) (filter is_ranked us) (filter is_ranked vs)
    ∙ either_is d (first_found d us) (first_found d vs)

-- a column that is cut in two
pub merged : (function : Function) (us vs : List Tree) → column_found function (us ++ vs) ≡ merge_found function (column_found function us) (column_found function vs)
merged f.Count us vs = ap Some (ap length_of (filter-append is_present us vs) ∙ lengths_together (filter is_present us) (filter is_present vs))
merged f.CountStar us vs = ap Some (lengths_together us vs)
merged f.Sum us vs = ap sum_found (filter_map-append whole_of us vs) ∙ sums_together (filter_map whole_of us) (filter_map whole_of vs)
merged f.Min us vs = ranked_together dir.Asc us vs
merged f.Max us vs = ranked_together dir.Desc us vs
merged f.Size us vs = refl
merged f.Concat us vs = refl
merged f.IsEmpty us vs = refl
merged f.Tokenize us vs = refl
merged f.Substring us vs = refl
merged f.StartsWith us vs = refl
merged f.EndsWith us vs = refl
merged f.IndexOf us vs = refl
merged f.Abs us vs = refl
merged f.ToTuple us vs = refl
merged (f.ToBag width) us vs = refl

-- two values in either order
sums_swap : (a b : Option ℤ) → sum_found (cons_option a (cons_option b [])) ≡ sum_found (cons_option b (cons_option a []))
sums_swap None b = refl
sums_swap (Some a) None = refl
sums_swap (Some a) (Some b) = ap (λ z. Some (long_of z)) (ap (λ z. a +ℤ z) (+ℤ_idr b) ∙ +ℤ_comm a b ∙ ap (λ z. b +ℤ z) (sym (+ℤ_idr a)))

ranked_swap : (d : Dir) (xs ys : List Tree) → IsPermutation xs ys → first_found d xs ≡ first_found d ys
ranked_swap d xs ys h =
    ap (λ ws. slice_get ws 0) (bag_from_permutation (dir_cmp d) (dir_total d) (dir_same d) (filter is_ranked xs) (filter is_ranked ys) (IsPermutation-filter is_ranked xs ys h))

lengths_same : {X : Type 0} (xs ys : List X) → IsPermutation xs ys → length_of xs ≡ length_of ys
lengths_same xs ys h = ap (λ n. long_of (pos n)) (sym (length_permutation xs ys h))

two_swap : (function : Function) (v w : Tree) → column_found function (v ∷ w ∷ []) ≡ column_found function (w ∷ v ∷ [])
two_swap f.Count v w = ap Some (lengths_same (filter is_present (v ∷ w ∷ [])) (filter is_present (w ∷ v ∷ [])) (IsPermutation-filter is_present (v ∷ w ∷ []) (w ∷ v ∷ []) (neighbours v w [])))
two_swap f.CountStar v w = refl
two_swap f.Sum v w = sums_swap (whole_of v) (whole_of w)
two_swap f.Min v w = ranked_swap dir.Asc (v ∷ w ∷ []) (w ∷ v ∷ []) (neighbours v w [])
two_swap f.Max v w = ranked_swap dir.Desc (v ∷ w ∷ []) (w ∷ v ∷ []) (neighbours v w [])
two_swap f.Size v w = refl
two_swap f.Concat v w = refl
two_swap f.IsEmpty v w = refl
two_swap f.Tokenize v w = refl
two_swap f.Substring v w = refl
two_swap f.StartsWith v w = refl
two_swap f.EndsWith v w = refl
two_swap f.IndexOf v w = refl
two_swap f.Abs v w = refl
two_swap f.ToTuple v w = refl
two_swap (f.ToBag width) v w = refl

-- a column in another order
pub in_any_order : (function : Function) (us vs : List Tree) → IsPermutation us vs → column_found function us ≡ column_found function vs
in_any_order function = along_permutation (column_found function)
    (λ v us vs h. merged function (v ∷ []) us ∙ ap (merge_found function (column_found function (v ∷ []))) h ∙ sym (merged function (v ∷ []) vs))
    (λ v w us. merged function (v ∷ w ∷ []) us ∙ ap (λ o. merge_found function o (column_found function us)) (two_swap function v w) ∙ sym (merged function (w ∷ v ∷ []) us))
