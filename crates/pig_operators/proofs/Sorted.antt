-- Sorted entries: those of a key are sorted by input and row, and what stands behind them has a greater key.
use Rattle.std.proofs.Common.{◌≡◌, true, false, List, [], ◌∷◌, refl, sym, ◌∙◌, ap}
use Rattle.std.specs.Cmp.{IsTotalOrder}
use Rattle.std.specs.List.{AllByRecursion}
use Rattle.std.specs.Ordering.{ordering_then, nat_cmp, is_gt, is_lt}
use Rattle.std.specs.declared.cmp.Ordering.{Ordering}
use Rattle.std.specs.declared.cmp.Ordering.TheVariants.{Less, Equal, Greater}
use Rattle.std.proofs.lemmas.Cmp.{tied_itself}
use Rattle.pig_value.specs.Gathering.{Entry}
use Rattle.pig_value.specs.Orders.{row_cmp}
use Rattle.pig_value.specs.Sorts.{Ascends}
use Rattle.pig_value.proofs.list_laws.Bags.{either_way, gt_is_lt, rises_over}
use Rattle.pig_value.specs.declared.operators.Dir.{Dir}
use Rattle.pig_keycode.specs.Keys.{key_cmp}
use Rattle.pig_keycode.proofs.KeyOrder.{key_total}
use Rattle.pig_runs.specs.Entries.{run_cmp}

-- the first of two orders in turn
pub first_not_greater : (r s : Ordering) → is_gt (ordering_then r s) ≡ false → is_gt r ≡ false
first_not_greater Less s h = refl
first_not_greater Equal s h = refl
first_not_greater Greater s h = h

-- the second, where the first ties
pub second_not_greater : (r s : Ordering) → r ≡ Equal → is_gt (ordering_then r s) ≡ false → is_gt s ≡ false
second_not_greater Less s e h = absurd (cc)
second_not_greater Equal s e h = h
second_not_greater Greater s e h = absurd (cc)

-- neither greater nor the same
pub less_is : (r : Ordering) → is_gt r ≡ false → (r ≡ Equal → ⊥) → r ≡ Less
less_is Less h k = refl
less_is Equal h k = absurd (k refl)
less_is Greater h k = absurd (let wrong : true ≡ false = h in cc)

lt_is : (r : Ordering) → is_lt r ≡ true → r ≡ Less
lt_is Less h = refl
lt_is Equal h = absurd (let wrong : false ≡ true = h in cc)
lt_is Greater h = absurd (let wrong : false ≡ true = h in cc)

module _ {X : Type 0} (R S : X → X → Ordering) (P : X → Type 0) (weaker : (x y : X) → P x → P y → is_gt (R x y) ≡ false → is_gt (S x y) ≡ false) where
  -- what ascends does so by a weaker order
  pub ascends_where : (xs : List X) → AllByRecursion P xs → Ascends R xs → Ascends S xs
  ascends_where [] h k = tt
  ascends_where (x ∷ []) h k = (tt, tt)
  ascends_where (x ∷ y ∷ xs) h k = (weaker x y h.0 h.1.0 k.0, ascends_where (y ∷ xs) h.1 k.1)

-- the entries of a key are sorted by input, and then by row
abbrev pub behind_key : Entry → Entry → Ordering
behind_key e f = ordering_then (nat_cmp e.input f.input) (row_cmp e.row f.row)

abbrev pub by_input : Entry → Entry → Ordering
by_input e f = nat_cmp e.input f.input

module _ (ds : List Dir) where
  pub same_key_order : (e f : Entry) → e.key ≡ f.key → is_gt (run_cmp ds e f) ≡ false → is_gt (behind_key e f) ≡ false
  same_key_order e f same h = second_not_greater (key_cmp ds e.key f.key) (behind_key e f) (ap (λ k. key_cmp ds k f.key) same ∙ tied_itself (key_total ds) f.key) h

module _ {X : Type 0} (S : X → X → Ordering) (total : IsTotalOrder S) where
  less_through : (x y z : X) → S x y ≡ Less → is_gt (S y z) ≡ false → S x z ≡ Less
  less_through x y z h k = lt_is (S x z)
      (either_way (is_lt (S x z)) (λ e. e)
      (λ e. absurd (
      let up : is_gt (S z x) ≡ false = gt_is_lt S total z x ∙ e in
      let back : is_gt (S y x) ≡ false = rises_over S total y z (x ∷ []) k up in
      let wrong : true ≡ false = sym (ap is_lt h) ∙ (sym (gt_is_lt S total y x) ∙ back) in cc)))

  -- above the first of a sorted list, and so above all of it
  pub all_above : (x y : X) (ys : List X) → S x y ≡ Less → Ascends S (y ∷ ys) → AllByRecursion (λ z. S x z ≡ Less) (y ∷ ys)
  all_above x y [] h k = (h, tt)
  all_above x y (z ∷ ys) h k = (h, all_above x z ys (less_through x y z h k.0) k.1)
