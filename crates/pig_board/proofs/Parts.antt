-- Sums over the views of all passes, when one changes, when one is cut in two, and when two are joined.
use Rattle.std.proofs.Common.{◌≡◌, ℕ, ◌+◌, ◌≤◌, List, [], ◌∷◌, ◌++◌, set, refl, sym, ◌∙◌, ap, arith, zero, suc}
use Rattle.std.specs.List.{sum_by, flat_map}
use mathlib.Core.Option.{some, some-injective, some-ne-none}
use lib.ListN.{get_elem?}
use Rattle.std.proofs.lemmas.List.Sums.{sum_by-append, sum_by-cons, sum_by_push}
use Rattle.pig_job.proofs.Bag.{SameBag, Adds, Swaps}
use Rattle.pig_job.proofs.States.{sum_by-flat_map}

-- one view has changed
pub sum_set : {V : Type 0} (h : V → ℕ) (vs : List V) (i : ℕ) (v w : V) → get_elem? vs i ≡ some v → sum_by h (set vs i w) + h v ≡ sum_by h vs + h w
sum_set h [] i v w e = absurd (some-ne-none v (sym e))
sum_set h (x ∷ xs) zero v w e = let p = ap h (some-injective x v e) in let q = sum_by-cons h w xs in let r = sum_by-cons h x xs in omega arith
sum_set h (x ∷ xs) (suc i) v w e = let p = sum_set h xs i v w e in let q = sum_by-cons h x (set xs i w) in let r = sum_by-cons h x xs in omega arith

-- one view is a part of all
pub part-le : {V : Type 0} (h : V → ℕ) (vs : List V) (i : ℕ) (v : V) → get_elem? vs i ≡ some v → h v ≤ sum_by h vs
part-le h [] i v e = absurd (some-ne-none v (sym e))
part-le h (x ∷ xs) zero v e = let p = ap h (some-injective x v e) in let r = sum_by-cons h x xs in omega arith
part-le h (x ∷ xs) (suc i) v e = let p = part-le h xs i v e in let r = sum_by-cons h x xs in omega arith

-- where each part is 0, so is the sum
nothing : {V : Type 0} (h s : V → ℕ) (vs : List V) → sum_by s vs ≡ 0 → ((u : V) → s u ≡ 0 → h u ≡ 0) → sum_by h vs ≡ 0
nothing h s [] e z = refl
nothing h s (x ∷ xs) e z =
    let q = sum_by-cons s x xs in
    let r = sum_by-cons h x xs in
    let here : h x ≡ 0 = z x (omega arith) in
    let rest : sum_by h xs ≡ 0 = nothing h s xs (omega arith) z in
    omega arith

-- where one view has all of a weight, it has all of each weight that comes only with it
pub alone : {V : Type 0} (h s : V → ℕ) (vs : List V) (i : ℕ) (v : V) → get_elem? vs i ≡ some v → sum_by s vs ≡ s v → ((u : V) → s u ≡ 0 → h u ≡ 0) → sum_by h vs ≡ h v
alone h s [] i v e a z = absurd (some-ne-none v (sym e))
alone h s (x ∷ xs) zero v e a z =
    let p = some-injective x v e in
    let ps = ap s p in
    let ph = ap h p in
    let q = sum_by-cons s x xs in
    let r = sum_by-cons h x xs in
    let rest : sum_by h xs ≡ 0 = nothing h s xs (omega arith) z in
    omega arith
alone h s (x ∷ xs) (suc i) v e a z =
    let q = sum_by-cons s x xs in
    let r = sum_by-cons h x xs in
    let part = part-le s xs i v e in
    let here : h x ≡ 0 = z x (omega arith) in
    let rest : sum_by h xs ≡ h v = alone h s xs i v e (omega arith) z in
    omega arith

-- a sum over the entries of all views
pub entries_set : {V X : Type 0} (f : X → ℕ) (g : V → List X) (vs : List V) (i : ℕ) (v w : V) → get_elem? vs i ≡ some v → sum_by f (flat_map g (set vs i w)) + sum_by f (g v) ≡ sum_by f (flat_map g vs) + sum_by f (g w)
entries_set f g vs i v w e =
    let after = sum_by-flat_map f g (set vs i w) in
    let before = sum_by-flat_map f g vs in
    let whole = sum_set (λ u. sum_by f (g u)) vs i v w e in
    omega arith

pub entries-le : {V X : Type 0} (f : X → ℕ) (g : V → List X) (vs : List V) (i : ℕ) (v : V) → get_elem? vs i ≡ some v → sum_by f (g v) ≤ sum_by f (flat_map g vs)
entries-le f g vs i v e =
    let before = sum_by-flat_map f g vs in
    let part = part-le (λ u. sum_by f (g u)) vs i v e in
    omega arith

pub Adds-view : {V X : Type 0} (x : X) (g : V → List X) (vs : List V) (i : ℕ) (v w : V) → get_elem? vs i ≡ some v → Adds x (g v) (g w) → Adds x (flat_map g vs) (flat_map g (set vs i w))
Adds-view x g vs i v w e d = record { sums = λ f. let p = entries_set f g vs i v w e in let q = d.sums f in omega arith }

pub Swaps-view : {V X : Type 0} (x y : X) (g : V → List X) (vs : List V) (i : ℕ) (v w : V) → get_elem? vs i ≡ some v → Swaps x y (g v) (g w) → Swaps x y (flat_map g vs) (flat_map g (set vs i w))
Swaps-view x y g vs i v w e d = record { sums = λ f. let p = entries_set f g vs i v w e in let q = d.sums f in omega arith }

pub SameBag-view : {V X : Type 0} (g : V → List X) (vs : List V) (i : ℕ) (v w : V) → get_elem? vs i ≡ some v → g w ≡ g v → SameBag (flat_map g vs) (flat_map g (set vs i w))
SameBag-view g vs i v w e same = record { sums = λ f. let p = entries_set f g vs i v w e in let q = ap (sum_by f) same in omega arith }

-- a view is cut in two
pub sum_cut : {V : Type 0} (h : V → ℕ) (vs : List V) (i : ℕ) (v l r : V) → get_elem? vs i ≡ some v → h l + h r ≡ h v → sum_by h (set vs i l ++ r ∷ []) ≡ sum_by h vs
sum_cut h vs i v l r e whole = let p = sum_set h vs i v l e in let q = sum_by_push h (set vs i l) r in omega arith

pub SameBag-cut : {V X : Type 0} (g : V → List X) (vs : List V) (i : ℕ) (v l r : V) → get_elem? vs i ≡ some v → g l ≡ g v → g r ≡ [] → SameBag (flat_map g vs) (flat_map g (set vs i l ++ r ∷ []))
SameBag-cut g vs i v l r e same none = record {
  sums = λ f.
      let after = sum_by-flat_map f g (set vs i l ++ r ∷ []) in
      let before = sum_by-flat_map f g vs in
      let left = ap (sum_by f) same in
      let right = ap (sum_by f) none in
      let whole = sum_cut (λ u. sum_by f (g u)) vs i v l r e (omega arith) in
      omega arith;
}

-- two views are joined
pub sum_join : {V : Type 0} (h : V → ℕ) (vs : List V) (i j : ℕ) (v w b z : V) → get_elem? vs i ≡ some v → get_elem? (set vs i b) j ≡ some w → h b ≡ h v + h w → h z ≡ 0 → sum_by h (set (set vs i b) j z) ≡ sum_by h vs
sum_join h vs i j v w b z e d whole none = let p = sum_set h vs i v b e in let q = sum_set h (set vs i b) j w z d in omega arith

pub SameBag-join : {V X : Type 0} (g : V → List X) (vs : List V) (i j : ℕ) (v w b z : V) → get_elem? vs i ≡ some v → get_elem? (set vs i b) j ≡ some w → g b ≡ g v ++ g w → g z ≡ [] → SameBag (flat_map g vs) (flat_map g (set (set vs i b) j z))
SameBag-join g vs i j v w b z e d same none = record {
  sums = λ f.
      let after = sum_by-flat_map f g (set (set vs i b) j z) in
      let before = sum_by-flat_map f g vs in
      let joined : sum_by f (g b) ≡ sum_by f (g v) + sum_by f (g w) = ap (sum_by f) same ∙ sum_by-append f (g v) (g w) in
      let empty : sum_by f (g z) ≡ 0 = ap (sum_by f) none in
      let whole = sum_join (λ u. sum_by f (g u)) vs i j v w b z e d joined empty in
      omega arith;
}
