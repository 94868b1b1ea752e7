-- The first rows, as they are kept while rows come; and the laws of what keeps them.
use Rattle.std.specs.Prelude.{◌≡◌, ◌∷◌, ◌++◌, ◌-◌, ℕ, zero, suc, List, [], length, take}
use Rattle.std.proofs.Common.{ap, sym, ◌∙◌, arith, append-nil, append_assoc}
use Rattle.std.proofs.Math.Seq.{take-nil}
use Rattle.std.proofs.lemmas.List.{length-append}
use Rattle.pig_value.specs.Trees.{Tree}

-- as many of the rows behind others as there is room for; `left` is the room before, and `then` what is left of it
pub record HasKept (old : List (List Tree)) (left : ℕ) (rows new : List (List Tree)) (then : ℕ) : Type 0 where
  pub first : new ≡ old ++ take left rows
  pub less : then ≡ left - length rows

-- ---- laws

abbrev Rows : Type 0
Rows = List (List Tree)

take_both : (n : ℕ) (xs ys : Rows) → take n (xs ++ ys) ≡ take n xs ++ take (n - length xs) ys
take_both zero xs ys = (let e : 0 ≡ 0 - length xs = omega arith in ap (λ m. take m ys) e)
take_both (suc n) [] ys = (let e : suc n ≡ suc n - 0 = omega arith in ap (λ m. take m ys) e)
take_both (suc n) (x ∷ xs) ys = (
    let e : n - length xs ≡ suc n - suc (length xs) = omega arith in
    ap (λ l. x ∷ l) (take_both n xs ys ∙ ap (λ m. take n xs ++ take m ys) e))

pub kept_nothing : (rows : Rows) (left : ℕ) → HasKept rows left [] rows left
kept_nothing rows left = record {
  first = sym (ap (λ l. rows ++ l) (take-nil left) ∙ append-nil rows);
  less = omega arith;
}

pub kept_onwards : (a b c : Rows) (k l m : ℕ) (xs ys : Rows) → HasKept a k xs b l → HasKept b l ys c m → HasKept a k (xs ++ ys) c m
kept_onwards a b c k l m xs ys h j = record {
  first =
      j.first
      ∙ (λ i. h.first i ++ take (h.less i) ys)
      ∙ append_assoc a (take k xs) (take (k - length xs) ys)
      ∙ ap (λ r. a ++ r) (sym (take_both k xs ys));
  less = (let x = h.less in let y = j.less in let z = length-append xs ys in omega (arith, x, y, z));
}
