-- A board as it opens meets its rule.
use Rattle.std.proofs.Common.{◌≡◌, ℕ, ◌+◌, ◌*◌, ◌≤◌, Some, [], ◌∷◌, replicate, get_or, refl, sym, ◌∙◌, ap, subst, arith, inl, inr, zero, suc}
use mathlib.Core.Option.{some, some-injective, some-ne-none}
use lib.ListN.{get_elem?}
use Rattle.std.proofs.lemmas.Bool.{cases_lt}
use Rattle.std.proofs.lemmas.Bool.Decides.{nat_tests}
use Rattle.std.proofs.lemmas.List.{length-replicate, get_or-replicate, get_or_past}
use Rattle.std.proofs.lemmas.List.Elements.{All-nil}
use Rattle.pig_job.specs.Rule.{once_below, once_at}
use Rattle.pig_board.specs.declared.view.View.{View}
use Rattle.pig_board.specs.View.{fresh}
use Rattle.pig_board.specs.Rule.{winner_of, words_of, sum_below, Noted, IsBoard}
use Rattle.pig_board.proofs.Writes.{sum_below-zero}

-- every word is 0
zeros : (k i : ℕ) → ◌≡◌ {A = ℕ} (get_or (replicate k 0) i 0) 0
zeros k i = elim (cases_lt i k) as (λ _. ◌≡◌ {A = ℕ} (get_or (replicate k 0) i 0) 0) [
  | inl l ↦ get_or-replicate k i 0 0 l
  | inr l ↦ get_or_past (replicate k 0) i 0 (let q = length-replicate {A = ℕ} k 0 in omega arith)
]

-- nothing is below 0
none_below : (x : ℕ) → once_below 0 x ≡ 0
none_below x = grind (arith, nat_tests)

pub opened : (n k : ℕ) → k ≡ 3 * n + 1 → IsBoard n (replicate k 0) (fresh ∷ [])
opened n k e =
    let ws = replicate k 0 in
    record {
      long = length-replicate {A = ℕ} k 0 ∙ e;
      kept = record {
        draws = λ x. sym (ap (λ m. once_below m x) (zeros k 0) ∙ none_below x);
        attempts = λ t a. sym (ap (λ m. once_below m a) (zeros k (3 * t + 1)) ∙ none_below a);
        drawn_first = λ t h. absurd (let z = zeros k (3 * t + 1) in omega arith);
        failures = λ t. sym (zeros k (3 * t + 2));
        winners = λ t a. sym (ap (λ m. once_at (winner_of m) a) (zeros k (3 * t + 3)));
        late_ends = λ t h. refl;
      };
      noted = λ i v at. first i v at;
      within =
          let a = zeros k 0 in
          let b : sum_below (words_of n (replicate k 0)).begun (words_of n (replicate k 0)).tasks ≡ 0 = sum_below-zero (λ t. get_or ws (3 * t + 1) 0) n (λ t. zeros k (3 * t + 1)) in
          let c : sum_below (words_of n (replicate k 0)).failed (words_of n (replicate k 0)).tasks ≡ 0 = sum_below-zero (λ t. get_or ws (3 * t + 2) 0) n (λ t. zeros k (3 * t + 2)) in
          omega arith;
      shared_out = refl;
    }
  where
    notes : Noted (words_of n (replicate k 0)) fresh
    notes = record {
      known = omega arith;
      winners = All-nil (λ p. (words_of n (replicate k 0)).winner p.0 ≡ Some p.1);
      counts = All-nil (λ p. p.1 ≤ (words_of n (replicate k 0)).failed p.0);
      streak = omega arith;
    }

    first : (i : ℕ) (v : View) → get_elem? (fresh ∷ []) i ≡ some v → Noted (words_of n (replicate k 0)) v
    first zero v at = subst (Noted (words_of n (replicate k 0))) (some-injective fresh v at) notes
    first (suc i) v at = absurd (some-ne-none v (sym at))
