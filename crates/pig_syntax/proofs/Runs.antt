-- The bytes from the front on that pass a test, and those behind them.
use Rattle.std.proofs.Common.{◌≡◌, ℕ, List, [], ◌∷◌, ◌++◌, Bool, true, false, refl, length, arith, ◌<◌, ◌⊎◌, inl, inr, ◌≤◌}
use Rattle.std.specs.Prelude.{◌&&◌}
use Rattle.std.specs.List.{list_all}
use Rattle.std.proofs.lemmas.Grind.{common_steps}
use Rattle.std.proofs.lemmas.List.Folds.{length-prefix_len}
use Rattle.pig_syntax.specs.Scanner.{run, past}

-- both sides of a test that is true
pub both_first : (a b : Bool) → (a && b) ≡ true → a ≡ true
both_first true b h = refl
both_first false b h = absurd (cc)

pub both_second : (a b : Bool) → (a && b) ≡ true → b ≡ true
both_second true b h = h
both_second false b h = absurd (cc)

-- the run and what is behind it make the whole
pub run_past : (p : ℕ → Bool) (bs : List ℕ) → bs ≡ run p bs ++ past p bs
unfolding run past
run_past p bs = grind (arith, common_steps)

-- a run by its first byte
pub run_yes : (p : ℕ → Bool) (b : ℕ) (bs : List ℕ) → p b ≡ true → run p (b ∷ bs) ≡ b ∷ run p bs
unfolding run
run_yes p b bs passes = rw (length-prefix_len, length-prefix_len, passes) (grind (arith, common_steps))

pub run_no : (p : ℕ → Bool) (b : ℕ) (bs : List ℕ) → p b ≡ false → run p (b ∷ bs) ≡ []
unfolding run
run_no p b bs fails = rw (length-prefix_len, fails) (grind (arith, common_steps))

pub past_yes : (p : ℕ → Bool) (b : ℕ) (bs : List ℕ) → p b ≡ true → past p (b ∷ bs) ≡ past p bs
unfolding past
past_yes p b bs passes = rw (length-prefix_len, length-prefix_len, passes) (grind (arith, common_steps))

pub past_no : (p : ℕ → Bool) (b : ℕ) (bs : List ℕ) → p b ≡ false → past p (b ∷ bs) ≡ b ∷ bs
unfolding past
past_no p b bs fails = rw (length-prefix_len, fails) (grind (arith, common_steps))

-- each byte of a run passes
pub run_passes : (p : ℕ → Bool) (bs : List ℕ) → list_all p (run p bs) ≡ true
unfolding run
run_passes p [] = refl
run_passes p (b ∷ bs) = by_test (run_passes p bs) (p b) refl
  where
    by_test : list_all p (run p bs) ≡ true → (t : Bool) → p b ≡ t → list_all p (run p (b ∷ bs)) ≡ true
    by_test rest true passes = rw (run_yes p b bs passes, passes) rest
    by_test rest false fails = rw (run_no p b bs fails) refl

-- bytes that pass stand in the run whole
pub run-append : (p : ℕ → Bool) (w r : List ℕ) → list_all p w ≡ true → run p (w ++ r) ≡ w ++ run p r
run-append p [] r all = refl
run-append p (b ∷ bs) r all = rw (run_yes p b (bs ++ r) (both_first (p b) (list_all p bs) all), run-append p bs r (both_second (p b) (list_all p bs) all)) refl

pub past-append : (p : ℕ → Bool) (w r : List ℕ) → list_all p w ≡ true → past p (w ++ r) ≡ past p r
past-append p [] r all = refl
past-append p (b ∷ bs) r all = rw (past_yes p b (bs ++ r) (both_first (p b) (list_all p bs) all)) (past-append p bs r (both_second (p b) (list_all p bs) all))

-- behind a run no more is left than before it
pub past_shorter : (p : ℕ → Bool) (bs : List ℕ) → length (past p bs) ≤ length bs
unfolding past
past_shorter p bs = grind (arith, common_steps)

-- the first byte goes on a run, or there is no run
pub run_or_more : (p : ℕ → Bool) (bs : List ℕ) → ((run p bs ≡ []) × (past p bs ≡ bs)) ⊎ (length (past p bs) < length bs)
unfolding run past
run_or_more p [] = inl (refl, refl)
run_or_more p (b ∷ bs) = by_test (p b) refl
  where
    by_test : (t : Bool) → p b ≡ t → ((run p (b ∷ bs) ≡ []) × (past p (b ∷ bs) ≡ b ∷ bs)) ⊎ (length (past p (b ∷ bs)) < length (b ∷ bs))
    by_test true passes = inr (let short = past_shorter p bs in rw (past_yes p b bs passes) (omega arith))
    by_test false fails = inl (run_no p b bs fails, past_no p b bs fails)
