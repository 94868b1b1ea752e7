-- Where `settle` writes: at the first attempt that is open, if there is one.
use Rattle.std.proofs.Common.{◌≡◌, ℕ, ◌<◌, ◌≤◌, true, false, List, [], ◌∷◌, cond, length, get_or, set, refl, sym, ◌∙◌, ap, arith, zero, suc, Some, None, inl, inr}
use Rattle.std.specs.List.{position, position_or_len}
use Rattle.std.proofs.lemmas.Bool.{cases_lt, cond-true, lt-ltb}
use Rattle.std.proofs.lemmas.List.Quantifiers.{position-Some}
use Rattle.std.proofs.lemmas.List.Sums.{fails_before_first}
use Rattle.std.proofs.lemmas.Option.{none-some}
use Rattle.pig_job.specs.declared.Attempt.{Attempt}
use Rattle.pig_job.specs.declared.Fate.{Fate}
use Rattle.pig_job.specs.Rule.{is_open, settle}

pub settle-at : (t a : ℕ) (f : Fate) (xs : List Attempt) (i : ℕ) (d : Attempt) → i < length xs → is_open t a (get_or xs i d) ≡ true → ((k : ℕ) → k < i → is_open t a (get_or xs k d) ≡ false) → settle t a f xs ≡ set xs i (record (get_or xs i d) { fate = f })
settle-at t a f [] i d l here before = absurd (omega arith)
settle-at t a f (x ∷ xs) zero d l here before = ap (λ b. cond {A = List Attempt} b (record x { fate = f } ∷ xs) (x ∷ settle t a f xs)) here
settle-at t a f (x ∷ xs) (suc i) d l here before =
    ap (λ b. cond {A = List Attempt} b (record x { fate = f } ∷ xs) (x ∷ settle t a f xs)) (before 0 (omega arith))
    ∙ ap (λ ys. x ∷ ys) (settle-at t a f xs i d (omega arith) here (λ k m. before (suc k) (omega arith)))

pub settle-none : (t a : ℕ) (f : Fate) (xs : List Attempt) → ((k : ℕ) (d : Attempt) → k < length xs → is_open t a (get_or xs k d) ≡ false) → settle t a f xs ≡ xs
settle-none t a f [] none = refl
settle-none t a f (x ∷ xs) none =
    ap (λ b. cond {A = List Attempt} b (record x { fate = f } ∷ xs) (x ∷ settle t a f xs)) (none 0 x (omega arith))
    ∙ ap (λ ys. x ∷ ys) (settle-none t a f xs (λ k d l. none (suc k) d (omega arith)))

pub settle-found : (t a : ℕ) (f : Fate) (xs : List Attempt) (i : ℕ) (x : Attempt) → Some i ≡ position (is_open t a) xs → x ≡ get_or xs i x → settle t a f xs ≡ set xs i (record x { fate = f })
settle-found t a f xs i x at is =
    let p = position-Some (is_open t a) xs i x (sym at) in
    settle-at t a f xs i x p.0 p.1 p.2 ∙ ap (λ y. set xs i (record y { fate = f })) (sym is)

pub settle-missing : (t a : ℕ) (f : Fate) (xs : List Attempt) → None ≡ position (is_open t a) xs → settle t a f xs ≡ xs
settle-missing t a f xs at =
    settle-none t a f xs (λ k d l. fails_before_first (is_open t a) xs k d (let q = past in omega arith))
  where
    past : length xs ≤ position_or_len (is_open t a) xs
    past = elim (cases_lt (position_or_len (is_open t a) xs) (length xs)) as (λ _. length xs ≤ position_or_len (is_open t a) xs) [
      | inl l ↦ absurd (none-some _ (at ∙ cond-true _ _ _ (lt-ltb _ _ l)))
      | inr l ↦ l
    ]
