-- Counts of attempts, as the tests of the board's clauses and the rule of a job ask for them.
use Rattle.std.proofs.Common.{◌≡◌, ℕ, ◌+◌, ◌<◌, ◌≤◌, Bool, true, ◌&&◌, ◌||◌, Some, List, [], ◌∷◌, cond, length, refl, sym, ◌∙◌, ap, subst, arith, inl, inr}
use Rattle.std.specs.Prelude.{◌==◌, count_by, sum_by, All, Option}
use Rattle.std.specs.List.{list_any}
use Rattle.std.proofs.lemmas.Bool.{cases_Bool, or_cases, or_left, or_right, and_parts, eqb-true, eq-eqb, false≢true}
use Rattle.std.proofs.lemmas.List.Elements.{All-cons, All-head, All-tail}
use Rattle.std.proofs.lemmas.List.Sums.{sum_by-cons}
use Rattle.pig_job.specs.declared.Attempt.{Attempt}
use Rattle.pig_job.specs.declared.Fate.{Fate}
use Rattle.pig_job.specs.declared.Fate.TheVariants.{Unended, Won, Late, Failed}
use Rattle.pig_job.specs.Rule.{is_unended, has_won, is_attempt, is_open, is_win, settle}
use Rattle.pig_job.proofs.States.{list_any-counted}
use Rattle.pig_board.specs.View.{is_open_of, is_win_of, earliest}

-- a count, one entry on
pub count_by-cons : {X : Type 0} (p : X → Bool) (x : X) (xs : List X) → count_by p (x ∷ xs) ≡ cond {A = ℕ} (p x) 1 0 + count_by p xs
count_by-cons p x xs = sum_by-cons (λ y. cond {A = ℕ} (p y) 1 0) x xs

-- each element weighs one
pub sum_ones : {X : Type 0} (xs : List X) → sum_by (λ x. 1) xs ≡ length xs
sum_ones [] = refl
sum_ones {X} (x ∷ xs) = let p = sum_by-cons {X = X} (λ y. 1) x xs in let q = sum_ones xs in omega arith

-- an empty list weighs nothing
pub sum_none : {X : Type 0} (f : X → ℕ) (xs : List X) → length xs ≡ 0 → sum_by f xs ≡ 0
sum_none f [] e = refl
sum_none f (x ∷ xs) e = absurd (omega arith)

-- an attempt that is open, or has won, is an attempt, and not both
one_fate : (t a : ℕ) (x : Attempt) → cond {A = ℕ} (is_open t a x) 1 0 + cond {A = ℕ} (is_win t a x) 1 0 ≤ cond {A = ℕ} (is_attempt t a x) 1 0
one_fate t a x = by_fate x.fate (is_attempt t a x)
  where
    by_fate : (f : Fate) (b : Bool) → cond {A = ℕ} (is_unended f && b) 1 0 + cond {A = ℕ} (has_won f && b) 1 0 ≤ cond {A = ℕ} b 1 0
    by_fate Unended b = omega arith
    by_fate Won b = omega arith
    by_fate Late b = omega arith
    by_fate Failed b = omega arith

pub open_and_won : (t a : ℕ) (xs : List Attempt) → count_by (is_open t a) xs + count_by (is_win t a) xs ≤ count_by (is_attempt t a) xs
open_and_won t a [] = omega arith
open_and_won t a (x ∷ xs) =
    let p = open_and_won t a xs in
    let q = one_fate t a x in
    let r = count_by-cons (is_open t a) x xs in
    let s = count_by-cons (is_win t a) x xs in
    let u = count_by-cons (is_attempt t a) x xs in
    omega arith

-- a count above 0 comes from an element that passes
pub counted-any : {X : Type 0} (p q : X → Bool) (xs : List X) → ((x : X) → p x ≡ true → q x ≡ true) → 0 < count_by p xs → list_any q xs ≡ true
counted-any p q [] i h = absurd (omega arith)
counted-any p q (x ∷ xs) i h =
    elim (cases_Bool (p x)) as (λ _. list_any q (x ∷ xs) ≡ true) [
      | inl y ↦ or_left (q x) (list_any q xs) (i x y)
      | inr n ↦
          let r = count_by-cons p x xs in
          let z : cond {A = ℕ} (p x) 1 0 ≡ 0 = ap (λ b. cond {A = ℕ} b 1 0) n in
          or_right (q x) (list_any q xs) (counted-any p q xs i (omega arith))
    ]

-- a win of some attempt is a win of the task
pub win-of : (t a : ℕ) (x : Attempt) → is_win t a x ≡ true → is_win_of t x ≡ true
win-of t a x h =
    let p = and_parts (has_won x.fate) (is_attempt t a x) h in
    let q = and_parts (x.task == t) (x.number == a) p.1 in
    ap (λ b. b && (x.task == t)) p.0 ∙ q.0

-- a win of the task is one of some attempt
pub some_win : (t : ℕ) (xs : List Attempt) → list_any (is_win_of t) xs ≡ true → (a : ℕ) × (0 < count_by (is_win t a) xs)
some_win t [] h = absurd (false≢true h)
some_win t (x ∷ xs) h =
    elim (or_cases (is_win_of t x) (list_any (is_win_of t) xs) h) as (λ _. (a : ℕ) × (0 < count_by (is_win t a) (x ∷ xs))) [
      | inl y ↦
          let p = and_parts (has_won x.fate) (x.task == t) y in
          let win : is_win t x.number x ≡ true = ap (λ b. b && ((x.task == t) && (x.number == x.number))) p.0 ∙ ap (λ b. b && (x.number == x.number)) p.1 ∙ eq-eqb x.number x.number refl in
          let z : cond {A = ℕ} (is_win t x.number x) 1 0 ≡ 1 = ap (λ b. cond {A = ℕ} b 1 0) win in
          (x.number, let r = count_by-cons (is_win t x.number) x xs in omega arith)
      | inr n ↦
          let rest = some_win t xs n in
          (rest.0, let r = count_by-cons (is_win t rest.0) x xs in let q = rest.1 in omega arith)
    ]

-- a note of the task's winner is one of some attempt
pub some_note : (w : ℕ → Option ℕ) (t : ℕ) (ns : List (ℕ × ℕ)) → All (λ p. w p.0 ≡ Some p.1) ns → list_any (λ p. p.0 == t) ns ≡ true → (a : ℕ) × (w t ≡ Some a)
some_note w t [] all h = absurd (false≢true h)
some_note w t (n ∷ ns) all h =
    elim (or_cases (n.0 == t) (list_any (λ p. p.0 == t) ns) h) as (λ _. (a : ℕ) × (w t ≡ Some a)) [
      | inl y ↦ (n.1, ap w (sym (eqb-true n.0 t y)) ∙ All-head (λ p. w p.0 ≡ Some p.1) n ns all)
      | inr r ↦ some_note w t ns (All-tail (λ p. w p.0 ≡ Some p.1) n ns all) r
    ]

-- the earliest attempt under way is one that is under way
pub earliest-open : (t : ℕ) (xs : List Attempt) → list_any (is_open_of t) xs ≡ true → list_any (is_open t (earliest t xs)) xs ≡ true
earliest-open t [] h = absurd (false≢true h)
earliest-open t (x ∷ xs) h =
    elim (cases_Bool (is_open_of t x)) as (λ _. list_any (is_open t (earliest t (x ∷ xs))) (x ∷ xs) ≡ true) [
      | inl y ↦
          let number : earliest t (x ∷ xs) ≡ x.number = ap (λ b. cond {A = ℕ} b x.number (earliest t xs)) y in
          let p = and_parts (is_unended x.fate) (x.task == t) y in
          let here : is_open t x.number x ≡ true = ap (λ b. b && ((x.task == t) && (x.number == x.number))) p.0 ∙ ap (λ b. b && (x.number == x.number)) p.1 ∙ eq-eqb x.number x.number refl in
          ap (λ a. list_any (is_open t a) (x ∷ xs)) number ∙ or_left (is_open t x.number x) (list_any (is_open t x.number) xs) here
      | inr n ↦
          let number : earliest t (x ∷ xs) ≡ earliest t xs = ap (λ b. cond {A = ℕ} b x.number (earliest t xs)) n in
          let rest : list_any (is_open_of t) xs ≡ true = ap (λ b. b || list_any (is_open_of t) xs) (sym n) ∙ h in
          ap (λ a. list_any (is_open t a) (x ∷ xs)) number ∙ or_right (is_open t (earliest t xs) x) (list_any (is_open t (earliest t xs)) xs) (earliest-open t xs rest)
    ]

-- the tasks of attempts stay below a bound when one of them ends
pub settled_below : (n t a : ℕ) (f : Fate) (xs : List Attempt) → All (λ x. x.task < n) xs → All (λ x. x.task < n) (settle t a f xs)
settled_below n t a f [] all = all
settled_below n t a f (x ∷ xs) all =
    let P : Attempt → Type 0 = λ y. y.task < n in
    let first : x.task < n = All-head P x xs all in
    let rest = All-tail P x xs all in
    elim (cases_Bool (is_open t a x)) as (λ _. All P (settle t a f (x ∷ xs))) [
      | inl y ↦
          let now : settle t a f (x ∷ xs) ≡ record x { fate = f } ∷ xs = ap (λ b. cond {A = List Attempt} b (record x { fate = f } ∷ xs) (x ∷ settle t a f xs)) y in
          subst (All P) (sym now) (All-cons P (record x { fate = f }) xs first rest)
      | inr z ↦
          let now : settle t a f (x ∷ xs) ≡ x ∷ settle t a f xs = ap (λ b. cond {A = List Attempt} b (record x { fate = f } ∷ xs) (x ∷ settle t a f xs)) z in
          subst (All P) (sym now) (All-cons P x (settle t a f xs) first (settled_below n t a f xs rest))
    ]

-- an attempt under way is at a task below the bound
pub open_below : (n t : ℕ) (xs : List Attempt) → All (λ x. x.task < n) xs → list_any (is_open_of t) xs ≡ true → t < n
open_below n t [] all h = absurd (false≢true h)
open_below n t (x ∷ xs) all h =
    let P : Attempt → Type 0 = λ y. y.task < n in
    elim (or_cases (is_open_of t x) (list_any (is_open_of t) xs) h) as (λ _. t < n) [
      | inl y ↦
          let p = and_parts (is_unended x.fate) (x.task == t) y in
          let task = eqb-true x.task t p.1 in
          let first : x.task < n = All-head P x xs all in
          omega arith
      | inr r ↦ open_below n t xs (All-tail P x xs all) r
    ]

pub open-of : (t a : ℕ) (xs : List Attempt) → list_any (is_open t a) xs ≡ true → list_any (is_open_of t) xs ≡ true
open-of t a xs h = counted-any (is_open t a) (is_open_of t) xs (one t a) (list_any-counted (is_open t a) xs h)
  where
    one : (u b : ℕ) (x : Attempt) → is_open u b x ≡ true → is_open_of u x ≡ true
    one u b x e =
        let p = and_parts (is_unended x.fate) (is_attempt u b x) e in
        let q = and_parts (x.task == u) (x.number == b) p.1 in
        ap (λ c. c && (x.task == u)) p.0 ∙ q.0
