-- What the end of a job says of the pass that has all its entries.
use Rattle.std.proofs.Common.{◌≡◌, ◌≢◌, ℕ, ◌+◌, ◌<◌, Bool, true, false, ◌&&◌, Option, Some, None, List, [], ◌∷◌, cond, length, refl, sym, ◌∙◌, ap, arith, inl, inr, zero, suc}
use Rattle.std.specs.Prelude.{◌==◌, count_by, is_some, All}
use Rattle.std.specs.List.{list_any, sum_by}
use Rattle.std.proofs.lemmas.Bool.{cases_eq, or_cases, eq-eqb, ne_eqb, false≢true}
use Rattle.std.proofs.lemmas.Bool.Decides.{nat_tests}
use Rattle.std.proofs.lemmas.List.Elements.{All-cons, All-head, All-tail, All-nil}
use Rattle.std.proofs.lemmas.List.Sums.{sum_by-cons}
use Rattle.pig_job.specs.declared.Attempt.{Attempt}
use Rattle.pig_job.specs.Rule.{has_won, has_failed, is_attempt, is_win, is_failure_of, once_at, once_below}
use Rattle.pig_board.specs.declared.end.TaskEnd.{TaskEnd}
use Rattle.pig_board.specs.View.{is_win_of}
use Rattle.pig_board.specs.Rule.{sum_below}
use Rattle.pig_board.specs.End.{end_of}
use Rattle.pig_board.specs.Laws.{AnEndTells}
use Rattle.pig_board.proofs.Counts.{count_by-cons, open_and_won, some_win, some_note}
use Rattle.pig_board.proofs.Writes.{sum_below-zero, sum_below-one}

-- a win of the task by number b counts among its wins
win_is : (t b : ℕ) (x : Attempt) → (x.number ≢ b → is_win t x.number x ≡ false) → cond {A = ℕ} (is_win_of t x) 1 0 ≡ cond {A = ℕ} (is_win t b x) 1 0
win_is t b x none = elim (cases_eq x.number b) as (λ _. cond {A = ℕ} (is_win_of t x) 1 0 ≡ cond {A = ℕ} (is_win t b x) 1 0) [
  | inl same ↦ at_number (has_won x.fate) (x.task == t) (x.number == b) (eq-eqb x.number b same)
  | inr other ↦ elsewhere (has_won x.fate) (x.task == t) (x.number == b) (x.number == x.number) (ne_eqb x.number b other) (eq-eqb x.number x.number refl) (none other)
]
  where
    at_number : (f g h : Bool) → h ≡ true → cond {A = ℕ} (f && g) 1 0 ≡ cond {A = ℕ} (f && (g && h)) 1 0
    at_number false g h e = refl
    at_number true false h e = refl
    at_number true true h e = ap (λ c. cond {A = ℕ} c 1 0) (sym e)

    elsewhere : (f g h k : Bool) → h ≡ false → k ≡ true → (f && (g && k)) ≡ false → cond {A = ℕ} (f && g) 1 0 ≡ cond {A = ℕ} (f && (g && h)) 1 0
    elsewhere false g h k e d n = refl
    elsewhere true false h k e d n = refl
    elsewhere true true h k e d n = absurd (false≢true (sym n ∙ d))

-- where the attempts of the task that have won all have the number b, these are its wins
wins_are : (t b : ℕ) (xs : List Attempt) → ((a : ℕ) → a ≢ b → count_by (is_win t a) xs ≡ 0) → count_by (is_win_of t) xs ≡ count_by (is_win t b) xs
wins_are t b [] none = refl
wins_are t b (x ∷ xs) none =
    let rest = wins_are t b xs (λ a n. let p = none a n in let q = count_by-cons (is_win t a) x xs in omega arith) in
    let first = win_is t b x (λ n. not_here (is_win t x.number x) (let p = none x.number n in let q = count_by-cons (is_win t x.number) x xs in omega arith)) in
    let p = count_by-cons (is_win_of t) x xs in
    let q = count_by-cons (is_win t b) x xs in
    omega arith
  where
    not_here : (c : Bool) → cond {A = ℕ} c 1 0 ≡ 0 → c ≡ false
    not_here true e = absurd (omega arith)
    not_here false e = refl

wins_by : (o : Option ℕ) (t : ℕ) (xs : List Attempt) → ((a : ℕ) → count_by (is_win t a) xs ≡ once_at o a) → count_by (is_win_of t) xs ≡ cond {A = ℕ} (is_some o) 1 0
wins_by None t xs each = wins_are t 0 xs (λ a n. each a) ∙ each 0
wins_by (Some b) t xs each =
    wins_are t b xs (λ a n. each a ∙ ap (λ c. cond {A = ℕ} c 1 0) (ne_eqb b a (λ e. n (sym e))))
    ∙ (each b ∙ ap (λ c. cond {A = ℕ} c 1 0) (eq-eqb b b refl))

some_if : (o : Option ℕ) (a : ℕ) → 0 < once_at o a → is_some o ≡ true
some_if None a h = absurd (omega arith)
some_if (Some b) a h = refl

below_once : (k a : ℕ) → 0 < once_below k a → a < k
below_once k a h = grind (arith, nat_tests)

-- an attempt is counted as itself
self : (x : Attempt) → is_attempt x.task x.number x ≡ true
self x = ap (λ b. b && (x.number == x.number)) (eq-eqb x.task x.task refl) ∙ eq-eqb x.number x.number refl

-- each attempt is at a task below n, where only those tasks have any
all_below : (n : ℕ) (xs : List Attempt) → ((t a : ℕ) → 0 < count_by (is_attempt t a) xs → t < n) → All (λ x. x.task < n) xs
all_below n [] h = All-nil (λ x. x.task < n)
all_below n (x ∷ xs) h = All-cons (λ y. y.task < n) x xs
    (h x.task x.number (let p = count_by-cons (is_attempt x.task x.number) x xs in let q : cond {A = ℕ} (is_attempt x.task x.number x) 1 0 ≡ 1 = ap (λ c. cond {A = ℕ} c 1 0) (self x) in omega arith))
    (all_below n xs (λ t a l. h t a (let p = count_by-cons (is_attempt t a) x xs in omega arith)))

-- two functions added
sum_below-plus : (f g h : ℕ → ℕ) (n : ℕ) → ((t : ℕ) → h t ≡ f t + g t) → sum_below h n ≡ sum_below f n + sum_below g n
sum_below-plus f g h zero e = refl
sum_below-plus f g h (suc n) e = let p = sum_below-plus f g h n e in let q = e n in omega arith

-- one attempt is a failure of its own task alone
one_failure : (n : ℕ) (x : Attempt) → x.task < n → sum_below (λ t. cond {A = ℕ} (is_failure_of t x) 1 0) n ≡ cond {A = ℕ} (has_failed x.fate) 1 0
one_failure n x l = by_test (has_failed x.fate)
  where
    by_test : (b : Bool) → sum_below (λ t. cond {A = ℕ} (b && (x.task == t)) 1 0) n ≡ cond {A = ℕ} b 1 0
    by_test false = sum_below-zero (λ t. 0) n (λ u. refl)
    by_test true =
        let none = sum_below-zero (λ t. 0) n (λ u. refl) in
        let one = sum_below-one (λ t. 0) (λ t. cond {A = ℕ} (x.task == t) 1 0) n x.task l
        (ap (λ c. cond {A = ℕ} c 1 0) (eq-eqb x.task x.task refl))
        (λ u d. ap (λ c. cond {A = ℕ} c 1 0) (ne_eqb x.task u (λ e. d (sym e)))) in
        omega arith

-- the failures of all tasks are the failed attempts
pub failures_add : (n : ℕ) (xs : List Attempt) → All (λ x. x.task < n) xs → sum_below (λ t. count_by (is_failure_of t) xs) n ≡ count_by (λ x. has_failed x.fate) xs
failures_add n [] all = sum_below-zero (λ t. 0) n (λ u. refl)
failures_add n (x ∷ xs) all =
    let P : Attempt → Type 0 = λ y. y.task < n in
    let first = one_failure n x (All-head P x xs all) in
    let rest = failures_add n xs (All-tail P x xs all) in
    let whole = sum_below-plus (λ t. cond {A = ℕ} (is_failure_of t x) 1 0) (λ t. count_by (is_failure_of t) xs) (λ t. count_by (is_failure_of t) (x ∷ xs)) n (λ t. count_by-cons (is_failure_of t) x xs) in
    let p = count_by-cons (λ y. has_failed y.fate) x xs in
    omega arith

-- a sum over the numbers below n, and over the elements of a list
sum_below-first : (f : ℕ → ℕ) (n : ℕ) → sum_below f (suc n) ≡ f 0 + sum_below (λ t. f (suc t)) n
sum_below-first f zero = omega arith
sum_below-first f (suc n) = let p = sum_below-first f n in omega arith

sum_below-alike : (f g : ℕ → ℕ) (n : ℕ) → ((t : ℕ) → f t ≡ g t) → sum_below f n ≡ sum_below g n
sum_below-alike f g zero e = refl
sum_below-alike f g (suc n) e = let p = sum_below-alike f g n e in let q = e n in omega arith

sum_of_ends : (ends : List TaskEnd) → sum_by (λ e. e.failed) ends ≡ sum_below (λ t. (end_of ends t).failed) (length ends)
sum_of_ends [] = refl
sum_of_ends (e ∷ ends) =
    let p = sum_by-cons (λ (k : TaskEnd). k.failed) e ends in
    let q = sum_below-first (λ t. (end_of (e ∷ ends) t).failed) (length ends) in
    let r = sum_of_ends ends in
    omega arith

pub an_end : AnEndTells
an_end v ends is =
    let k = is.kept in
    let below : (t a : ℕ) → 0 < count_by (is_attempt t a) v.tried → t < length ends = λ t a l.
    let p = k.attempts t a in
    let q = below_once (end_of ends t).attempts a (omega arith) in
    (k.drawn_first t (omega arith)).0 in
    record {
      winner = λ t a e.
          let p = k.winners t a in
          let q : once_at (end_of ends t).winner a ≡ 1 = ap (λ o. once_at o a) e ∙ ap (λ c. cond {A = ℕ} c 1 0) (eq-eqb a a refl) in
          let r = open_and_won t a v.tried in
          let s = k.attempts t a in
          below_once (end_of ends t).attempts a (omega arith);
      wins = λ t. wins_by (end_of ends t).winner t v.tried (k.winners t);
      known = λ t h. elim (or_cases (list_any (is_win_of t) v.tried) (list_any (λ p. p.0 == t) v.winners) h) as (λ _. is_some (end_of ends t).winner ≡ true) [
        | inl y ↦ let w = some_win t v.tried y in let p = k.winners t w.0 in let q = w.1 in some_if (end_of ends t).winner w.0 (omega arith)
        | inr y ↦ let w = some_note (λ u. (end_of ends u).winner) t v.winners is.noted.winners y in ap is_some w.1
      ];
      failures = λ t. sym (k.failures t);
      all_failures =
          let p = sum_of_ends ends in
          let q = sum_below-alike (λ t. (end_of ends t).failed) (λ t. count_by (is_failure_of t) v.tried) (length ends) (λ t. sym (k.failures t)) in
          let r = failures_add (length ends) v.tried (all_below (length ends) v.tried below) in
          omega arith;
      counts = is.noted.counts;
    }
