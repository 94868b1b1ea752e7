-- The words of a board after one of them was written.
use Rattle.std.proofs.Common.{◌≡◌, ◌≢◌, ℕ, ◌+◌, ◌*◌, ◌<◌, ◌≤◌, Option, Some, None, List, length, get_or, set, refl, sym, ◌∙◌, ap, arith, inl, inr, zero, suc}
use Rattle.std.proofs.lemmas.Bool.{cases_eq}
use Rattle.std.proofs.lemmas.List.{get_or-set_same, get_or-set_other}
use Rattle.pig_job.specs.Rule.{Words}
use Rattle.pig_job.proofs.Keeps.{SameWords, Draws, Begins, Wins, Fails}
use Rattle.pig_board.specs.declared.view.View.{View}
use Rattle.pig_board.specs.Rule.{winner_of, words_of, sum_below, total_of, Noted}

-- sums of functions that are the same below n
pub sum_below-same : (f g : ℕ → ℕ) (n : ℕ) → ((u : ℕ) → u < n → g u ≡ f u) → sum_below g n ≡ sum_below f n
sum_below-same f g zero e = refl
sum_below-same f g (suc n) e = let p = sum_below-same f g n (λ u l. e u (omega arith)) in let q = e n (omega arith) in omega arith

-- one of the summands has risen by one
pub sum_below-one : (f g : ℕ → ℕ) (n t : ℕ) → t < n → g t ≡ f t + 1 → ((u : ℕ) → u ≢ t → g u ≡ f u) → sum_below g n ≡ sum_below f n + 1
sum_below-one f g zero t l more e = absurd (omega arith)
sum_below-one f g (suc n) t l more e = elim (cases_eq n t) as (λ _. sum_below g (suc n) ≡ sum_below f (suc n) + 1) [
  | inl same ↦
      let here : g n ≡ f n + 1 = ap g same ∙ more ∙ ap (λ k. f k + 1) (sym same) in
      let rest = sum_below-same f g n (λ u b. e u (λ h. omega arith)) in
      omega arith
  | inr other ↦
      let here = e n other in
      let rest = sum_below-one f g n t (omega arith) more e in
      omega arith
]

-- nothing to add
pub sum_below-zero : (f : ℕ → ℕ) (n : ℕ) → ((u : ℕ) → f u ≡ 0) → sum_below f n ≡ 0
sum_below-zero f zero e = refl
sum_below-zero f (suc n) e = let p = sum_below-zero f n e in let q = e n in omega arith

-- one summand is a part of the sum
pub summand-le : (f : ℕ → ℕ) (n t : ℕ) → t < n → f t ≤ sum_below f n
summand-le f zero t l = absurd (omega arith)
summand-le f (suc n) t l = elim (cases_eq n t) as (λ _. f t ≤ sum_below f (suc n)) [
  | inl same ↦ let here = ap f same in omega arith
  | inr other ↦ let rest = summand-le f n t (omega arith) in omega arith
]

-- a sum of functions of which one is below the other
sum_below-le : (f g : ℕ → ℕ) (n : ℕ) → ((u : ℕ) → f u ≤ g u) → sum_below f n ≤ sum_below g n
sum_below-le f g zero e = omega arith
sum_below-le f g (suc n) e = let p = sum_below-le f g n e in let q = e n in omega arith

-- the words say the same, or more
pub record Grows (w v : Words) : Type 0 where
  pub tasks : v.tasks ≡ w.tasks
  pub next : w.next ≤ v.next
  pub failed : (t : ℕ) → w.failed t ≤ v.failed t
  pub winner : (t a : ℕ) → w.winner t ≡ Some a → v.winner t ≡ Some a

-- notes stay right
pub noted_still : (w v : Words) (u : View) → Grows w v → Noted w u → Noted v u
noted_still w v u g n = record {
  known = let a = n.known in let b = g.next in omega arith;
  winners = λ k d l. g.winner _ _ (n.winners k d l);
  counts = λ k d l. let a = n.counts k d l in let b = g.failed (get_or u.counts k d).0 in omega arith;
  streak = let a = n.streak in let b = sum_below-le w.failed v.failed w.tasks g.failed in let e = ap (sum_below v.failed) g.tasks in omega arith;
}

pub Grows-same : (w v : Words) → SameWords w v → Grows w v
Grows-same w v s = record {
  tasks = s.tasks;
  next = let e = s.next in omega arith;
  failed = λ t. let e = s.failed t in omega arith;
  winner = λ t a h. s.winner t ∙ h;
}

pub Grows-draw : (w v : Words) → Draws w v → Grows w v
Grows-draw w v s = record {
  tasks = s.tasks;
  next = let e = s.next in omega arith;
  failed = λ t. let e = s.failed t in omega arith;
  winner = λ t a h. s.winner t ∙ h;
}

pub Grows-begin : (w v : Words) (t : ℕ) → Begins w v t → Grows w v
Grows-begin w v t s = record {
  tasks = s.tasks;
  next = let e = s.next in omega arith;
  failed = λ u. let e = s.failed u in omega arith;
  winner = λ u a h. s.winner u ∙ h;
}

pub Grows-fail : (w v : Words) (t : ℕ) → Fails w v t → Grows w v
Grows-fail w v t s = record {
  tasks = s.tasks;
  next = let e = s.next in omega arith;
  failed = λ u. elim (cases_eq u t) as (λ _. w.failed u ≤ v.failed u) [
    | inl e ↦ let a = ap w.failed e in let b = ap v.failed e in let c = s.failed in omega arith
    | inr n ↦ let c = s.others u n in omega arith
  ];
  winner = λ u a h. s.winner u ∙ h;
}

pub Grows-win : (w v : Words) (t a : ℕ) → Wins w v t a → Grows w v
Grows-win w v t a s = record {
  tasks = s.tasks;
  next = let e = s.next in omega arith;
  failed = λ u. let e = s.failed u in omega arith;
  winner = λ u b h. elim (cases_eq u t) as (λ _. v.winner u ≡ Some b) [
    | inl e ↦ let wrong : ◌≡◌ {A = Option ℕ} None (Some b) = sym s.before ∙ ap w.winner (sym e) ∙ h in absurd (cc)
    | inr n ↦ s.others u n ∙ h
  ];
}

-- what each kind of step does to the total
pub total-same : (w v : Words) → SameWords w v → total_of v ≡ total_of w
total-same w v s =
    let a = s.next in
    let b : sum_below v.begun v.tasks ≡ sum_below w.begun w.tasks = ap (sum_below v.begun) s.tasks ∙ sum_below-same w.begun v.begun w.tasks (λ u l. s.begun u) in
    let c : sum_below v.failed v.tasks ≡ sum_below w.failed w.tasks = ap (sum_below v.failed) s.tasks ∙ sum_below-same w.failed v.failed w.tasks (λ u l. s.failed u) in
    omega arith

pub total-draw : (w v : Words) → Draws w v → total_of v ≡ total_of w + 1
total-draw w v s =
    let a = s.next in
    let b : sum_below v.begun v.tasks ≡ sum_below w.begun w.tasks = ap (sum_below v.begun) s.tasks ∙ sum_below-same w.begun v.begun w.tasks (λ u l. s.begun u) in
    let c : sum_below v.failed v.tasks ≡ sum_below w.failed w.tasks = ap (sum_below v.failed) s.tasks ∙ sum_below-same w.failed v.failed w.tasks (λ u l. s.failed u) in
    omega arith

pub total-begin : (w v : Words) (t : ℕ) → t < w.tasks → Begins w v t → total_of v ≡ total_of w + 1
total-begin w v t l s =
    let a = s.next in
    let b : sum_below v.begun v.tasks ≡ sum_below w.begun w.tasks + 1 = ap (sum_below v.begun) s.tasks ∙ sum_below-one w.begun v.begun w.tasks t l s.begun s.others in
    let c : sum_below v.failed v.tasks ≡ sum_below w.failed w.tasks = ap (sum_below v.failed) s.tasks ∙ sum_below-same w.failed v.failed w.tasks (λ u m. s.failed u) in
    omega arith

-- the failures of all tasks, once one more has failed
pub failures-fail : (w v : Words) (t : ℕ) → t < w.tasks → Fails w v t → sum_below v.failed v.tasks ≡ sum_below w.failed w.tasks + 1
failures-fail w v t l s = ap (sum_below v.failed) s.tasks ∙ sum_below-one w.failed v.failed w.tasks t l s.failed s.others

pub total-fail : (w v : Words) (t : ℕ) → t < w.tasks → Fails w v t → total_of v ≡ total_of w + 1
total-fail w v t l s =
    let a = s.next in
    let b : sum_below v.begun v.tasks ≡ sum_below w.begun w.tasks = ap (sum_below v.begun) s.tasks ∙ sum_below-same w.begun v.begun w.tasks (λ u m. s.begun u) in
    let c = failures-fail w v t l s in
    omega arith

pub total-win : (w v : Words) (t a : ℕ) → Wins w v t a → total_of v ≡ total_of w
total-win w v t a s =
    let e = s.next in
    let b : sum_below v.begun v.tasks ≡ sum_below w.begun w.tasks = ap (sum_below v.begun) s.tasks ∙ sum_below-same w.begun v.begun w.tasks (λ u m. s.begun u) in
    let c : sum_below v.failed v.tasks ≡ sum_below w.failed w.tasks = ap (sum_below v.failed) s.tasks ∙ sum_below-same w.failed v.failed w.tasks (λ u m. s.failed u) in
    omega arith

-- a word other than the one that was written
other : (ws : List ℕ) (i j y : ℕ) → j ≢ i → get_or (set ws i y) j 0 ≡ get_or ws j 0
other ws i j y n = get_or-set_other ws i j y 0 n

-- the word that was written
here : (ws : List ℕ) (i j y : ℕ) → j ≡ i → i < length ws → get_or (set ws i y) j 0 ≡ y
here ws i j y e l = ap (λ k. get_or (set ws i y) k 0) e ∙ get_or-set_same ws i y 0 l

pub writes_same : (n : ℕ) (ws : List ℕ) (i y : ℕ) → i < length ws → y ≡ get_or ws i 0 → SameWords (words_of n ws) (words_of n (set ws i y))
writes_same n ws i y l e = record {
  tasks = refl;
  next = at 0;
  begun = λ u. at (3 * u + 1);
  failed = λ u. at (3 * u + 2);
  winner = λ u. ap winner_of (at (3 * u + 3));
}
  where
    at : (j : ℕ) → get_or (set ws i y) j 0 ≡ get_or ws j 0
    at j = elim (cases_eq j i) as (λ _. get_or (set ws i y) j 0 ≡ get_or ws j 0) [
      | inl same ↦ here ws i j y same l ∙ e ∙ ap (λ k. get_or ws k 0) (sym same)
      | inr n ↦ other ws i j y n
    ]

pub writes_next : (n : ℕ) (ws : List ℕ) (y : ℕ) → 0 < length ws → y ≡ get_or ws 0 0 + 1 → Draws (words_of n ws) (words_of n (set ws 0 y))
writes_next n ws y l e = record {
  tasks = refl;
  next = here ws 0 0 y refl l ∙ e;
  begun = λ u. other ws 0 (3 * u + 1) y (λ h. omega arith);
  failed = λ u. other ws 0 (3 * u + 2) y (λ h. omega arith);
  winner = λ u. ap winner_of (other ws 0 (3 * u + 3) y (λ h. omega arith));
}

pub writes_begun : (n : ℕ) (ws : List ℕ) (t i y : ℕ) → i ≡ 3 * t + 1 → i < length ws → y ≡ get_or ws i 0 + 1 → Begins (words_of n ws) (words_of n (set ws i y)) t
writes_begun n ws t i y at l e = record {
  tasks = refl;
  next = other ws i 0 y (λ h. omega arith);
  begun = here ws i (3 * t + 1) y (sym at) l ∙ e ∙ ap (λ k. get_or ws k 0 + 1) at;
  others = λ u n. other ws i (3 * u + 1) y (λ h. n (omega arith));
  failed = λ u. other ws i (3 * u + 2) y (λ h. omega arith);
  winner = λ u. ap winner_of (other ws i (3 * u + 3) y (λ h. omega arith));
}

pub writes_failed : (n : ℕ) (ws : List ℕ) (t i y : ℕ) → i ≡ 3 * t + 2 → i < length ws → y ≡ get_or ws i 0 + 1 → Fails (words_of n ws) (words_of n (set ws i y)) t
writes_failed n ws t i y at l e = record {
  tasks = refl;
  next = other ws i 0 y (λ h. omega arith);
  begun = λ u. other ws i (3 * u + 1) y (λ h. omega arith);
  failed = here ws i (3 * t + 2) y (sym at) l ∙ e ∙ ap (λ k. get_or ws k 0 + 1) at;
  others = λ u n. other ws i (3 * u + 2) y (λ h. n (omega arith));
  winner = λ u. ap winner_of (other ws i (3 * u + 3) y (λ h. omega arith));
}

pub writes_winner : (n : ℕ) (ws : List ℕ) (t a i y : ℕ) → i ≡ 3 * t + 3 → i < length ws → get_or ws i 0 ≡ 0 → y ≡ suc a → Wins (words_of n ws) (words_of n (set ws i y)) t a
writes_winner n ws t a i y at l none e = record {
  tasks = refl;
  next = other ws i 0 y (λ h. omega arith);
  begun = λ u. other ws i (3 * u + 1) y (λ h. omega arith);
  failed = λ u. other ws i (3 * u + 2) y (λ h. omega arith);
  before = ap (λ k. winner_of (get_or ws k 0)) (sym at) ∙ ap winner_of none;
  winner = ap winner_of (here ws i (3 * t + 3) y (sym at) l ∙ e);
  others = λ u n. ap winner_of (other ws i (3 * u + 3) y (λ h. n (omega arith)));
}
