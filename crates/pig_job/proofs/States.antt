-- A job's lists after one task or one worker has changed.
use Rattle.std.proofs.Common.{◌≡◌, ℕ, ◌+◌, ◌<◌, ◌≤◌, Bool, true, ◌||◌, inl, inr, List, [], ◌∷◌, ◌++◌, cond, length, get_or, set, refl, sym, ◌∙◌, ap, arith, zero, suc}
use Rattle.std.specs.Prelude.{◌==◌, count_by, sum_by, IsPermutation}
use Rattle.std.specs.List.{flat_map, list_any, list_all}
use Rattle.std.proofs.lemmas.Bool.{cases_eq, cases_lt, cases_Bool, eqb-true, and_parts, and_from, or_cases, or_left, or_right, false≢true, leb-true, le-leb}
use Rattle.std.proofs.lemmas.List.{get_or-set_same, get_or-set_other, get_or_past, length-set}
use Rattle.std.proofs.lemmas.List.Sums.{sum_by-append, sum_by-cons, sum_by-set, get_or-le-sum_by}
use Rattle.std.proofs.lemmas.List.Sorted.{sum_by-IsPermutation}
use Rattle.pig_job.specs.declared.Attempt.{Attempt}
use Rattle.pig_job.specs.declared.Fate.{Fate}
use Rattle.pig_job.specs.declared.Fate.TheVariants.{Unended, Won, Late, Failed}
use Rattle.pig_job.specs.declared.Task.{Task}
use Rattle.pig_job.specs.Rule.{is_attempt, is_open, is_unended, settle}
use Rattle.pig_job.specs.Job.{WorkerState, no_worker, untried, is_running, has_winner, is_given_up}
use Rattle.pig_job.proofs.Bag.{SameBag, Adds, Swaps}
use Rattle.pig_job.proofs.Keeps.{attempt}

-- the sum over joined lists, list by list
pub sum_by-flat_map : {X Y : Type 0} (f : Y → ℕ) (g : X → List Y) (vs : List X) → sum_by f (flat_map g vs) ≡ sum_by (λ v. sum_by f (g v)) vs
sum_by-flat_map f g [] = refl
sum_by-flat_map f g (v ∷ vs) =
    sum_by-append f (g v) (flat_map g vs)
    ∙ ap (λ n. sum_by f (g v) + n) (sum_by-flat_map f g vs)
    ∙ sym (sum_by-cons (λ u. sum_by f (g u)) v vs)

-- the worker w of the list
abbrev pub worker_at : List WorkerState → ℕ → WorkerState
worker_at vs w = get_or vs w no_worker

-- the task t of the list
abbrev pub task_at : List Task → ℕ → Task
task_at ts t = get_or ts t untried

-- a running worker is there
pub is_running-below : (vs : List WorkerState) (w : ℕ) → is_running (worker_at vs w).status ≡ true → w < length vs
is_running-below vs w r = elim (cases_lt w (length vs)) as (λ _. w < length vs) [
  | inl l ↦ l
  | inr l ↦ absurd (false≢true (ap (λ v. is_running v.status) (sym (get_or_past vs w no_worker l)) ∙ r))
]

-- the entries of all workers once those of worker w have changed
pub sums_set : {X : Type 0} (f : X → ℕ) (g : WorkerState → List X) (vs : List WorkerState) (w : ℕ) (v : WorkerState) → w < length vs → sum_by f (flat_map g (set vs w v)) + sum_by f (g (worker_at vs w)) ≡ sum_by f (flat_map g vs) + sum_by f (g v)
sums_set f g vs w v l =
    let after = sum_by-flat_map f g (set vs w v) in
    let before = sum_by-flat_map f g vs in
    let whole = sum_by-set (λ u. sum_by f (g u)) vs w v no_worker l in
    omega arith

-- the entries of one worker are among those of all
pub sum_at-le : {X : Type 0} (f : X → ℕ) (g : WorkerState → List X) (vs : List WorkerState) (w : ℕ) → w < length vs → sum_by f (g (worker_at vs w)) ≤ sum_by f (flat_map g vs)
sum_at-le f g vs w l =
    let whole = sum_by-flat_map f g vs in
    let part = get_or-le-sum_by (λ v. sum_by f (g v)) vs w no_worker l in
    omega arith

-- what some element passes is counted
pub list_any-counted : {X : Type 0} (p : X → Bool) (xs : List X) → list_any p xs ≡ true → 0 < count_by p xs
list_any-counted p [] h = absurd (false≢true h)
list_any-counted p (x ∷ xs) h =
    let q = sum_by-cons (λ y. cond {A = ℕ} (p y) 1 0) x xs in
    elim (or_cases (p x) (list_any p xs) h) as (λ _. 0 < count_by p (x ∷ xs)) [
      | inl y ↦ let r : cond {A = ℕ} (p x) 1 0 ≡ 1 = ap (λ b. cond {A = ℕ} b 1 0) y in omega arith
      | inr y ↦ let r = list_any-counted p xs y in omega arith
    ]

pub Adds-set : {X : Type 0} (x : X) (g : WorkerState → List X) (vs : List WorkerState) (w : ℕ) (v : WorkerState) → w < length vs → Adds x (g (worker_at vs w)) (g v) → Adds x (flat_map g vs) (flat_map g (set vs w v))
Adds-set x g vs w v l d = record { sums = λ f. let p = sums_set f g vs w v l in let q = d.sums f in omega arith }

pub Swaps-set : {X : Type 0} (x y : X) (g : WorkerState → List X) (vs : List WorkerState) (w : ℕ) (v : WorkerState) → w < length vs → Swaps x y (g (worker_at vs w)) (g v) → Swaps x y (flat_map g vs) (flat_map g (set vs w v))
Swaps-set x y g vs w v l d = record { sums = λ f. let p = sums_set f g vs w v l in let q = d.sums f in omega arith }

pub SameBag-set : {X : Type 0} (g : WorkerState → List X) (vs : List WorkerState) (w : ℕ) (v : WorkerState) → w < length vs → g (worker_at vs w) ≡ g v → SameBag (flat_map g vs) (flat_map g (set vs w v))
SameBag-set g vs w v l e = record { sums = λ f. let p = sums_set f g vs w v l in let q = ap (sum_by f) e in omega arith }

-- a list and its last element
pub Adds-push : {X : Type 0} (xs : List X) (x : X) → Adds x xs (xs ++ x ∷ [])
Adds-push xs x = record { sums = λ f. let p = sum_by-append f xs (x ∷ []) in let q = sum_by-cons f x [] in omega arith }

-- an open attempt is known by its task and number
pub is_open-is : (t a : ℕ) (x : Attempt) → is_open t a x ≡ true → x ≡ attempt t a Unended
is_open-is t a x h =
    let p = and_parts (is_unended x.fate) (is_attempt t a x) h in
    let q = and_parts (x.task == t) (x.number == a) p.1 in
    let task = eqb-true x.task t q.0 in
    let number = eqb-true x.number a q.1 in
    let fate = unended x.fate p.0 in
    ap (λ n. record { task = n; number = x.number; fate = x.fate }) task ∙ ap (λ n. record { task = t; number = n; fate = x.fate }) number ∙ ap (attempt t a) fate
  where
    unended : (f : Fate) → is_unended f ≡ true → f ≡ Unended
    unended Unended h = refl
    unended Won h = absurd (false≢true h)
    unended Late h = absurd (false≢true h)
    unended Failed h = absurd (false≢true h)

-- what `settle` does where there is such an attempt
pub Swaps-settle : (t a : ℕ) (f : Fate) (xs : List Attempt) → list_any (is_open t a) xs ≡ true → Swaps (attempt t a Unended) (attempt t a f) xs (settle t a f xs)
Swaps-settle t a f [] h = absurd (false≢true h)
Swaps-settle t a f (x ∷ xs) h =
    elim (cases_Bool (is_open t a x)) as (λ _. Swaps (attempt t a Unended) (attempt t a f) (x ∷ xs) (settle t a f (x ∷ xs))) [
      | inl y ↦
          let e = is_open-is t a x y in
          let now : settle t a f (x ∷ xs) ≡ attempt t a f ∷ xs = ap (λ b. cond {A = List Attempt} b (record x { fate = f } ∷ xs) (x ∷ settle t a f xs)) y ∙ ap {A = Attempt} {B = List Attempt} (λ z. record z { fate = f } ∷ xs) e in
          record { sums = λ g. let p = ap (sum_by g) now in let q = sum_by-cons g (attempt t a f) xs in let r = sum_by-cons g x xs in let s = ap g e in omega arith }
      | inr n ↦
          let rest : list_any (is_open t a) xs ≡ true = ap (λ b. b || list_any (is_open t a) xs) (sym n) ∙ h in
          let d = Swaps-settle t a f xs rest in
          let now : settle t a f (x ∷ xs) ≡ x ∷ settle t a f xs = ap (λ b. cond {A = List Attempt} b (record x { fate = f } ∷ xs) (x ∷ settle t a f xs)) n in
          record { sums = λ g. let p = ap (sum_by g) now in let q = sum_by-cons g x (settle t a f xs) in let r = sum_by-cons g x xs in let s = d.sums g in omega arith }
    ]

-- a part of each task that the change of task t leaves
pub kept_part : {A : Type 0} (part : Task → A) (ts : List Task) (t : ℕ) (x : Task) → part x ≡ part (task_at ts t) → (u : ℕ) → part (task_at (set ts t x) u) ≡ part (task_at ts u)
kept_part part ts t x e u = elim (cases_eq u t) as (λ _. part (task_at (set ts t x) u) ≡ part (task_at ts u)) [
  | inl same ↦ elim (cases_lt t (length ts)) as (λ _. part (task_at (set ts t x) u) ≡ part (task_at ts u)) [
    | inl l ↦ ap (λ n. part (task_at (set ts t x) n)) same ∙ ap part (get_or-set_same ts t x untried l) ∙ e ∙ ap (λ n. part (task_at ts n)) (sym same)
    | inr l ↦
        let past : length ts ≤ u = omega arith in
        let past' : length (set ts t x) ≤ u = let q = length-set ts t x in omega arith in
        ap part (get_or_past (set ts t x) u untried past') ∙ ap part (sym (get_or_past ts u untried past))
  ]
  | inr n ↦ ap part (get_or-set_other ts t u x untried n)
]

-- that every task has a winner, or one is given up, lasts
abbrev pub over : ℕ → List Task → Bool
over l ts = list_all has_winner ts || list_any (is_given_up l) ts

all_won-set : (ts : List Task) (t : ℕ) (x : Task) → (has_winner (task_at ts t) ≡ true → has_winner x ≡ true) → list_all has_winner ts ≡ true → list_all has_winner (set ts t x) ≡ true
all_won-set [] t x w h = refl
all_won-set (y ∷ ys) zero x w h =
    let p = and_parts (has_winner y) (list_all has_winner ys) h in
    and_from (has_winner x) (list_all has_winner ys) (w p.0) p.1
all_won-set (y ∷ ys) (suc t) x w h =
    let p = and_parts (has_winner y) (list_all has_winner ys) h in
    and_from (has_winner y) (list_all has_winner (set ys t x)) p.0 (all_won-set ys t x w p.1)

any_given_up-set : (l : ℕ) (ts : List Task) (t : ℕ) (x : Task) → (task_at ts t).failed ≤ x.failed → list_any (is_given_up l) ts ≡ true → list_any (is_given_up l) (set ts t x) ≡ true
any_given_up-set l [] t x f h = h
any_given_up-set l (y ∷ ys) zero x f h = elim (or_cases (is_given_up l y) (list_any (is_given_up l) ys) h) as (λ _. list_any (is_given_up l) (x ∷ ys) ≡ true) [
  | inl p ↦ or_left (is_given_up l x) (list_any (is_given_up l) ys) (le-leb l x.failed (let q = leb-true l y.failed p in omega arith))
  | inr p ↦ or_right (is_given_up l x) (list_any (is_given_up l) ys) p
]
any_given_up-set l (y ∷ ys) (suc t) x f h = elim (or_cases (is_given_up l y) (list_any (is_given_up l) ys) h) as (λ _. list_any (is_given_up l) (y ∷ set ys t x) ≡ true) [
  | inl p ↦ or_left (is_given_up l y) (list_any (is_given_up l) (set ys t x)) p
  | inr p ↦ or_right (is_given_up l y) (list_any (is_given_up l) (set ys t x)) (any_given_up-set l ys t x f p)
]

pub over-set : (l : ℕ) (ts : List Task) (t : ℕ) (x : Task) → (has_winner (task_at ts t) ≡ true → has_winner x ≡ true) → (task_at ts t).failed ≤ x.failed → over l ts ≡ true → over l (set ts t x) ≡ true
over-set l ts t x w f h = elim (or_cases (list_all has_winner ts) (list_any (is_given_up l) ts) h) as (λ _. over l (set ts t x) ≡ true) [
  | inl p ↦ or_left (list_all has_winner (set ts t x)) (list_any (is_given_up l) (set ts t x)) (all_won-set ts t x w p)
  | inr p ↦ or_right (list_all has_winner (set ts t x)) (list_any (is_given_up l) (set ts t x)) (any_given_up-set l ts t x f p)
]

-- lists of workers with the same entries, worker by worker
pub SameBag-workers : {X : Type 0} (g : WorkerState → List X) (vs us : List WorkerState) → length vs ≡ length us → ((w : ℕ) → IsPermutation (g (worker_at vs w)) (g (worker_at us w))) → SameBag (flat_map g vs) (flat_map g us)
SameBag-workers g [] [] l e = record { sums = λ f. refl }
SameBag-workers g [] (u ∷ us) l e = absurd (omega arith)
SameBag-workers g (v ∷ vs) [] l e = absurd (omega arith)
SameBag-workers g (v ∷ vs) (u ∷ us) l e =
    let rest = SameBag-workers g vs us (omega arith) (λ w. e (suc w)) in
    record {
      sums = λ f.
          let p = sum_by-append f (g v) (flat_map g vs) in
          let q = sum_by-append f (g u) (flat_map g us) in
          let r = sum_by-IsPermutation f (g v) (g u) (e 0) in
          let s = rest.sums f in
          omega arith;
    }
