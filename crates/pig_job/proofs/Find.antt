-- An entry that is counted over all workers stands with one of them.
use Rattle.std.proofs.Common.{◌≡◌, ℕ, ◌+◌, ◌<◌, ◌≤◌, Bool, true, false, inl, inr, List, [], ◌∷◌, ◌++◌, cond, length, set, refl, sym, ◌∙◌, ap, subst, arith, zero, suc}
use Rattle.std.specs.Prelude.{count_by, sum_by, IsPermutation}
use Rattle.std.specs.List.{flat_map}
use Rattle.std.proofs.lemmas.Bool.{cases_eq, cases_lt, cases_Bool}
use Rattle.std.proofs.lemmas.List.{get_or-set_same, get_or-set_other, length-set}
use Rattle.std.proofs.lemmas.List.Sums.{sum_by-append, sum_by-cons}
use Rattle.std.proofs.lemmas.List.Sorted.{IsPermutation-refl, IsPermutation-sym, IsPermutation-middle}
use Rattle.pig_job.specs.Job.{WorkerState, no_worker, IsSameWorker}
use Rattle.pig_job.proofs.States.{worker_at, task_at, sum_at-le}
use Rattle.pig_job.specs.declared.Task.{Task}

-- an element of the list that passes, and what stands before and after it
pub record Split {X : Type 0} (p : X → Bool) (xs : List X) : Type 0 where
  pub item : X
  pub passes : p item ≡ true
  pub front : List X
  pub back : List X
  pub is : xs ≡ front ++ item ∷ back

pub split_of : {X : Type 0} (p : X → Bool) (xs : List X) → 0 < count_by p xs → Split p xs
split_of p [] h = absurd (omega arith)
split_of p (x ∷ xs) h = elim (cases_Bool (p x)) as (λ _. Split p (x ∷ xs)) [
  | inl y ↦ record { item = x; passes = y; front = []; back = xs; is = refl }
  | inr n ↦
      let q = sum_by-cons (λ y. cond {A = ℕ} (p y) 1 0) x xs in
      let z : cond {A = ℕ} (p x) 1 0 ≡ 0 = ap (λ b. cond {A = ℕ} b 1 0) n in
      let r = split_of p xs (omega arith) in
      record { item = r.item; passes = r.passes; front = x ∷ r.front; back = r.back; is = ap (λ ys. x ∷ ys) r.is }
]

-- a worker, and an entry of its that passes
pub record Found {X : Type 0} (p : X → Bool) (g : WorkerState → List X) (vs : List WorkerState) : Type 0 where
  pub worker : ℕ
  pub there : worker < length vs
  pub entry : Split p (g (worker_at vs worker))

pub found_of : {X : Type 0} (p : X → Bool) (g : WorkerState → List X) (vs : List WorkerState) → 0 < count_by p (flat_map g vs) → Found p g vs
found_of p g [] h = absurd (omega arith)
found_of p g (v ∷ vs) h = elim (cases_lt 0 (count_by p (g v))) as (λ _. Found p g (v ∷ vs)) [
  | inl l ↦ record { worker = 0; there = omega arith; entry = split_of p (g v) l }
  | inr l ↦
      let q = sum_by-append (λ y. cond {A = ℕ} (p y) 1 0) (g v) (flat_map g vs) in
      let r = found_of p g vs (omega arith) in
      record { worker = suc r.worker; there = let t = r.there in omega arith; entry = r.entry }
]

-- the sum over a list that is cut at an element
pub sum_by-split : {X : Type 0} (f : X → ℕ) (xs front : List X) (x : X) (back : List X) → xs ≡ front ++ x ∷ back → sum_by f xs ≡ sum_by f (front ++ back) + f x
sum_by-split f xs front x back e =
    let p = ap (sum_by f) e in
    let q = sum_by-append f front (x ∷ back) in
    let r = sum_by-cons f x back in
    let s = sum_by-append f front back in
    omega arith

-- an entry of one worker is counted over all
pub counted : {X : Type 0} (f : X → ℕ) (g : WorkerState → List X) (vs : List WorkerState) (w : ℕ) (front : List X) (x : X) (back : List X) → w < length vs → g (worker_at vs w) ≡ front ++ x ∷ back → f x ≤ sum_by f (flat_map g vs)
counted f g vs w front x back l e =
    let p = sum_by-split f (g (worker_at vs w)) front x back e in
    let q = sum_at-le f g vs w l in
    omega arith

-- what none passes no found entry passes
pub none_found : {X : Type 0} (q : X → Bool) (g : WorkerState → List X) (vs : List WorkerState) (w : ℕ) (front : List X) (x : X) (back : List X) → w < length vs → g (worker_at vs w) ≡ front ++ x ∷ back → count_by q (flat_map g vs) ≡ 0 → q x ≡ false
none_found q g vs w front x back l e z =
    let c = counted (λ y. cond {A = ℕ} (q y) 1 0) g vs w front x back l e in
    elim (cases_Bool (q x)) as (λ _. q x ≡ false) [
      | inl y ↦ let r : cond {A = ℕ} (q x) 1 0 ≡ 1 = ap (λ b. cond {A = ℕ} b 1 0) y in absurd (omega arith)
      | inr n ↦ n
    ]

-- a list may be read from any of its elements
pub from_middle : {X : Type 0} (xs front : List X) (x : X) (back : List X) → xs ≡ front ++ x ∷ back → IsPermutation (x ∷ (front ++ back)) xs
from_middle xs front x back e = subst (λ ys. IsPermutation (x ∷ (front ++ back)) ys) (sym e) (IsPermutation-sym (front ++ x ∷ back) (x ∷ (front ++ back)) (IsPermutation-middle front x back))

pub IsSameWorker-refl : (v : WorkerState) → IsSameWorker v v
IsSameWorker-refl v = record { drawn = IsPermutation-refl v.drawn; tried = IsPermutation-refl v.tried; status = refl }

-- a worker that is written twice, at last as it was
pub workers_back : (vs : List WorkerState) (w : ℕ) (v y : WorkerState) → w < length vs → IsSameWorker y (worker_at vs w) → (u : ℕ) → IsSameWorker (worker_at (set (set vs w v) w y) u) (worker_at vs u)
workers_back vs w v y l s u = elim (cases_eq u w) as (λ _. IsSameWorker (worker_at (set (set vs w v) w y) u) (worker_at vs u)) [
  | inl e ↦
      let l' : w < length (set vs w v) = let q = length-set vs w v in omega arith in
      let here : worker_at (set (set vs w v) w y) w ≡ y = get_or-set_same (set vs w v) w y no_worker l' in
      let P : ℕ → Type 0 = λ n. IsSameWorker (worker_at (set (set vs w v) w y) n) (worker_at vs n) in
      subst P (sym e) (subst (λ z. IsSameWorker z (worker_at vs w)) (sym here) s)
  | inr n ↦
      let there : worker_at (set (set vs w v) w y) u ≡ worker_at vs u = get_or-set_other (set vs w v) w u y no_worker n ∙ get_or-set_other vs w u v no_worker n in
      subst (λ z. IsSameWorker z (worker_at vs u)) (sym there) (IsSameWorker-refl (worker_at vs u))
]

set-set-get_or : (ts : List Task) (t : ℕ) (x : Task) → set (set ts t x) t (task_at ts t) ≡ ts
set-set-get_or [] t x = refl
set-set-get_or (y ∷ ys) zero x = refl
set-set-get_or (y ∷ ys) (suc t) x = ap (λ zs. y ∷ zs) (set-set-get_or ys t x)

-- a task that is written twice, at last as it was
pub tasks_back : (ts : List Task) (t : ℕ) (x y : Task) → y ≡ task_at ts t → set (set ts t x) t y ≡ ts
tasks_back ts t x y e = ap (set (set ts t x) t) e ∙ set-set-get_or ts t x
