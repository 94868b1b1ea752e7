-- Each step of a job keeps its rule, and so does each list of steps from the opening.
use Rattle.std.proofs.Common.{◌≡◌, ◌≢◌, ℕ, ◌+◌, ◌<◌, ◌≤◌, Bool, true, false, ◌&&◌, not, inl, inr, Option, Some, None, List, [], ◌∷◌, ◌++◌, length, set, replicate, refl, sym, ◌∙◌, ap, subst, arith, zero, suc, cond}
use Rattle.std.specs.Prelude.{◌==◌, is_some, is_none, nat_lt, nat_le, count_by}
use Rattle.std.proofs.lemmas.Bool.Decides.{nat_tests}
use Rattle.std.specs.List.{flat_map, list_any}
use Rattle.std.proofs.lemmas.Bool.{cases_eq, cases_lt, and_parts, not-true, false≢true, ltb-true}
use Rattle.std.proofs.lemmas.List.{get_or-set_same, get_or-set_other, get_or_past, length-set, get_or-replicate}
use Rattle.std.proofs.lemmas.List.Sums.{sum_by-le-sum_by}
use Rattle.std.proofs.Math.ListN.{length-replicate}
use Rattle.std.proofs.lemmas.List.Sorted.{list_any-IsPermutation, sum_by-IsPermutation}
use Rattle.pig_job.specs.declared.Attempt.{Attempt}
use Rattle.pig_job.specs.declared.Event.{Event}
use Rattle.pig_job.specs.declared.Event.TheVariants.{Draw, Begin, Commit, Late, Fail, Leave, Aside, Abort}
use Rattle.pig_job.specs.declared.Fate.TheVariants as fate
use Rattle.pig_job.specs.declared.Status.{Status}
use Rattle.pig_job.specs.declared.Status.TheVariants.{Left, PutAside, Aborted}
use Rattle.pig_job.specs.declared.Task.{Task}
use Rattle.pig_job.specs.Rule.{Kept, is_open, is_unended, has_failed, once_below, once_at, is_attempt, is_failure_of, is_win, is_late_of}
use Rattle.pig_job.specs.Job.{Job, WorkerState, no_worker, untried, fresh, opening, task_of, worker_of, words_of, drawn_of, tried_of, is_running, runs, has_room, holds, is_busy, is_failing, is_over, aside_limit, allows, after, settled, IsSameJob, IsStep, Runs, IsKept}
use Rattle.pig_job.proofs.Keeps.{SameWords, Draws, Begins, Wins, Fails, keeps_same, keeps_bags, keeps_draw, keeps_begin, keeps_win, keeps_late, keeps_fail}
use Rattle.pig_job.proofs.States.{worker_at, task_at, is_running-below, Adds-set, Swaps-set, SameBag-set, Adds-push, Swaps-settle, sum_at-le, list_any-counted, kept_part, over, over-set, SameBag-workers}

-- a worker that runs has neither left nor been put aside
running-left : (s : Status) → is_running s ≡ true → s ≡ Left → ⊥
running-left s r e = false≢true (ap is_running (sym e) ∙ r)

running-aside : (s : Status) → is_running s ≡ true → s ≡ PutAside → ⊥
running-aside s r e = false≢true (ap is_running (sym e) ∙ r)

-- what is so of a worker that has left
abbrev HasLeft : ℕ → List Task → WorkerState → Type 0
HasLeft l ts v = v.status ≡ Left → (list_any (λ x. is_unended x.fate) v.tried ≡ false) × (over l ts ≡ true)

-- and of one that was put aside
abbrev IsAside : WorkerState → Type 0
IsAside v = v.status ≡ PutAside → (list_any (λ x. is_unended x.fate) v.tried ≡ false) × (nat_le aside_limit (count_by (λ x. has_failed x.fate) v.tried) ≡ true)

-- both, of every worker
record Stopped (l : ℕ) (ts : List Task) (vs : List WorkerState) : Type 0 where
  leavers : (u : ℕ) → HasLeft l ts (worker_at vs u)
  asides : (u : ℕ) → IsAside (worker_at vs u)

-- what holds of every worker still does, once worker w has become v
workers-set : (P : WorkerState → Type 0) (vs : List WorkerState) (w : ℕ) (v : WorkerState) → w < length vs → ((u : ℕ) → P (worker_at vs u)) → P v → (u : ℕ) → P (worker_at (set vs w v) u)
workers-set P vs w v l old new u = elim (cases_eq u w) as (λ _. P (worker_at (set vs w v) u)) [
  | inl e ↦
      let here : worker_at (set vs w v) u ≡ v = ap (worker_at (set vs w v)) e ∙ get_or-set_same vs w v no_worker l in
      subst P (sym here) new
  | inr n ↦
      let there : worker_at (set vs w v) u ≡ worker_at vs u = get_or-set_other vs w u v no_worker n in
      subst P (sym there) (old u)
]

-- what those that have stopped knew is still so, once worker w has become v
stopped-set : (l : ℕ) (ts us : List Task) (vs : List WorkerState) (w : ℕ) (v : WorkerState) → w < length vs → Stopped l ts vs → (over l ts ≡ true → over l us ≡ true) → HasLeft l us v → IsAside v → Stopped l us (set vs w v)
stopped-set l ts us vs w v there old lasts left aside = record {
  leavers = workers-set (HasLeft l us) vs w v there (λ u h. let r = old.leavers u h in (r.0, lasts r.1)) left;
  asides = workers-set IsAside vs w v there old.asides aside;
}

-- the same where worker w still runs
still_stopped : (l : ℕ) (ts us : List Task) (vs : List WorkerState) (w : ℕ) (v : WorkerState) → w < length vs → is_running v.status ≡ true → Stopped l ts vs → (over l ts ≡ true → over l us ≡ true) → Stopped l us (set vs w v)
still_stopped l ts us vs w v there runs old lasts = stopped-set l ts us vs w v there old lasts (λ s. absurd (running-left v.status runs s)) (λ s. absurd (running-aside v.status runs s))

stopped_of : (j : Job) → IsKept j → Stopped j.limit j.tasks j.workers
stopped_of j k = record { leavers = k.leavers; asides = k.asides }

is_kept : (j : Job) → Kept (words_of j) (drawn_of j) (tried_of j) → Stopped j.limit j.tasks j.workers → IsKept j
is_kept j k s = record { entries = k; leavers = s.leavers; asides = s.asides }

draw_kept : (j : Job) (w : ℕ) → allows j (Draw w) ≡ true → IsKept j → IsKept (after j (Draw w))
draw_kept j w h k =
    let v = worker_of j w in
    let runs = (and_parts (runs j w) (has_room j) h).0 in
    let l = is_running-below j.workers w runs in
    let v' : WorkerState = record v { drawn = v.drawn ++ j.next ∷ [] } in
    let words : Draws (words_of j) (words_of (after j (Draw w))) = record { tasks = refl; next = refl; begun = λ u. refl; failed = λ u. refl; winner = λ u. refl } in
    let drawn = Adds-set j.next (λ z. z.drawn) j.workers w v' l (Adds-push v.drawn j.next) in
    let tried = SameBag-set (λ z. z.tried) j.workers w v' l refl in
    is_kept (after j (Draw w))
    (keeps_draw (words_of j) (words_of (after j (Draw w))) _ _ _ words drawn (keeps_bags (words_of j) _ _ _ _ (record { sums = λ f. refl }) tried k.entries))
    (still_stopped j.limit j.tasks j.tasks j.workers w v' l runs (stopped_of j k) (λ o. o))

begin_kept : (j : Job) (w t : ℕ) → allows j (Begin w t) ≡ true → IsKept j → IsKept (after j (Begin w t))
begin_kept j w t h k =
    let v = worker_of j w in
    let x = task_of j t in
    let p = and_parts (runs j w) (has_room j && (nat_lt t (length j.tasks) && nat_lt t j.next)) h in
    let q = and_parts (has_room j) (nat_lt t (length j.tasks) && nat_lt t j.next) p.1 in
    let r = and_parts (nat_lt t (length j.tasks)) (nat_lt t j.next) q.1 in
    let there = ltb-true t (length j.tasks) r.0 in
    let drawn_first = ltb-true t j.next r.1 in
    let l = is_running-below j.workers w p.0 in
    let x' : Task = record x { begun = x.begun + 1 } in
    let attempt : Attempt = record { task = t; number = x.begun; fate = fate.Unended } in
    let v' : WorkerState = record v { tried = v.tried ++ attempt ∷ [] } in
    let words : Begins (words_of j) (words_of (after j (Begin w t))) t = record {
      tasks = length-set j.tasks t x';
      next = refl;
      begun = ap (λ y. y.begun) (get_or-set_same j.tasks t x' untried there);
      others = λ u n. ap (λ y. y.begun) (get_or-set_other j.tasks t u x' untried n);
      failed = kept_part (λ y. y.failed) j.tasks t x' refl;
      winner = kept_part (λ y. y.winner) j.tasks t x' refl;
    } in
    let drawn = SameBag-set (λ z. z.drawn) j.workers w v' l refl in
    let tried = Adds-set attempt (λ z. z.tried) j.workers w v' l (Adds-push v.tried attempt) in
    is_kept (after j (Begin w t))
    (keeps_begin (words_of j) (words_of (after j (Begin w t))) t _ _ _ words there drawn_first tried (keeps_bags (words_of j) _ _ _ _ drawn (record { sums = λ f. refl }) k.entries))
    (still_stopped j.limit j.tasks (set j.tasks t x') j.workers w v' l p.0 (stopped_of j k) (over-set j.limit j.tasks t x' (λ o. o) (omega arith)))

-- a task with an attempt under way is there
begun_there : (j : Job) (w t a : ℕ) → w < length j.workers → Kept (words_of j) (drawn_of j) (tried_of j) → holds j w t a ≡ true → t < length j.tasks
begun_there j w t a l k h =
    let f : Attempt → ℕ = λ x. cond {A = ℕ} (is_attempt t a x) 1 0 in
    let g : Attempt → ℕ = λ x. cond {A = ℕ} (is_open t a x) 1 0 in
    let one = list_any-counted (is_open t a) (worker_of j w).tried h in
    let fewer = sum_by-le-sum_by g f (worker_of j w).tried (λ x. open-le (is_unended x.fate) (is_attempt t a x)) in
    let among = sum_at-le f (λ v. v.tried) j.workers w l in
    let begun = k.attempts t a in
    (k.drawn_first t (once_below-some (task_of j t).begun a (omega arith))).0
  where
    open-le : (b c : Bool) → cond {A = ℕ} (b && c) 1 0 ≤ cond {A = ℕ} c 1 0
    open-le true c = omega arith
    open-le false c = omega arith

    once_below-some : (n a : ℕ) → 0 < once_below n a → 0 < n
    once_below-some n a h = grind (arith, nat_tests)

none_is : (o : Option ℕ) → is_none o ≡ true → o ≡ None
none_is None h = refl
none_is (Some b) h = absurd (false≢true h)

commit_kept : (j : Job) (w t a : ℕ) → allows j (Commit w t a) ≡ true → IsKept j → IsKept (after j (Commit w t a))
commit_kept j w t a h k =
    let v = worker_of j w in
    let x = task_of j t in
    let p = and_parts (runs j w) (holds j w t a && is_none x.winner) h in
    let q = and_parts (holds j w t a) (is_none x.winner) p.1 in
    let l = is_running-below j.workers w p.0 in
    let there = begun_there j w t a l k.entries q.0 in
    let x' : Task = record x { winner = Some a } in
    let v' = settled v t a fate.Won in
    let words : Wins (words_of j) (words_of (after j (Commit w t a))) t a = record {
      tasks = length-set j.tasks t x';
      next = refl;
      begun = kept_part (λ y. y.begun) j.tasks t x' refl;
      failed = kept_part (λ y. y.failed) j.tasks t x' refl;
      before = none_is x.winner q.1;
      winner = ap (λ y. y.winner) (get_or-set_same j.tasks t x' untried there);
      others = λ u n. ap (λ y. y.winner) (get_or-set_other j.tasks t u x' untried n);
    } in
    let drawn = SameBag-set (λ z. z.drawn) j.workers w v' l refl in
    let tried = Swaps-set _ _ (λ z. z.tried) j.workers w v' l (Swaps-settle t a fate.Won v.tried q.0) in
    is_kept (after j (Commit w t a))
    (keeps_win (words_of j) (words_of (after j (Commit w t a))) t a _ _ _ words tried (keeps_bags (words_of j) _ _ _ _ drawn (record { sums = λ f. refl }) k.entries))
    (still_stopped j.limit j.tasks (set j.tasks t x') j.workers w v' l p.0 (stopped_of j k) (over-set j.limit j.tasks t x' (λ o. refl) (omega arith)))

late_kept : (j : Job) (w t a : ℕ) → allows j (Late w t a) ≡ true → IsKept j → IsKept (after j (Late w t a))
late_kept j w t a h k =
    let v = worker_of j w in
    let x = task_of j t in
    let p = and_parts (runs j w) (holds j w t a && is_some x.winner) h in
    let q = and_parts (holds j w t a) (is_some x.winner) p.1 in
    let l = is_running-below j.workers w p.0 in
    let v' = settled v t a fate.Late in
    let words : SameWords (words_of j) (words_of (after j (Late w t a))) = record { tasks = refl; next = refl; begun = λ u. refl; failed = λ u. refl; winner = λ u. refl } in
    let won : x.winner ≢ None = λ e. false≢true (ap is_some (sym e) ∙ q.1) in
    let drawn = SameBag-set (λ z. z.drawn) j.workers w v' l refl in
    let tried = Swaps-set _ _ (λ z. z.tried) j.workers w v' l (Swaps-settle t a fate.Late v.tried q.0) in
    is_kept (after j (Late w t a))
    (keeps_late (words_of j) (words_of (after j (Late w t a))) t a _ _ _ words won tried (keeps_bags (words_of j) _ _ _ _ drawn (record { sums = λ f. refl }) k.entries))
    (still_stopped j.limit j.tasks j.tasks j.workers w v' l p.0 (stopped_of j k) (λ o. o))

fail_kept : (j : Job) (w t a : ℕ) → allows j (Fail w t a) ≡ true → IsKept j → IsKept (after j (Fail w t a))
fail_kept j w t a h k =
    let v = worker_of j w in
    let x = task_of j t in
    let p = and_parts (runs j w) (has_room j && holds j w t a) h in
    let q = and_parts (has_room j) (holds j w t a) p.1 in
    let l = is_running-below j.workers w p.0 in
    let there = begun_there j w t a l k.entries q.1 in
    let x' : Task = record x { failed = x.failed + 1 } in
    let v' = settled v t a fate.Failed in
    let words : Fails (words_of j) (words_of (after j (Fail w t a))) t = record {
      tasks = length-set j.tasks t x';
      next = refl;
      begun = kept_part (λ y. y.begun) j.tasks t x' refl;
      failed = ap (λ y. y.failed) (get_or-set_same j.tasks t x' untried there);
      others = λ u n. ap (λ y. y.failed) (get_or-set_other j.tasks t u x' untried n);
      winner = kept_part (λ y. y.winner) j.tasks t x' refl;
    } in
    let drawn = SameBag-set (λ z. z.drawn) j.workers w v' l refl in
    let tried = Swaps-set _ _ (λ z. z.tried) j.workers w v' l (Swaps-settle t a fate.Failed v.tried q.1) in
    is_kept (after j (Fail w t a))
    (keeps_fail (words_of j) (words_of (after j (Fail w t a))) t a _ _ _ words tried (keeps_bags (words_of j) _ _ _ _ drawn (record { sums = λ f. refl }) k.entries))
    (still_stopped j.limit j.tasks (set j.tasks t x') j.workers w v' l p.0 (stopped_of j k) (over-set j.limit j.tasks t x' (λ o. o) (omega arith)))

-- a worker that stops has the same entries
stop_kept : (j : Job) (w : ℕ) (s : Status) → runs j w ≡ true → HasLeft j.limit j.tasks (record (worker_of j w) { status = s }) → IsAside (record (worker_of j w) { status = s }) → IsKept j → IsKept (record j { workers = set j.workers w (record (worker_of j w) { status = s }) })
stop_kept j w s r left aside k =
    let v' : WorkerState = record (worker_of j w) { status = s } in
    let l = is_running-below j.workers w r in
    let drawn = SameBag-set (λ z. z.drawn) j.workers w v' l refl in
    let tried = SameBag-set (λ z. z.tried) j.workers w v' l refl in
    is_kept (record j { workers = set j.workers w v' }) (keeps_bags (words_of j) _ _ _ _ drawn tried k.entries) (stopped-set j.limit j.tasks j.tasks j.workers w v' l (stopped_of j k) (λ o. o) left aside)

-- what is allowed keeps the rule
pub after_kept : (j : Job) (e : Event) → allows j e ≡ true → IsKept j → IsKept (after j e)
after_kept j (Draw w) h k = draw_kept j w h k
after_kept j (Begin w t) h k = begin_kept j w t h k
after_kept j (Commit w t a) h k = commit_kept j w t a h k
after_kept j (Late w t a) h k = late_kept j w t a h k
after_kept j (Fail w t a) h k = fail_kept j w t a h k
after_kept j (Leave w) h k =
    let p = and_parts (runs j w) (not (is_busy j w) && is_over j) h in
    let q = and_parts (not (is_busy j w)) (is_over j) p.1 in
    stop_kept j w Left p.0 (λ e. (not-true (is_busy j w) q.0, q.1)) (λ e. cc) k
after_kept j (Aside w) h k =
    let p = and_parts (runs j w) (not (is_busy j w) && is_failing j w) h in
    let q = and_parts (not (is_busy j w)) (is_failing j w) p.1 in
    stop_kept j w PutAside p.0 (λ e. cc) (λ e. (not-true (is_busy j w) q.0, q.1)) k
after_kept j (Abort w) h k = stop_kept j w Aborted h (λ e. cc) (λ e. cc) k

-- the rule reads the entries of each worker as bags
pub same_kept : (i j : Job) → IsSameJob i j → IsKept i → IsKept j
same_kept i j s k =
    let words : SameWords (words_of i) (words_of j) = record {
      tasks = sym (ap length s.tasks);
      next = sym s.next;
      begun = λ u. ap (λ ts. (task_at ts u).begun) (sym s.tasks);
      failed = λ u. ap (λ ts. (task_at ts u).failed) (sym s.tasks);
      winner = λ u. ap (λ ts. (task_at ts u).winner) (sym s.tasks);
    } in
    let drawn = SameBag-workers (λ z. z.drawn) i.workers j.workers s.count (λ w. (s.workers w).drawn) in
    let tried = SameBag-workers (λ z. z.tried) i.workers j.workers s.count (λ w. (s.workers w).tried) in
    record {
      entries = keeps_same (words_of i) (words_of j) _ _ _ _ words drawn tried k.entries;
      leavers = λ w h.
          let known = k.leavers w ((s.workers w).status ∙ h) in
          let idle = sym (list_any-IsPermutation (λ x. is_unended x.fate) (worker_of i w).tried (worker_of j w).tried (s.workers w).tried) ∙ known.0 in
          (idle, ap (over j.limit) (sym s.tasks) ∙ ap (λ l. over l i.tasks) (sym s.limit) ∙ known.1);
      asides = λ w h.
          let known = k.asides w ((s.workers w).status ∙ h) in
          let idle = sym (list_any-IsPermutation (λ x. is_unended x.fate) (worker_of i w).tried (worker_of j w).tried (s.workers w).tried) ∙ known.0 in
          let failed = sum_by-IsPermutation (λ x. cond {A = ℕ} (has_failed x.fate) 1 0) (worker_of i w).tried (worker_of j w).tried (s.workers w).tried in
          (idle, ap (nat_le aside_limit) failed ∙ known.1);
    }

-- each step keeps the rule
pub step_kept : (i j : Job) (e : Event) → IsKept i → IsStep i e j → IsKept j
step_kept i j e k s = same_kept (after i e) j s.done (after_kept i e s.allowed k)

runs_kept : (i j : Job) (es : List Event) → IsKept i → Runs i es j → IsKept j
runs_kept i j [] k r = subst IsKept r k
runs_kept i j (e ∷ es) k (m, (s, r)) = runs_kept m j es (step_kept i m e k s) r

-- where each of k workers has no entry, they have none together
flat_map-replicate : {X : Type 0} (g : WorkerState → List X) (k : ℕ) → g fresh ≡ [] → flat_map g (replicate k fresh) ≡ []
flat_map-replicate g zero e = refl
flat_map-replicate g (suc k) e = ap (λ xs. xs ++ flat_map g (replicate k fresh)) e ∙ flat_map-replicate g k e

once_below-zero : (a : ℕ) → once_below 0 a ≡ 0
once_below-zero a = grind (arith, nat_tests)

untried-replicate : (n t : ℕ) → task_at (replicate n untried) t ≡ untried
untried-replicate n t = elim (cases_lt t n) as (λ _. task_at (replicate n untried) t ≡ untried) [
  | inl l ↦ get_or-replicate n t untried untried l
  | inr l ↦ get_or_past (replicate n untried) t untried (let q = length-replicate n untried in omega arith)
]

-- a worker of an opening has not stopped
opening-left : (k w : ℕ) → (worker_at (replicate k fresh) w).status ≡ Left → ⊥
opening-left k w h = elim (cases_lt w k) as (λ _. ⊥) [
  | inl l ↦ let e = ap (λ v. v.status) (get_or-replicate k w fresh no_worker l) in cc
  | inr l ↦ let e = ap (λ v. v.status) (get_or_past (replicate k fresh) w no_worker (let q = length-replicate k fresh in omega arith)) in cc
]

opening-aside : (k w : ℕ) → (worker_at (replicate k fresh) w).status ≡ PutAside → ⊥
opening-aside k w h = elim (cases_lt w k) as (λ _. ⊥) [
  | inl l ↦ let e = ap (λ v. v.status) (get_or-replicate k w fresh no_worker l) in cc
  | inr l ↦ let e = ap (λ v. v.status) (get_or_past (replicate k fresh) w no_worker (let q = length-replicate k fresh in omega arith)) in cc
]

pub opening_kept : (n k l : ℕ) → IsKept (opening n k l)
opening_kept n k l =
    let drawn = flat_map-replicate (λ v. v.drawn) k refl in
    let tried = flat_map-replicate (λ v. v.tried) k refl in
    let task = untried-replicate n in
    record {
      entries = record {
        draws = λ x. ap (count_by (λ y. y == x)) drawn ∙ sym (once_below-zero x);
        attempts = λ t a. ap (count_by (is_attempt t a)) tried ∙ sym (ap (λ y. once_below y.begun a) (task t) ∙ once_below-zero a);
        drawn_first = λ t h. absurd (let e = ap (λ y. y.begun) (task t) in omega arith);
        failures = λ t. ap (count_by (is_failure_of t)) tried ∙ sym (ap (λ y. y.failed) (task t));
        winners = λ t a. ap (count_by (is_win t a)) tried ∙ sym (ap (λ y. once_at y.winner a) (task t));
        late_ends = λ t h. ap (count_by (is_late_of t)) tried;
      };
      leavers = λ w h. absurd (opening-left k w h);
      asides = λ w h. absurd (opening-aside k w h);
    }

-- each list of steps from the opening keeps the rule
pub reached_kept : (n k l : ℕ) (es : List Event) (j : Job) → Runs (opening n k l) es j → IsKept j
reached_kept n k l es j r = runs_kept (opening n k l) j es (opening_kept n k l) r
