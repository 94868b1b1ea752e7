-- Every job that meets the rule of its entries, and whose workers all run, is reached by steps in order.
use Rattle.std.proofs.Common.{◌≡◌, ℕ, ◌+◌, ◌-◌, ◌<◌, ◌≤◌, Bool, true, false, not, ◌&&◌, ◌||◌, inl, inr, List, [], ◌∷◌, ◌++◌, cond, length, get_or, refl, sym, ◌∙◌, ap, subst, arith, zero, suc}
use Rattle.std.specs.Prelude.{◌==◌, count_by, All}
use Rattle.std.specs.List.{list_all}
use Rattle.std.specs.List.Sorted.{IsNonDecreasingBy}
use Rattle.std.proofs.lemmas.Bool.{cases_eq, and_from, and_parts, eqb-true, false≢true}
use Rattle.std.proofs.lemmas.Bool.Decides.{nat_tests}
use Rattle.std.proofs.lemmas.List.{get_or_past, append_assoc, append-nil}
use Rattle.std.proofs.lemmas.List.Elements.{All-append}
use Rattle.std.proofs.lemmas.List.Folds.{list_all-append}
use Rattle.std.proofs.lemmas.List.Sums.{sum_by-cons, sum_by-le-sum_by}
use Rattle.std.proofs.lemmas.List.Sorted.{IsNonDecreasingBy-push, IsNonDecreasingBy-short}
use Rattle.pig_job.specs.declared.Attempt.{Attempt}
use Rattle.pig_job.specs.declared.Event.{Event}
use Rattle.pig_job.specs.declared.Event.TheVariants as event
use Rattle.pig_job.specs.declared.Fate.{Fate}
use Rattle.pig_job.specs.declared.Fate.TheVariants.{Unended, Won, Late, Failed}
use Rattle.pig_job.specs.Rule.{is_unended, has_won, is_late, has_failed, is_attempt, is_late_of, once_below}
use Rattle.pig_job.specs.Job.{Job, untried, opening, task_of, worker_of, tried_of, IsStep, Runs, is_draw, is_begin, is_commit, is_lost_end, begun_task, IsReached}
use Rattle.pig_job.proofs.Bag.{Swaps, added_other, swapped_alike}
use Rattle.pig_job.proofs.Keeps.{attempt}
use Rattle.pig_job.proofs.Find.{Found, found_of, none_found}
use Rattle.pig_job.proofs.Back.{Ready, BeforeEnd, BeforeBegin, BeforeDraw, ends_in, before_late, before_fail, before_commit, before_begin, before_draw}
use Rattle.pig_job.proofs.Opening.{is_opening}

-- one more step at the end
runs_push : (i : Job) (es : List Event) (j : Job) (e : Event) (k : Job) → Runs i es j → IsStep j e k → Runs i (es ++ e ∷ []) k
runs_push i [] j e k r s = (k, (subst (λ z. IsStep z e k) (sym r) s, refl))
runs_push i (d ∷ es) j e k (m, (t, r)) s = (m, (t, runs_push m es j e k r s))

-- the same, from the opening of a job that is as large
run_on : (i : Job) (es : List Event) (e : Event) (j : Job) → length i.tasks ≡ length j.tasks → length i.workers ≡ length j.workers → i.limit ≡ j.limit → Runs (opening (length i.tasks) (length i.workers) i.limit) es i → IsStep i e j → Runs (opening (length j.tasks) (length j.workers) j.limit) (es ++ e ∷ []) j
run_on i es e j ts ws ls r s =
    let P : ℕ → ℕ → ℕ → Type 0 = λ n k l. Runs (opening n k l) (es ++ e ∷ []) j in
    subst (λ l. P (length j.tasks) (length j.workers) l) ls (subst (λ k. P (length j.tasks) k i.limit) ws (subst (λ n. P n (length i.workers) i.limit) ts (runs_push (opening (length i.tasks) (length i.workers) i.limit) es i e j r s)))

all_push : (p : Event → Bool) (es : List Event) (e : Event) → list_all p es ≡ true → p e ≡ true → list_all p (es ++ e ∷ []) ≡ true
all_push p es e h q = list_all-append p es (e ∷ []) ∙ and_from (list_all p es) (list_all p (e ∷ [])) h (and_from (p e) true q refl)

-- reached by draws
record Drawn (j : Job) : Type 0 where
  draws : List Event
  are_draws : list_all is_draw draws ≡ true
  run : Runs (opening (length j.tasks) (length j.workers) j.limit) draws j

-- the last number can be taken back where no task was begun
before_some_draw : (n : ℕ) (j : Job) → Ready j → j.next ≡ n + 1 → ((t : ℕ) → (task_of j t).begun ≡ 0) → BeforeDraw j n
before_some_draw n j r last none =
    let once = r.entries.draws n in
    taken (found_of (λ y. y == n) (λ v. v.drawn) j.workers (let q = one j.next n last in omega arith))
  where
    one : (m k : ℕ) → m ≡ k + 1 → once_below m k ≡ 1
    one m k h = grind (arith, nat_tests)

    taken : Found (λ y. y == n) (λ v. v.drawn) j.workers → BeforeDraw j n
    taken found =
        let s = found.entry in
        let is = s.is ∙ ap (λ x. s.front ++ x ∷ s.back) (eqb-true s.item n s.passes) in
        before_draw j found.worker n s.front s.back r last none found.there is

draws_to : (n : ℕ) (j : Job) → Ready j → j.next ≡ n → ((t : ℕ) → (task_of j t).begun ≡ 0) → Drawn j
draws_to zero j r e none = record { draws = []; are_draws = refl; run = is_opening j r e none }
draws_to (suc n) j r e none = more (λ i. draws_to n i) (before_some_draw n j r (omega arith) none)
  where
    more : ((i : Job) → Ready i → i.next ≡ n → ((t : ℕ) → (task_of i t).begun ≡ 0) → Drawn i) → BeforeDraw j n → Drawn j
    more earlier b =
        let d = earlier b.job b.ready b.next (λ t. ap (λ ts. (get_or ts t untried).begun) b.tasks ∙ none t) in
        record {
          draws = d.draws ++ event.Draw b.worker ∷ [];
          are_draws = all_push is_draw d.draws (event.Draw b.worker) d.are_draws refl;
          run = run_on b.job d.draws (event.Draw b.worker) j (ap length b.tasks) b.workers b.limit d.run b.step;
        }

-- the attempt has ended
abbrev is_ended : Attempt → Bool
is_ended x = not (is_unended x.fate)

-- it ended late or failed
abbrev is_lost : Attempt → Bool
is_lost x = is_late x.fate || has_failed x.fate

-- reached by draws, and begins of tasks below m
record Begun (m : ℕ) (j : Job) : Type 0 where
  draws : List Event
  begins : List Event
  are_draws : list_all is_draw draws ≡ true
  are_begins : list_all is_begin begins ≡ true
  by_task : IsNonDecreasingBy begun_task begins
  below : All (λ e. begun_task e < m) begins
  run : Runs (opening (length j.tasks) (length j.workers) j.limit) (draws ++ begins) j

-- the last attempt of task m can be taken back
before_some_begin : (m a : ℕ) (j : Job) → Ready j → count_by is_ended (tried_of j) ≡ 0 → (task_of j m).begun ≡ a + 1 → BeforeBegin j m a
before_some_begin m a j r open_all last =
    let once = r.entries.attempts m a in
    let found = found_of (is_attempt m a) (λ v. v.tried) j.workers (let q = one (task_of j m).begun a last in omega arith) in
    taken found
  where
    one : (n k : ℕ) → n ≡ k + 1 → once_below n k ≡ 1
    one n k h = grind (arith, nat_tests)

    unended : (f : Fate) → not (is_unended f) ≡ false → f ≡ Unended
    unended Unended h = refl
    unended Won h = cc
    unended Late h = cc
    unended Failed h = cc

    open_is : (x : Attempt) → is_ended x ≡ false → is_attempt m a x ≡ true → x ≡ attempt m a Unended
    open_is x h p =
        let q = and_parts (x.task == m) (x.number == a) p in
        ap (λ n. attempt n x.number x.fate) (eqb-true x.task m q.0) ∙ ap (λ n. attempt m n x.fate) (eqb-true x.number a q.1) ∙ ap (attempt m a) (unended x.fate h)

    taken : Found (is_attempt m a) (λ v. v.tried) j.workers → BeforeBegin j m a
    taken found =
        let s = found.entry in
        let fate = none_found is_ended (λ v. v.tried) j.workers found.worker s.front s.item s.back found.there s.is open_all in
        let is = s.is ∙ ap (λ x. s.front ++ x ∷ s.back) (open_is s.item fate s.passes) in
        before_begin j found.worker m a s.front s.back r last found.there is

-- one begin more
begins_more : (m a : ℕ) (j : Job) (b : BeforeBegin j m a) → Begun (suc m) b.job → Begun (suc m) j
begins_more m a j b d =
    let begin = event.Begin b.worker m in
    record {
      draws = d.draws;
      begins = d.begins ++ begin ∷ [];
      are_draws = d.are_draws;
      are_begins = all_push is_begin d.begins begin d.are_begins refl;
      by_task = IsNonDecreasingBy-push begun_task d.begins begin d.by_task (λ x l. let q = d.below (length d.begins - 1) x (omega arith) in omega arith);
      below = All-append (λ e. begun_task e < suc m) d.begins (begin ∷ []) d.below (λ k x l. subst (λ n. begun_task (get_or (begin ∷ []) n x) < suc m) (zero_is k l) (omega arith));
      run = subst (λ es. Runs (opening (length j.tasks) (length j.workers) j.limit) es j) (append_assoc d.draws d.begins (begin ∷ [])) (run_on b.job (d.draws ++ d.begins) begin j b.tasks b.workers b.limit d.run b.step);
    }
  where
    zero_is : (k : ℕ) → k < 1 → 0 ≡ k
    zero_is k l = omega arith

-- the attempts of task m are taken back, the last first
begins_at : (m : ℕ) → ((i : Job) → Ready i → count_by is_ended (tried_of i) ≡ 0 → ((t : ℕ) → m ≤ t → (task_of i t).begun ≡ 0) → Begun m i) → (b : ℕ) (j : Job) → Ready j → count_by is_ended (tried_of j) ≡ 0 → ((t : ℕ) → suc m ≤ t → (task_of j t).begun ≡ 0) → (task_of j m).begun ≡ b → Begun (suc m) j
begins_at m lower zero j r open_all none e =
    let d = lower j r open_all (λ t l. elim (cases_eq t m) as (λ _. (task_of j t).begun ≡ 0) [ inl q ↦ ap (λ u. (task_of j u).begun) q ∙ e | inr q ↦ none t (omega arith) ]) in
    record {
      draws = d.draws;
      begins = d.begins;
      are_draws = d.are_draws;
      are_begins = d.are_begins;
      by_task = d.by_task;
      below = λ k x l. let q = d.below k x l in omega arith;
      run = d.run;
    }
begins_at m lower (suc a) j r open_all none e =
    more (λ i. begins_at m lower a i) (before_some_begin m a j r open_all (omega arith))
  where
    more : ((i : Job) → Ready i → count_by is_ended (tried_of i) ≡ 0 → ((t : ℕ) → suc m ≤ t → (task_of i t).begun ≡ 0) → (task_of i m).begun ≡ a → Begun (suc m) i) → BeforeBegin j m a → Begun (suc m) j
    more earlier b =
        let still = sym (added_other is_ended (attempt m a Unended) (tried_of b.job) (tried_of j) b.adds refl) ∙ open_all in
        begins_more m a j b (earlier b.job b.ready still (λ t l. b.others t (omega arith) ∙ none t l) b.begun)

begins_to : (m : ℕ) (j : Job) → Ready j → count_by is_ended (tried_of j) ≡ 0 → ((t : ℕ) → m ≤ t → (task_of j t).begun ≡ 0) → Begun m j
begins_to zero j r open_all none =
    let d = draws_to j.next j r refl (λ t. none t (omega arith)) in
    record {
      draws = d.draws;
      begins = [];
      are_draws = d.are_draws;
      are_begins = refl;
      by_task = IsNonDecreasingBy-short begun_task [] (omega arith);
      below = λ k x l. absurd (omega arith);
      run = subst (λ es. Runs (opening (length j.tasks) (length j.workers) j.limit) es j) (sym (append-nil d.draws)) d.run;
    }
begins_to (suc m) j r open_all none = begins_at m (begins_to m) (task_of j m).begun j r open_all none refl

-- reached by draws, begins and commits
record Committed (j : Job) : Type 0 where
  draws : List Event
  begins : List Event
  commits : List Event
  are_draws : list_all is_draw draws ≡ true
  are_begins : list_all is_begin begins ≡ true
  by_task : IsNonDecreasingBy begun_task begins
  are_commits : list_all is_commit commits ≡ true
  run : Runs (opening (length j.tasks) (length j.workers) j.limit) (draws ++ (begins ++ commits)) j

-- an ended attempt is lost or has won
ended-counts : (xs : List Attempt) → count_by is_ended xs ≡ count_by is_lost xs + count_by (λ x. has_won x.fate) xs
ended-counts [] = refl
ended-counts (x ∷ xs) =
    let p = sum_by-cons (λ y. cond {A = ℕ} (is_ended y) 1 0) x xs in
    let q = sum_by-cons (λ y. cond {A = ℕ} (is_lost y) 1 0) x xs in
    let r = sum_by-cons (λ y. cond {A = ℕ} (has_won y.fate) 1 0) x xs in
    let s = ended-counts xs in
    let t = one x.fate in
    omega arith
  where
    one : (f : Fate) → cond {A = ℕ} (not (is_unended f)) 1 0 ≡ cond {A = ℕ} (is_late f || has_failed f) 1 0 + cond {A = ℕ} (has_won f) 1 0
    one Unended = refl
    one Won = refl
    one Late = refl
    one Failed = refl

-- a won attempt, as written out
won_is : (x : Attempt) → has_won x.fate ≡ true → x ≡ attempt x.task x.number Won
won_is x h = ap (attempt x.task x.number) (won x.fate h)
  where
    won : (f : Fate) → has_won f ≡ true → f ≡ Won
    won Unended h = cc
    won Won h = refl
    won Late h = cc
    won Failed h = cc

-- a won attempt can be taken back where none is lost
before_some_win : (j : Job) → Ready j → count_by is_lost (tried_of j) ≡ 0 → 0 < count_by (λ x. has_won x.fate) (tried_of j) → BeforeEnd j Won
before_some_win j r none more = taken (found_of (λ x. has_won x.fate) (λ v. v.tried) j.workers more)
  where
    late-le : (f : Fate) (c : Bool) → cond {A = ℕ} (is_late f && c) 1 0 ≤ cond {A = ℕ} (is_late f || has_failed f) 1 0
    late-le Unended c = omega arith
    late-le Won c = omega arith
    late-le Late true = omega arith
    late-le Late false = omega arith
    late-le Failed c = omega arith

    none_late : (t : ℕ) → count_by (is_late_of t) (tried_of j) ≡ 0
    none_late t = let fewer = sum_by-le-sum_by (λ x. cond {A = ℕ} (is_late_of t x) 1 0) (λ x. cond {A = ℕ} (is_lost x) 1 0) (tried_of j) (λ x. late-le x.fate (x.task == t)) in omega arith

    taken : Found (λ x. has_won x.fate) (λ v. v.tried) j.workers → BeforeEnd j Won
    taken found =
        let s = found.entry in
        let is = s.is ∙ ap (λ x. s.front ++ x ∷ s.back) (won_is s.item s.passes) in
        before_commit j found.worker s.item.task s.item.number s.front s.back r (none_late s.item.task) found.there is

-- one commit more
commits_more : (j : Job) (b : BeforeEnd j Won) → Committed b.job → Committed j
commits_more j b d = record {
  draws = d.draws;
  begins = d.begins;
  commits = d.commits ++ b.event ∷ [];
  are_draws = d.are_draws;
  are_begins = d.are_begins;
  by_task = d.by_task;
  are_commits = all_push is_commit d.commits b.event d.are_commits b.ends;
  run = subst (λ es. Runs (opening (length j.tasks) (length j.workers) j.limit) es j)
      (append_assoc d.draws (d.begins ++ d.commits) (b.event ∷ []) ∙ ap (λ es. d.draws ++ es) (append_assoc d.begins d.commits (b.event ∷ [])))
      (run_on b.job (d.draws ++ (d.begins ++ d.commits)) b.event j b.tasks b.workers b.limit d.run b.step);
}

commits_to : (k : ℕ) (j : Job) → Ready j → count_by is_lost (tried_of j) ≡ 0 → count_by (λ x. has_won x.fate) (tried_of j) ≡ k → Committed j
commits_to zero j r none e =
    let open_all = ended-counts (tried_of j) in
    let d = begins_to (length j.tasks) j r (omega arith) (λ t l. ap (λ y. y.begun) (get_or_past j.tasks t untried l)) in
    record {
      draws = d.draws;
      begins = d.begins;
      commits = [];
      are_draws = d.are_draws;
      are_begins = d.are_begins;
      by_task = d.by_task;
      are_commits = refl;
      run = subst (λ es. Runs (opening (length j.tasks) (length j.workers) j.limit) (d.draws ++ es) j) (sym (append-nil d.begins)) d.run;
    }
commits_to (suc k) j r none e = more (λ i. commits_to k i) (before_some_win j r none (omega arith))
  where
    more : ((i : Job) → Ready i → count_by is_lost (tried_of i) ≡ 0 → count_by (λ x. has_won x.fate) (tried_of i) ≡ k → Committed i) → BeforeEnd j Won → Committed j
    more earlier b =
        let none' = sym (swapped_alike is_lost (attempt b.task b.number Unended) (attempt b.task b.number Won) (tried_of b.job) (tried_of j) b.swap refl) ∙ none in
        let wins = b.swap.sums (λ x. cond {A = ℕ} (has_won x.fate) 1 0) in
        commits_more j b (earlier b.job b.ready none' (omega arith))

-- a fate that is late or failed
abbrev is_lost_fate : Fate → Bool
is_lost_fate f = is_late f || has_failed f

record SomeLoss (j : Job) : Type 0 where
  fate : Fate
  lost : is_lost_fate fate ≡ true
  before : BeforeEnd j fate

-- a lost attempt can always be taken back
before_some_loss : (j : Job) → Ready j → 0 < count_by is_lost (tried_of j) → SomeLoss j
before_some_loss j r more = taken (found_of is_lost (λ v. v.tried) j.workers more)
  where
    of_fate : (f : Fate) (w t a : ℕ) (front back : List Attempt) → is_lost_fate f ≡ true → w < length j.workers → (worker_of j w).tried ≡ front ++ attempt t a f ∷ back → SomeLoss j
    of_fate Unended w t a front back h l e = absurd (false≢true h)
    of_fate Won w t a front back h l e = absurd (false≢true h)
    of_fate Late w t a front back h l e = record { fate = Late; lost = refl; before = before_late j w t a front back r l e }
    of_fate Failed w t a front back h l e = record { fate = Failed; lost = refl; before = before_fail j w t a front back r l e }

    taken : Found is_lost (λ v. v.tried) j.workers → SomeLoss j
    taken found = let s = found.entry in of_fate s.item.fate found.worker s.item.task s.item.number s.front s.back s.passes found.there s.is

-- one late or failed end more
ends_more : (j : Job) (f : Fate) → is_lost_fate f ≡ true → (b : BeforeEnd j f) → IsReached b.job → IsReached j
ends_more j f h b d = record {
  draws = d.draws;
  begins = d.begins;
  commits = d.commits;
  ends = d.ends ++ b.event ∷ [];
  are_draws = d.are_draws;
  are_begins = d.are_begins;
  by_task = d.by_task;
  are_commits = d.are_commits;
  are_ends = all_push is_lost_end d.ends b.event d.are_ends (is_end f b.event h b.ends);
  run = subst (λ es. Runs (opening (length j.tasks) (length j.workers) j.limit) es j)
      (append_assoc d.draws (d.begins ++ (d.commits ++ d.ends)) (b.event ∷ [])
      ∙ ap (λ es. d.draws ++ es) (append_assoc d.begins (d.commits ++ d.ends) (b.event ∷ []) ∙ ap (λ es. d.begins ++ es) (append_assoc d.commits d.ends (b.event ∷ []))))
      (run_on b.job (d.draws ++ (d.begins ++ (d.commits ++ d.ends))) b.event j b.tasks b.workers b.limit d.run b.step);
}
  where
    is_end : (g : Fate) (e : Event) → is_lost_fate g ≡ true → ends_in g e ≡ true → is_lost_end e ≡ true
    is_end Unended e p q = absurd (false≢true p)
    is_end Won e p q = absurd (false≢true p)
    is_end Late e p q = q
    is_end Failed e p q = q

ends_to : (k : ℕ) (j : Job) → Ready j → count_by is_lost (tried_of j) ≡ k → IsReached j
ends_to zero j r e =
    let d = commits_to (count_by (λ x. has_won x.fate) (tried_of j)) j r e refl in
    record {
      draws = d.draws;
      begins = d.begins;
      commits = d.commits;
      ends = [];
      are_draws = d.are_draws;
      are_begins = d.are_begins;
      by_task = d.by_task;
      are_commits = d.are_commits;
      are_ends = refl;
      run = subst (λ es. Runs (opening (length j.tasks) (length j.workers) j.limit) (d.draws ++ (d.begins ++ es)) j) (sym (append-nil d.commits)) d.run;
    }
ends_to (suc k) j r e = more (λ i. ends_to k i) (before_some_loss j r (omega arith))
  where
    one_less : (f : Fate) → is_lost_fate f ≡ true → (t a : ℕ) (xs ys : List Attempt) → Swaps (attempt t a Unended) (attempt t a f) xs ys → count_by is_lost ys ≡ suc k → count_by is_lost xs ≡ k
    one_less f h t a xs ys s n =
        let p = s.sums (λ x. cond {A = ℕ} (is_lost x) 1 0) in
        let q : cond {A = ℕ} (is_lost_fate f) 1 0 ≡ 1 = ap (λ c. cond {A = ℕ} c 1 0) h in
        omega arith

    more : ((i : Job) → Ready i → count_by is_lost (tried_of i) ≡ k → IsReached i) → SomeLoss j → IsReached j
    more earlier b = ends_more j b.fate b.lost b.before (earlier b.before.job b.before.ready (one_less b.fate b.lost b.before.task b.before.number (tried_of b.before.job) (tried_of j) b.before.swap e))

-- a job that meets the rule of its entries, whose workers all run and whose total is within its bound, is reached
pub is_reached : (j : Job) → Ready j → IsReached j
is_reached j r = ends_to (count_by is_lost (tried_of j)) j r refl
