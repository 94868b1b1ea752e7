-- A job whose workers all run and that has no entry is as it opened.
use Rattle.std.proofs.Common.{◌≡◌, ℕ, Bool, true, Option, Some, None, List, [], ◌∷◌, ◌++◌, cond, length, replicate, refl, sym, ◌∙◌, ap, arith, suc}
use Rattle.std.specs.Prelude.{◌==◌, count_by, All}
use Rattle.std.specs.List.{flat_map}
use Rattle.std.proofs.lemmas.Bool.{eq-eqb, and_from}
use Rattle.std.proofs.lemmas.Bool.Decides.{nat_tests}
use Rattle.std.proofs.lemmas.List.Sums.{sum_by-cons}
use Rattle.pig_job.specs.declared.Attempt.{Attempt}
use Rattle.pig_job.specs.declared.Status.{Status}
use Rattle.pig_job.specs.declared.Status.TheVariants.{Running}
use Rattle.pig_job.specs.declared.Task.{Task}
use Rattle.pig_job.specs.Rule.{is_attempt, is_win, is_failure_of, once_at, once_below}
use Rattle.pig_job.specs.Job.{Job, WorkerState, untried, fresh, opening, task_of, drawn_of, tried_of}
use Rattle.pig_job.proofs.States.{task_at}
use Rattle.pig_job.proofs.Back.{Ready}

-- a list in which no element is found is empty
no_elements : {X : Type 0} (test : X → X → Bool) (xs : List X) → ((x : X) → test x x ≡ true) → ((x : X) → count_by (test x) xs ≡ 0) → xs ≡ []
no_elements test [] finds none = refl
no_elements test (x ∷ xs) finds none =
    let p = sum_by-cons (λ y. cond {A = ℕ} (test x y) 1 0) x xs in
    let q : cond {A = ℕ} (test x x) 1 0 ≡ 1 = ap (λ b. cond {A = ℕ} b 1 0) (finds x) in
    let r = none x in
    absurd (omega arith)

append-empty : {X : Type 0} (xs ys : List X) → xs ++ ys ≡ [] → (xs ≡ []) × (ys ≡ [])
append-empty [] ys e = (refl, e)
append-empty (x ∷ xs) ys e = absurd (cc)

workers_fresh : (vs : List WorkerState) → flat_map (λ v. v.drawn) vs ≡ [] → flat_map (λ v. v.tried) vs ≡ [] → All (λ v. v.status ≡ Running) vs → vs ≡ replicate (length vs) fresh
workers_fresh [] d t r = refl
workers_fresh (v ∷ vs) d t r =
    let d' = append-empty v.drawn (flat_map (λ v. v.drawn) vs) d in
    let t' = append-empty v.tried (flat_map (λ v. v.tried) vs) t in
    let running : v.status ≡ Running = r 0 fresh (omega arith) in
    let rest = workers_fresh vs d'.1 t'.1 (λ k d l. r (suc k) d (omega arith)) in
    let at_drawn : List ℕ → WorkerState = λ xs. record { drawn = xs; tried = v.tried; status = v.status } in
    let at_tried : List Attempt → WorkerState = λ xs. record { drawn = []; tried = xs; status = v.status } in
    let at_status : Status → WorkerState = λ s. record { drawn = []; tried = []; status = s } in
    let here : v ≡ fresh = ap at_drawn d'.0 ∙ ap at_tried t'.0 ∙ ap at_status running in
    ap (λ u. u ∷ vs) here ∙ ap (λ us. fresh ∷ us) rest

tasks_untried : (ts : List Task) → ((u : ℕ) → task_at ts u ≡ untried) → ts ≡ replicate (length ts) untried
tasks_untried [] h = refl
tasks_untried (t ∷ ts) h = ap (λ u. u ∷ ts) (h 0) ∙ ap (λ us. untried ∷ us) (tasks_untried ts (λ u. h (suc u)))

no_winner : (o : Option ℕ) → ((a : ℕ) → once_at o a ≡ 0) → o ≡ None
no_winner None h = refl
no_winner (Some b) h =
    let p = h b in
    let q : cond {A = ℕ} (b == b) 1 0 ≡ 1 = ap (λ c. cond {A = ℕ} c 1 0) (eq-eqb b b refl) in
    absurd (omega arith)

once_below-zero : (n a : ℕ) → n ≡ 0 → once_below n a ≡ 0
once_below-zero n a e = grind (arith, nat_tests)

pub is_opening : (j : Job) → Ready j → j.next ≡ 0 → ((t : ℕ) → (task_of j t).begun ≡ 0) → opening (length j.tasks) (length j.workers) j.limit ≡ j
is_opening j r e none =
    let k = r.entries in
    let drawn = no_elements (λ x y. y == x) (drawn_of j) (λ x. eq-eqb x x refl) (λ x. k.draws x ∙ once_below-zero j.next x e) in
    let tried = no_elements (λ x y. is_attempt x.task x.number y) (tried_of j) (λ x. and_from (x.task == x.task) (x.number == x.number) (eq-eqb x.task x.task refl) (eq-eqb x.number x.number refl)) (λ x. k.attempts x.task x.number ∙ once_below-zero (task_of j x.task).begun x.number (none x.task)) in
    let workers = workers_fresh j.workers drawn tried r.run in
    let at_begun : ℕ → Task → Task = λ n y. record y { begun = n } in
    let task : (u : ℕ) → task_of j u ≡ untried = λ u.
    let failed : (task_of j u).failed ≡ 0 = sym (k.failures u) ∙ ap (count_by (is_failure_of u)) tried in
    let winner : (task_of j u).winner ≡ None = no_winner (task_of j u).winner (λ a. sym (k.winners u a) ∙ ap (count_by (is_win u a)) tried) in
    let at_failed : ℕ → Task = λ n. record { begun = 0; failed = n; winner = (task_of j u).winner } in
    let at_winner : Option ℕ → Task = λ o. record { begun = 0; failed = 0; winner = o } in
    ap (λ n. at_begun n (task_of j u)) (none u) ∙ ap at_failed failed ∙ ap at_winner winner in
    let tasks = tasks_untried j.tasks task in
    let at_tasks : List Task → Job = λ ts. record { tasks = ts; limit = j.limit; next = 0; workers = replicate (length j.workers) fresh } in
    let at_next : ℕ → Job = λ n. record { tasks = j.tasks; limit = j.limit; next = n; workers = replicate (length j.workers) fresh } in
    let at_workers : List WorkerState → Job = λ vs. record { tasks = j.tasks; limit = j.limit; next = j.next; workers = vs } in
    ap at_tasks (sym tasks) ∙ ap at_next (sym e) ∙ ap at_workers (sym workers)
