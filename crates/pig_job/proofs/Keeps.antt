-- Each kind of step keeps the rule, whoever makes it, and can be taken back under the rule.
use Rattle.std.proofs.Common.{◌≡◌, ◌≢◌, ℕ, ◌+◌, ◌<◌, Bool, ◌&&◌, Some, None, List, cond, refl, sym, ◌∙◌, ap, arith}
use Rattle.std.specs.Prelude.{◌==◌, count_by}
use Rattle.std.proofs.lemmas.Bool.{cases_eq, eq-eqb, ne_eqb}
use Rattle.std.proofs.lemmas.Bool.Decides.{nat_tests}
use Rattle.std.proofs.Common.{inl, inr, ◌↔◌}
use Rattle.pig_job.specs.declared.Attempt.{Attempt}
use Rattle.pig_job.specs.declared.Fate.{Fate}
use Rattle.pig_job.specs.declared.Fate.TheVariants.{Unended, Won, Late, Failed}
use Rattle.pig_job.specs.Rule.{Words, Kept, is_attempt, is_win, is_late_of, is_failure_of, once_below, once_at}
use Rattle.pig_job.proofs.Bag.{SameBag, Adds, Swaps, swapped_alike, added_other}

-- the words say the same
pub record SameWords (w v : Words) : Type 0 where
  pub tasks : v.tasks ≡ w.tasks
  pub next : v.next ≡ w.next
  pub begun : (u : ℕ) → v.begun u ≡ w.begun u
  pub failed : (u : ℕ) → v.failed u ≡ w.failed u
  pub winner : (u : ℕ) → v.winner u ≡ w.winner u

-- `next` has risen by one
pub record Draws (w v : Words) : Type 0 where
  pub tasks : v.tasks ≡ w.tasks
  pub next : v.next ≡ w.next + 1
  pub begun : (u : ℕ) → v.begun u ≡ w.begun u
  pub failed : (u : ℕ) → v.failed u ≡ w.failed u
  pub winner : (u : ℕ) → v.winner u ≡ w.winner u

-- `begun` of task t has risen by one
pub record Begins (w v : Words) (t : ℕ) : Type 0 where
  pub tasks : v.tasks ≡ w.tasks
  pub next : v.next ≡ w.next
  pub begun : v.begun t ≡ w.begun t + 1
  pub others : (u : ℕ) → u ≢ t → v.begun u ≡ w.begun u
  pub failed : (u : ℕ) → v.failed u ≡ w.failed u
  pub winner : (u : ℕ) → v.winner u ≡ w.winner u

-- task t, without a winner until then, has the winner a
pub record Wins (w v : Words) (t a : ℕ) : Type 0 where
  pub tasks : v.tasks ≡ w.tasks
  pub next : v.next ≡ w.next
  pub begun : (u : ℕ) → v.begun u ≡ w.begun u
  pub failed : (u : ℕ) → v.failed u ≡ w.failed u
  pub before : w.winner t ≡ None
  pub winner : v.winner t ≡ Some a
  pub others : (u : ℕ) → u ≢ t → v.winner u ≡ w.winner u

-- `failed` of task t has risen by one
pub record Fails (w v : Words) (t : ℕ) : Type 0 where
  pub tasks : v.tasks ≡ w.tasks
  pub next : v.next ≡ w.next
  pub begun : (u : ℕ) → v.begun u ≡ w.begun u
  pub failed : v.failed t ≡ w.failed t + 1
  pub others : (u : ℕ) → u ≢ t → v.failed u ≡ w.failed u
  pub winner : (u : ℕ) → v.winner u ≡ w.winner u

-- the attempt a at task t, in the fate f
abbrev pub attempt : ℕ → ℕ → Fate → Attempt
attempt t a f = record { task = t; number = a; fate = f }

-- one more number is one more to count
pub once_below-suc : (n a : ℕ) → once_below (n + 1) a ≡ once_below n a + cond {A = ℕ} (n == a) 1 0
once_below-suc n a = grind (arith, nat_tests)

pub keeps_same : (w v : Words) (ds es : List ℕ) (xs ys : List Attempt) → SameWords w v → SameBag ds es → SameBag xs ys → Kept w ds xs → Kept v es ys
keeps_same w v ds es xs ys s d b k = record {
  draws = λ x. d.sums _ ∙ k.draws x ∙ ap (λ n. once_below n x) (sym s.next);
  attempts = λ t a. b.sums _ ∙ k.attempts t a ∙ ap (λ n. once_below n a) (sym (s.begun t));
  drawn_first = λ t h. let q = k.drawn_first t (let e = s.begun t in omega arith) in (let e = s.tasks in omega arith, let e = s.next in omega arith);
  failures = λ t. b.sums _ ∙ k.failures t ∙ sym (s.failed t);
  winners = λ t a. b.sums _ ∙ k.winners t a ∙ ap (λ o. once_at o a) (sym (s.winner t));
  late_ends = λ t h. b.sums _ ∙ k.late_ends t (sym (s.winner t) ∙ h);
}

-- the rule reads the entries as bags
pub keeps_bags : (w : Words) (ds es : List ℕ) (xs ys : List Attempt) → SameBag ds es → SameBag xs ys → Kept w ds xs → Kept w es ys
keeps_bags w ds es xs ys d b k = keeps_same w w ds es xs ys (record { tasks = refl; next = refl; begun = λ u. refl; failed = λ u. refl; winner = λ u. refl }) d b k

-- a test of a task and more, at that task and at another
at_task : (t u : ℕ) (b : Bool) → u ≡ t → cond {A = ℕ} ((t == u) && b) 1 0 ≡ cond {A = ℕ} b 1 0
at_task t u b e = ap (λ c. cond {A = ℕ} (c && b) 1 0) (eq-eqb t u (sym e))

at_other : (t u : ℕ) (b : Bool) → u ≢ t → cond {A = ℕ} ((t == u) && b) 1 0 ≡ 0
at_other t u b n = ap (λ c. cond {A = ℕ} (c && b) 1 0) (ne_eqb t u (λ e. n (sym e)))

-- the same test alone
this_task : (t u : ℕ) → u ≡ t → cond {A = ℕ} (t == u) 1 0 ≡ 1
this_task t u e = ap (λ c. cond {A = ℕ} c 1 0) (eq-eqb t u (sym e))

other_task : (t u : ℕ) → u ≢ t → cond {A = ℕ} (t == u) 1 0 ≡ 0
other_task t u n = ap (λ c. cond {A = ℕ} c 1 0) (ne_eqb t u (λ e. n (sym e)))

-- the attempts of a task and one more
one_more : (w v : Words) (t : ℕ) (f : Fate) (xs ys : List Attempt) → Begins w v t → Adds (attempt t (w.begun t) f) xs ys → (u b : ℕ) → (count_by (is_attempt u b) xs ≡ once_below (w.begun u) b) ↔ (count_by (is_attempt u b) ys ≡ once_below (v.begun u) b)
one_more w v t f xs ys s d u b =
    let q = d.sums (λ x. cond {A = ℕ} (is_attempt u b x) 1 0) in
    let P : Type 0 = (count_by (is_attempt u b) xs ≡ once_below (w.begun u) b) ↔ (count_by (is_attempt u b) ys ≡ once_below (v.begun u) b) in
    elim (cases_eq u t) as (λ _. P) [
      | inl e ↦
          let z = at_task t u (w.begun t == b) e in
          let m = once_below-suc (w.begun t) b in
          let same : once_below (w.begun u) b ≡ once_below (w.begun t) b = ap (λ n. once_below (w.begun n) b) e in
          let more : once_below (v.begun u) b ≡ once_below (w.begun t + 1) b = ap (λ n. once_below (v.begun n) b) e ∙ ap (λ n. once_below n b) s.begun in
          (λ h. omega arith, λ h. omega arith)
      | inr n ↦
          let z = at_other t u (w.begun t == b) n in
          let same : once_below (v.begun u) b ≡ once_below (w.begun u) b = ap (λ n. once_below n b) (s.others u n) in
          (λ h. omega arith, λ h. omega arith)
    ]

-- the failures of a task and one more
one_failure_more : (w v : Words) (t a : ℕ) (xs ys : List Attempt) → Fails w v t → Swaps (attempt t a Unended) (attempt t a Failed) xs ys → (u : ℕ) → (count_by (is_failure_of u) xs ≡ w.failed u) ↔ (count_by (is_failure_of u) ys ≡ v.failed u)
one_failure_more w v t a xs ys s d u =
    let q = d.sums (λ x. cond {A = ℕ} (is_failure_of u x) 1 0) in
    let P : Type 0 = (count_by (is_failure_of u) xs ≡ w.failed u) ↔ (count_by (is_failure_of u) ys ≡ v.failed u) in
    elim (cases_eq u t) as (λ _. P) [
      | inl e ↦
          let z = this_task t u e in
          let more : v.failed u ≡ w.failed u + 1 = ap v.failed e ∙ s.failed ∙ ap (λ n. w.failed n + 1) (sym e) in
          (λ h. omega arith, λ h. omega arith)
      | inr n ↦
          let z = other_task t u n in
          let same = s.others u n in
          (λ h. omega arith, λ h. omega arith)
    ]

-- the wins of a task that had none, and one
one_win_more : (w v : Words) (t a : ℕ) (xs ys : List Attempt) → Wins w v t a → Swaps (attempt t a Unended) (attempt t a Won) xs ys → (u b : ℕ) → (count_by (is_win u b) xs ≡ once_at (w.winner u) b) ↔ (count_by (is_win u b) ys ≡ once_at (v.winner u) b)
one_win_more w v t a xs ys s d u b =
    let q = d.sums (λ x. cond {A = ℕ} (is_win u b x) 1 0) in
    let P : Type 0 = (count_by (is_win u b) xs ≡ once_at (w.winner u) b) ↔ (count_by (is_win u b) ys ≡ once_at (v.winner u) b) in
    elim (cases_eq u t) as (λ _. P) [
      | inl e ↦
          let z = at_task t u (a == b) e in
          let none : once_at (w.winner u) b ≡ 0 = ap (λ n. once_at (w.winner n) b) e ∙ ap (λ o. once_at o b) s.before in
          let some : once_at (v.winner u) b ≡ cond {A = ℕ} (a == b) 1 0 = ap (λ n. once_at (v.winner n) b) e ∙ ap (λ o. once_at o b) s.winner in
          (λ h. omega arith, λ h. omega arith)
      | inr n ↦
          let z = at_other t u (a == b) n in
          let same : once_at (v.winner u) b ≡ once_at (w.winner u) b = ap (λ o. once_at o b) (s.others u n) in
          (λ h. omega arith, λ h. omega arith)
    ]

pub keeps_draw : (w v : Words) (ds es : List ℕ) (xs : List Attempt) → Draws w v → Adds w.next ds es → Kept w ds xs → Kept v es xs
keeps_draw w v ds es xs s d k = record {
  draws = λ x.
      let q = d.sums (λ y. cond {A = ℕ} (y == x) 1 0) in
      let r = k.draws x in
      let m = once_below-suc w.next x in
      let e : once_below v.next x ≡ once_below (w.next + 1) x = ap (λ n. once_below n x) s.next in
      omega arith;
  attempts = λ t a. k.attempts t a ∙ ap (λ n. once_below n a) (sym (s.begun t));
  drawn_first = λ t h. let q = k.drawn_first t (let e = s.begun t in omega arith) in (let e = s.tasks in omega arith, let e = s.next in omega arith);
  failures = λ t. k.failures t ∙ sym (s.failed t);
  winners = λ t a. k.winners t a ∙ ap (λ o. once_at o a) (sym (s.winner t));
  late_ends = λ t h. k.late_ends t (sym (s.winner t) ∙ h);
}

-- the draw of the last number can be taken back where no task at or above it was begun
pub undo_draw : (w v : Words) (ds es : List ℕ) (xs : List Attempt) → Draws w v → Adds w.next ds es → ((t : ℕ) → 0 < v.begun t → t < w.next) → Kept v es xs → Kept w ds xs
undo_draw w v ds es xs s d below k = record {
  draws = λ x.
      let q = d.sums (λ y. cond {A = ℕ} (y == x) 1 0) in
      let r = k.draws x in
      let m = once_below-suc w.next x in
      let e : once_below v.next x ≡ once_below (w.next + 1) x = ap (λ n. once_below n x) s.next in
      omega arith;
  attempts = λ t a. k.attempts t a ∙ ap (λ n. once_below n a) (s.begun t);
  drawn_first = λ t h. let e = s.begun t in let q = k.drawn_first t (omega arith) in (let e = s.tasks in omega arith, below t (omega arith));
  failures = λ t. k.failures t ∙ s.failed t;
  winners = λ t a. k.winners t a ∙ ap (λ o. once_at o a) (s.winner t);
  late_ends = λ t h. k.late_ends t (s.winner t ∙ h);
}

pub keeps_begin : (w v : Words) (t : ℕ) (ds : List ℕ) (xs ys : List Attempt) → Begins w v t → t < w.tasks → t < w.next → Adds (attempt t (w.begun t) Unended) xs ys → Kept w ds xs → Kept v ds ys
keeps_begin w v t ds xs ys s there drawn d k = record {
  draws = λ x. k.draws x ∙ ap (λ n. once_below n x) (sym s.next);
  attempts = λ u b. (one_more w v t Unended xs ys s d u b).0 (k.attempts u b);
  drawn_first = λ u h. elim (cases_eq u t) as (λ _. (u < v.tasks) × (u < v.next)) [
    | inl e ↦ (let r = s.tasks in omega arith, let r = s.next in omega arith)
    | inr n ↦ let q = k.drawn_first u (let e = s.others u n in omega arith) in (let e = s.tasks in omega arith, let e = s.next in omega arith)
  ];
  failures = λ u. (added_other (is_failure_of u) _ _ _ d refl) ∙ k.failures u ∙ sym (s.failed u);
  winners = λ u b. (added_other (is_win u b) _ _ _ d refl) ∙ k.winners u b ∙ ap (λ o. once_at o b) (sym (s.winner u));
  late_ends = λ u h. (added_other (is_late_of u) _ _ _ d refl) ∙ k.late_ends u (sym (s.winner u) ∙ h);
}

-- the last attempt at a task can be taken back while it is under way
pub undo_begin : (w v : Words) (t : ℕ) (ds : List ℕ) (xs ys : List Attempt) → Begins w v t → Adds (attempt t (w.begun t) Unended) xs ys → Kept v ds ys → Kept w ds xs
undo_begin w v t ds xs ys s d k = record {
  draws = λ x. k.draws x ∙ ap (λ n. once_below n x) s.next;
  attempts = λ u b. (one_more w v t Unended xs ys s d u b).1 (k.attempts u b);
  drawn_first = λ u h.
      let more : 0 < v.begun u = elim (cases_eq u t) as (λ _. 0 < v.begun u) [
        | inl e ↦ let r : v.begun u ≡ w.begun t + 1 = ap v.begun e ∙ s.begun in omega arith
        | inr n ↦ let r = s.others u n in omega arith
      ] in
      let q = k.drawn_first u more in
      (let e = s.tasks in omega arith, let e = s.next in omega arith);
  failures = λ u. sym (added_other (is_failure_of u) _ _ _ d refl) ∙ k.failures u ∙ s.failed u;
  winners = λ u b. sym (added_other (is_win u b) _ _ _ d refl) ∙ k.winners u b ∙ ap (λ o. once_at o b) (s.winner u);
  late_ends = λ u h. sym (added_other (is_late_of u) _ _ _ d refl) ∙ k.late_ends u (s.winner u ∙ h);
}

pub keeps_win : (w v : Words) (t a : ℕ) (ds : List ℕ) (xs ys : List Attempt) → Wins w v t a → Swaps (attempt t a Unended) (attempt t a Won) xs ys → Kept w ds xs → Kept v ds ys
keeps_win w v t a ds xs ys s d k = record {
  draws = λ x. k.draws x ∙ ap (λ n. once_below n x) (sym s.next);
  attempts = λ u b. (swapped_alike (is_attempt u b) _ _ _ _ d refl) ∙ k.attempts u b ∙ ap (λ n. once_below n b) (sym (s.begun u));
  drawn_first = λ u h. let q = k.drawn_first u (let e = s.begun u in omega arith) in (let e = s.tasks in omega arith, let e = s.next in omega arith);
  failures = λ u. (swapped_alike (is_failure_of u) _ _ _ _ d refl) ∙ k.failures u ∙ sym (s.failed u);
  winners = λ u b. (one_win_more w v t a xs ys s d u b).0 (k.winners u b);
  late_ends = λ u h.
      let q = d.sums (λ x. cond {A = ℕ} (is_late_of u x) 1 0) in
      let open_still : w.winner u ≡ None = elim (cases_eq u t) as (λ _. w.winner u ≡ None) [ inl e ↦ ap w.winner e ∙ s.before | inr n ↦ sym (s.others u n) ∙ h ] in
      let r = k.late_ends u open_still in
      omega arith;
}

-- a win can be taken back while no attempt at its task is late
pub undo_win : (w v : Words) (t a : ℕ) (ds : List ℕ) (xs ys : List Attempt) → Wins w v t a → Swaps (attempt t a Unended) (attempt t a Won) xs ys → count_by (is_late_of t) ys ≡ 0 → Kept v ds ys → Kept w ds xs
undo_win w v t a ds xs ys s d none k = record {
  draws = λ x. k.draws x ∙ ap (λ n. once_below n x) s.next;
  attempts = λ u b. sym (swapped_alike (is_attempt u b) _ _ _ _ d refl) ∙ k.attempts u b ∙ ap (λ n. once_below n b) (s.begun u);
  drawn_first = λ u h. let q = k.drawn_first u (let e = s.begun u in omega arith) in (let e = s.tasks in omega arith, let e = s.next in omega arith);
  failures = λ u. sym (swapped_alike (is_failure_of u) _ _ _ _ d refl) ∙ k.failures u ∙ s.failed u;
  winners = λ u b. (one_win_more w v t a xs ys s d u b).1 (k.winners u b);
  late_ends = λ u h.
      let q = d.sums (λ x. cond {A = ℕ} (is_late_of u x) 1 0) in
      let r : count_by (is_late_of u) ys ≡ 0 = elim (cases_eq u t) as (λ _. count_by (is_late_of u) ys ≡ 0) [ inl e ↦ ap (λ n. count_by (is_late_of n) ys) e ∙ none | inr n ↦ k.late_ends u (s.others u n ∙ h) ] in
      omega arith;
}

pub keeps_late : (w v : Words) (t a : ℕ) (ds : List ℕ) (xs ys : List Attempt) → SameWords w v → w.winner t ≢ None → Swaps (attempt t a Unended) (attempt t a Late) xs ys → Kept w ds xs → Kept v ds ys
keeps_late w v t a ds xs ys s won d k = record {
  draws = λ x. k.draws x ∙ ap (λ n. once_below n x) (sym s.next);
  attempts = λ u b. (swapped_alike (is_attempt u b) _ _ _ _ d refl) ∙ k.attempts u b ∙ ap (λ n. once_below n b) (sym (s.begun u));
  drawn_first = λ u h. let q = k.drawn_first u (let e = s.begun u in omega arith) in (let e = s.tasks in omega arith, let e = s.next in omega arith);
  failures = λ u. (swapped_alike (is_failure_of u) _ _ _ _ d refl) ∙ k.failures u ∙ sym (s.failed u);
  winners = λ u b. (swapped_alike (is_win u b) _ _ _ _ d refl) ∙ k.winners u b ∙ ap (λ o. once_at o b) (sym (s.winner u));
  late_ends = λ u h.
      let q = d.sums (λ x. cond {A = ℕ} (is_late_of u x) 1 0) in
      let h' : w.winner u ≡ None = sym (s.winner u) ∙ h in
      let r = k.late_ends u h' in
      let z = other_task t u (λ e. won (ap w.winner (sym e) ∙ h')) in
      omega arith;
}

-- a late end can always be taken back
pub undo_late : (w v : Words) (t a : ℕ) (ds : List ℕ) (xs ys : List Attempt) → SameWords w v → Swaps (attempt t a Unended) (attempt t a Late) xs ys → Kept v ds ys → Kept w ds xs
undo_late w v t a ds xs ys s d k = record {
  draws = λ x. k.draws x ∙ ap (λ n. once_below n x) s.next;
  attempts = λ u b. sym (swapped_alike (is_attempt u b) _ _ _ _ d refl) ∙ k.attempts u b ∙ ap (λ n. once_below n b) (s.begun u);
  drawn_first = λ u h. let q = k.drawn_first u (let e = s.begun u in omega arith) in (let e = s.tasks in omega arith, let e = s.next in omega arith);
  failures = λ u. sym (swapped_alike (is_failure_of u) _ _ _ _ d refl) ∙ k.failures u ∙ s.failed u;
  winners = λ u b. sym (swapped_alike (is_win u b) _ _ _ _ d refl) ∙ k.winners u b ∙ ap (λ o. once_at o b) (s.winner u);
  late_ends = λ u h. let q = d.sums (λ x. cond {A = ℕ} (is_late_of u x) 1 0) in let r = k.late_ends u (s.winner u ∙ h) in omega arith;
}

pub keeps_fail : (w v : Words) (t a : ℕ) (ds : List ℕ) (xs ys : List Attempt) → Fails w v t → Swaps (attempt t a Unended) (attempt t a Failed) xs ys → Kept w ds xs → Kept v ds ys
keeps_fail w v t a ds xs ys s d k = record {
  draws = λ x. k.draws x ∙ ap (λ n. once_below n x) (sym s.next);
  attempts = λ u b. (swapped_alike (is_attempt u b) _ _ _ _ d refl) ∙ k.attempts u b ∙ ap (λ n. once_below n b) (sym (s.begun u));
  drawn_first = λ u h. let q = k.drawn_first u (let e = s.begun u in omega arith) in (let e = s.tasks in omega arith, let e = s.next in omega arith);
  failures = λ u. (one_failure_more w v t a xs ys s d u).0 (k.failures u);
  winners = λ u b. (swapped_alike (is_win u b) _ _ _ _ d refl) ∙ k.winners u b ∙ ap (λ o. once_at o b) (sym (s.winner u));
  late_ends = λ u h. (swapped_alike (is_late_of u) _ _ _ _ d refl) ∙ k.late_ends u (sym (s.winner u) ∙ h);
}

-- a failure can always be taken back
pub undo_fail : (w v : Words) (t a : ℕ) (ds : List ℕ) (xs ys : List Attempt) → Fails w v t → Swaps (attempt t a Unended) (attempt t a Failed) xs ys → Kept v ds ys → Kept w ds xs
undo_fail w v t a ds xs ys s d k = record {
  draws = λ x. k.draws x ∙ ap (λ n. once_below n x) s.next;
  attempts = λ u b. sym (swapped_alike (is_attempt u b) _ _ _ _ d refl) ∙ k.attempts u b ∙ ap (λ n. once_below n b) (s.begun u);
  drawn_first = λ u h. let q = k.drawn_first u (let e = s.begun u in omega arith) in (let e = s.tasks in omega arith, let e = s.next in omega arith);
  failures = λ u. (one_failure_more w v t a xs ys s d u).1 (k.failures u);
  winners = λ u b. sym (swapped_alike (is_win u b) _ _ _ _ d refl) ∙ k.winners u b ∙ ap (λ o. once_at o b) (s.winner u);
  late_ends = λ u h. sym (swapped_alike (is_late_of u) _ _ _ _ d refl) ∙ k.late_ends u (s.winner u ∙ h);
}
