-- Each call's step may be made, whatever the table is then, and tells what the call says.
use Rattle.std.proofs.Common.{◌≡◌, ◌≢◌, ℕ, ◌+◌, ◌*◌, ◌^◌, ◌%◌, ◌<◌, ◌≤◌, true, false, Option, Some, None, List, cond, length-append, get_or, set, refl, sym, ◌∙◌, ap, subst, arith, ⊎_elim, zero, suc}
use Rattle.std.specs.Prelude.{◌==◌, count_by, sum_by, All, MatchBool}
use Rattle.std.specs.List.{flat_map, list_any}
use mathlib.Core.Option.{some, none}
use lib.ListN.{get_elem?}
use prog.Atomic.{either}
use Rattle.std.proofs.lemmas.Bool.{or_cases, or_left, eq-eqb, ne_eqb, false≢true, false_from_ne_true}
use Rattle.std.proofs.lemmas.List.Elements.{All-append, All-nil}
use Rattle.std.proofs.lemmas.List.Sums.{sum_by-append}
use Rattle.std.proofs.lemmas.Bool.Decides.{nat_tests}
use Rattle.atomic_table.specs.Table.{Me, Act, keeps, step, Valid, carried_after, Allows, Splits, Joins}
use Rattle.atomic_table.proofs.Lists.{at_set, at_snoc}
use Rattle.pig_job.specs.declared.Attempt.{Attempt}
use Rattle.pig_job.specs.declared.Fate.TheVariants.{Won, Late, Failed}
use Rattle.pig_job.specs.Rule.{has_failed, is_attempt, is_win, is_failure_of, once_below, once_at}
use Rattle.pig_job.proofs.Keeps.{keeps_bags}
use Rattle.pig_job.proofs.States.{Swaps-settle}
use Rattle.pig_board.specs.declared.view.View.{View}
use Rattle.pig_board.specs.View.{steps_of, IsAlone, IsLate, drew, began, won, failed_at, saw_winner, saw_count, earliest, has_open, has_open_of, knows_winner, is_win_of, fails_of, kept_half, other_half, both, spent}
use Rattle.pig_board.specs.Rule.{winner_of, words_of, Noted, IsBoard}
use Rattle.pig_board.specs.Told.{DrawTold, BeginTold, CommitTold, FailTold, WinnerTold, CountTold, RoomTold, committed}
use Rattle.pig_board.proofs.Parts.{alone, entries-le, sum_cut, sum_join, SameBag-cut, SameBag-join}
use Rattle.pig_board.proofs.Counts.{sum_none, open_and_won, some_win, some_note, counted-any, win-of, earliest-open, settled_below}
use Rattle.pig_board.proofs.Writes.{summand-le}
use Rattle.pig_board.proofs.Steps.{room_left, attempt_there, not_open, draw_kept, begin_kept, fail_kept, win_kept, late_kept, same_kept, winner_kept, count_kept}
use Rattle.pig_job.proofs.States.{sum_by-flat_map}

-- the entries of all passes, where one pass is alone, are its own
entries_alone : (f : Attempt → ℕ) (n : ℕ) (ws : List ℕ) (vs : List View) (id : ℕ) (v : View) → IsBoard n ws vs → get_elem? vs id ≡ some v → IsAlone v → sum_by f (flat_map (λ (u : View). u.tried) vs) ≡ sum_by f v.tried
entries_alone f n ws vs id v b at is =
    let whole : sum_by steps_of vs ≡ steps_of v = b.shared_out ∙ sym is in
    let all = alone (λ (u : View). sum_by f u.tried) steps_of vs id v at whole (λ u e. sum_none f u.tried (omega arith)) in
    sum_by-flat_map f (λ (u : View). u.tried) vs ∙ all

-- one more number does not wrap
next_number : (x : ℕ) → x < 2 ^ 31 → (x + 1) % 2 ^ 64 ≡ x + 1
next_number x l = omega arith

pub draw_allowed : {S : Type 0} (n slots id : ℕ) (m : Me S View) → 0 < m.0.room → Allows (λ s. IsBoard n s.words s.views) slots id m 0 (λ x. (x + 1) % 2 ^ 64) (DrawTold (step slots 0 1 0 none) m)
draw_allowed n slots id m room s b homes at below =
    let x = get_or s.words 0 0 in
    let left = room_left n s.words s.views id m.0 b at in
    let small : x < 2 ^ 31 = omega arith in
    let more = next_number x small in
    let beyond : m.0.known ≤ x = (b.noted id m.0 at).known in
    (drew x m.0, keeps, tt, draw_kept n s.words s.views id ((x + 1) % 2 ^ 64) m.0 b at room more, record { after = refl; beyond = beyond; small = small })

pub begin_allowed : {S : Type 0} (n slots id t word : ℕ) (m : Me S View) → 0 < m.0.room → t < n → t < m.0.known → word ≡ 3 * t + 1 → Allows (λ s. IsBoard n s.words s.views) slots id m word (λ x. (x + 1) % 2 ^ 64) (BeginTold (step slots word 1 0 none) m)
begin_allowed {S} n slots id t word m room there known is s b homes at below =
    let x = get_or s.words word 0 in
    let x_is : get_or s.words (3 * t + 1) 0 ≡ x = ap (λ k. get_or s.words k 0) (sym is) in
    let left = room_left n s.words s.views id m.0 b at in
    let part = summand-le (λ u. get_or s.words (3 * u + 1) 0) n t there in
    let small : x < 2 ^ 31 = omega arith in
    let more = next_number x small in
    let own = entries-le (λ z. cond {A = ℕ} (is_attempt t x z) 1 0) (λ (u : View). u.tried) s.views id m.0 at in
    let all = b.kept.attempts t x in
    let fresh : once_below (get_or s.words (3 * t + 1) 0) x ≡ 0 = ap (λ k. once_below k x) x_is ∙ not_below x in
    let unused : count_by (is_attempt t x) m.0.tried ≡ 0 = omega arith in (
      began t x m.0,
      keeps,
      tt,
      begin_kept n s.words s.views id t word ((x + 1) % 2 ^ 64) m.0 b at room there known is more,
      record {
        slots = refl;
        room = refl;
        streak = refl;
        small = small;
        after = λ u e. same_task (λ k. (◌≡◌ {A = Me S View} (began t x m.0, m.1) (began k x m.0, m.1)) × (count_by (is_attempt k x) m.0.tried ≡ 0)) t u (omega arith) (refl, unused);
      },
    )
  where
    not_below : (k : ℕ) → once_below k k ≡ 0
    not_below k = grind (arith, nat_tests)

    same_task : (P : ℕ → Type 0) (k u : ℕ) → k ≡ u → P k → P u
    same_task P k u e p = subst P e p

-- where the winner's word is 0, no pass knows a winner
no_winner : (n : ℕ) (ws : List ℕ) (vs : List View) (id t : ℕ) (v : View) → IsBoard n ws vs → get_elem? vs id ≡ some v → get_or ws (3 * t + 3) 0 ≡ 0 → knows_winner t v ≡ false
no_winner n ws vs id t v b at empty = false_from_ne_true (knows_winner t v) (λ h. ⊎_elim own seen (or_cases (list_any (is_win_of t) v.tried) (list_any (λ p. p.0 == t) v.winners) h))
  where
    winner : winner_of (get_or ws (3 * t + 3) 0) ≡ None
    winner = ap winner_of empty

    own : list_any (is_win_of t) v.tried ≡ true → ⊥
    own h =
        let w = some_win t v.tried h in
        let mine = w.1 in
        let part = entries-le (λ z. cond {A = ℕ} (is_win t w.0 z) 1 0) (λ (u : View). u.tried) vs id v at in
        let all : count_by (is_win t w.0) (flat_map (λ (u : View). u.tried) vs) ≡ 0 = b.kept.winners t w.0 ∙ ap (λ o. once_at o w.0) winner in
        omega arith

    seen : list_any (λ p. p.0 == t) v.winners ≡ true → ⊥
    seen h =
        let w = some_note (λ u. winner_of (get_or ws (3 * u + 3) 0)) t v.winners (b.noted id v at).winners h in
        let wrong : None ≡ Some w.0 = sym winner ∙ w.1 in
        cc

pub commit_allowed : {S : Type 0} (n slots id t a word mark : ℕ) (m : Me S View) → has_open t a m.0 ≡ true → word ≡ 3 * t + 3 → mark ≡ a + 1 → Allows (λ s. IsBoard n s.words s.views) slots id m word (λ x. either (x == 0) mark x) (CommitTold (step slots word 0 mark none) m)
commit_allowed {S} n slots id t a word mark m is at_word is_mark s b homes at below = by_word (get_or s.words word 0) refl
  where
    same_task : (P : ℕ → Type 0) (k u : ℕ) → k ≡ u → P k → P u
    same_task P k u e p = subst P e p

    same_mark : (u c x : ℕ) → word ≡ 3 * u + 3 → mark ≡ c + 1 → ◌≡◌ {A = Me S View} (committed t a x m.0, m.1) (committed u c x m.0, m.1)
    same_mark u c x e f =
        let task : t ≡ u = omega arith in
        let number : a ≡ c = omega arith in
        ap {A = ℕ} {B = Me S View} (λ k. (committed k a x m.0, m.1)) task ∙ ap {A = ℕ} {B = Me S View} (λ k. (committed u k x m.0, m.1)) number

    by_word : (x : ℕ) → get_or s.words word 0 ≡ x
        → (w : View) × (c : Act S) × Valid s.homes m.1 c × IsBoard n (set s.words word (either (x == 0) mark x)) (set s.views id w) × CommitTold (step {S = S} slots word 0 mark none) m x (w, carried_after m.1 c)
    by_word zero found = (
      committed t a 0 m.0,
      keeps,
      tt,
      win_kept n s.words s.views id t a word mark m.0 b at is at_word found (omega arith),
      record {
        slots = refl;
        room = refl;
        streak = refl;
        another = λ e. omega arith;
        known = λ u e z. same_task (λ k. knows_winner k m.0 ≡ false) t u (omega arith) (no_winner n s.words s.views id t m.0 b at (ap (λ k. get_or s.words k 0) (sym at_word) ∙ found));
        after = λ u c e f. same_mark u c 0 e f;
      },
    )
    by_word (suc c) found =
        let winner : winner_of (get_or s.words (3 * t + 3) 0) ≡ Some c = ap (λ k. winner_of (get_or s.words k 0)) (sym at_word) ∙ ap winner_of found in
        let other = not_open n s.words s.views id t a c m.0 b at is winner in
        let stays : either (suc c == 0) mark (suc c) ≡ suc c = ap (λ k. either k mark (suc c)) (ne_eqb (suc c) 0 (λ h. omega arith)) in (
          committed t a (suc c) m.0,
          keeps,
          tt,
          late_kept n s.words s.views id t a c word (either (suc c == 0) mark (suc c)) m.0 b at is at_word found (stays ∙ sym found),
          record {
            slots = refl;
            room = refl;
            streak = refl;
            another = λ e. other (omega arith);
            known = λ u e z. absurd (omega arith);
            after = λ u d e f. same_mark u d (suc c) e f;
          },
        )

-- what a commit answers
pub commit_answer : (t a x : ℕ) (v w : View) → w ≡ committed t a x v → x ≢ a + 1 → MatchBool (x == 0) (w ≡ won t a v) (IsLate t a v w)
commit_answer t a zero v w is another = is
commit_answer t a (suc c) v w is another =
    let late : IsLate t a v w = record { winner = c; another = λ e. another (omega arith); view = is } in
    subst (λ b. MatchBool b (w ≡ won t a v) (IsLate t a v w)) (sym (ne_eqb (suc c) 0 (λ h. omega arith))) late

-- the failures of a pass, once one more has failed
one_more_failure : (t c : ℕ) (v : View) → has_open_of t v ≡ true → fails_of t (failed_at t c v) ≡ fails_of t v + 1
one_more_failure t c v h =
    let a = earliest t v.tried in
    let d = Swaps-settle t a Failed v.tried (earliest-open t v.tried h) in
    let p = d.sums (λ z. cond {A = ℕ} (is_failure_of t z) 1 0) in
    let one : cond {A = ℕ} (t == t) 1 0 ≡ 1 = ap (λ c. cond {A = ℕ} c 1 0) (eq-eqb t t refl) in
    omega arith

-- what the failure word of task t tells a pass
own_failures : (n : ℕ) (ws : List ℕ) (vs : List View) (id t : ℕ) (v : View) → IsBoard n ws vs → get_elem? vs id ≡ some v → fails_of t v ≤ get_or ws (3 * t + 2) 0
own_failures n ws vs id t v b at = let p = entries-le (λ z. cond {A = ℕ} (is_failure_of t z) 1 0) (λ (u : View). u.tried) vs id v at in let q = b.kept.failures t in omega arith

all_failures : (n : ℕ) (ws : List ℕ) (vs : List View) (id t : ℕ) (v : View) → IsBoard n ws vs → get_elem? vs id ≡ some v → IsAlone v → get_or ws (3 * t + 2) 0 ≡ fails_of t v
all_failures n ws vs id t v b at is = let p = entries_alone (λ z. cond {A = ℕ} (is_failure_of t z) 1 0) n ws vs id v b at is in let q = b.kept.failures t in omega arith

noted_failures : (n : ℕ) (ws : List ℕ) (vs : List View) (id t x : ℕ) (v : View) → IsBoard n ws vs → get_elem? vs id ≡ some v → get_or ws (3 * t + 2) 0 ≡ x → All (λ p. p.0 ≡ t → p.1 ≤ x) v.counts
noted_failures n ws vs id t x v b at is k d l e =
    let p = (b.noted id v at).counts k d l in
    let same : get_or ws (3 * (get_or v.counts k d).0 + 2) 0 ≡ x = ap (λ u. get_or ws (3 * u + 2) 0) e ∙ is in
    omega arith

pub fail_allowed : {S : Type 0} (n slots id t word : ℕ) (m : Me S View) → 0 < m.0.room → has_open_of t m.0 ≡ true → word ≡ 3 * t + 2 → Allows (λ s. IsBoard n s.words s.views) slots id m word (λ x. (x + 1) % 2 ^ 64) (FailTold (step slots word 1 0 none) m)
fail_allowed {S} n slots id t word m room is at_word s b homes at below =
    let x = get_or s.words word 0 in
    let x_is : get_or s.words (3 * t + 2) 0 ≡ x = ap (λ k. get_or s.words k 0) (sym at_word) in
    let there = (attempt_there n s.words s.views id t (earliest t m.0.tried) m.0 b at (earliest-open t m.0.tried is)).0 in
    let left = room_left n s.words s.views id m.0 b at in
    let part = summand-le (λ u. get_or s.words (3 * u + 2) 0) n t there in
    let small : x < 2 ^ 31 = omega arith in
    let more = next_number x small in
    let w = failed_at t (x + 1) m.0 in
    let one = one_more_failure t (x + 1) m.0 is in
    let own = own_failures n s.words s.views id t m.0 b at in (
      w,
      keeps,
      tt,
      fail_kept n s.words s.views id t word ((x + 1) % 2 ^ 64) (x + 1) m.0 b at room is at_word more refl,
      record {
        slots = refl;
        room = refl;
        streak = refl;
        few = let q = (b.noted id m.0 at).streak in omega arith;
        small = small;
        after = λ u e. same_task (λ k. ◌≡◌ {A = Me S View} (w, m.1) (failed_at k (x + 1) m.0, m.1)) t u (omega arith) refl;
        own = λ u e. same_task (λ k. fails_of k w ≤ x + 1) t u (omega arith) (omega arith);
        noted = λ u e. same_task (λ k. All (λ p. p.0 ≡ k → p.1 ≤ x) m.0.counts) t u (omega arith) (noted_failures n s.words s.views id t x m.0 b at x_is);
        alone = λ u e only. same_task (λ k. x + 1 ≡ fails_of k w) t u (omega arith) (let q = all_failures n s.words s.views id t m.0 b at only in omega arith);
      },
    )
  where
    same_task : (P : ℕ → Type 0) (k u : ℕ) → k ≡ u → P k → P u
    same_task P k u e p = subst P e p

pub count_allowed : {S : Type 0} (n slots id t word : ℕ) (m : Me S View) → t < n → word ≡ 3 * t + 2 → Allows (λ s. IsBoard n s.words s.views) slots id m word (λ x. x) (CountTold (step slots word 0 0 none) m)
count_allowed {S} n slots id t word m there at_word s b homes at below =
    let x = get_or s.words word 0 in
    let long = b.long in
    let x_is : get_or s.words (3 * t + 2) 0 ≡ x = ap (λ k. get_or s.words k 0) (sym at_word) in
    let left = room_left n s.words s.views id m.0 b at in
    let part = summand-le (λ u. get_or s.words (3 * u + 2) 0) n t there in
    let small : x ≤ 2 ^ 31 = omega arith in
    let own = own_failures n s.words s.views id t m.0 b at in (
      saw_count t x m.0,
      keeps,
      tt,
      count_kept n s.words s.views id t word x m.0 b at (omega arith) at_word refl,
      record {
        slots = refl;
        room = refl;
        streak = refl;
        small = small;
        after = λ u e. same_task (λ k. ◌≡◌ {A = Me S View} (saw_count t x m.0, m.1) (saw_count k x m.0, m.1)) t u (omega arith) refl;
        own = λ u e. same_task (λ k. fails_of k m.0 ≤ x) t u (omega arith) (omega arith);
        noted = λ u e. same_task (λ k. All (λ p. p.0 ≡ k → p.1 ≤ x) m.0.counts) t u (omega arith) (noted_failures n s.words s.views id t x m.0 b at x_is);
        alone = λ u e only. same_task (λ k. x ≡ fails_of k m.0) t u (omega arith) (let q = all_failures n s.words s.views id t m.0 b at only in omega arith);
      },
    )
  where
    same_task : (P : ℕ → Type 0) (k u : ℕ) → k ≡ u → P k → P u
    same_task P k u e p = subst P e p

-- a winner's word is small
pub winner_small : (n : ℕ) (ws : List ℕ) (vs : List View) (t : ℕ) → IsBoard n ws vs → t < n → get_or ws (3 * t + 3) 0 ≤ 2 ^ 31
winner_small n ws vs t b there = by_word (get_or ws (3 * t + 3) 0) refl
  where
    below_once : (k a : ℕ) → 0 < once_below k a → a < k
    below_once k a h = grind (arith, nat_tests)

    one : (a : ℕ) → once_at (Some a) a ≡ 1
    one a = ap (λ c. cond {A = ℕ} c 1 0) (eq-eqb a a refl)

    by_word : (x : ℕ) → get_or ws (3 * t + 3) 0 ≡ x → x ≤ 2 ^ 31
    by_word zero e = omega arith
    by_word (suc a) e =
        let wins : count_by (is_win t a) (flat_map (λ (u : View). u.tried) vs) ≡ 1 = b.kept.winners t a ∙ ap (λ k. once_at (winner_of k) a) e ∙ one a in
        let more = open_and_won t a (flat_map (λ (u : View). u.tried) vs) in
        let all = b.kept.attempts t a in
        let below = below_once (get_or ws (3 * t + 1) 0) a (omega arith) in
        let part = summand-le (λ u. get_or ws (3 * u + 1) 0) n t there in
        let whole = b.within in
        omega arith

-- where a pass that is alone knows no winner, the winner's word is 0
all_winners : (n : ℕ) (ws : List ℕ) (vs : List View) (id t : ℕ) (v : View) → IsBoard n ws vs → get_elem? vs id ≡ some v → IsAlone v → knows_winner t v ≡ false → get_or ws (3 * t + 3) 0 ≡ 0
all_winners n ws vs id t v b at is knows = by_word (get_or ws (3 * t + 3) 0) refl
  where
    one : (a : ℕ) → once_at (Some a) a ≡ 1
    one a = ap (λ c. cond {A = ℕ} c 1 0) (eq-eqb a a refl)

    by_word : (x : ℕ) → get_or ws (3 * t + 3) 0 ≡ x → x ≡ 0
    by_word zero e = refl
    by_word (suc a) e =
        let wins : count_by (is_win t a) (flat_map (λ (u : View). u.tried) vs) ≡ 1 = b.kept.winners t a ∙ ap (λ k. once_at (winner_of k) a) e ∙ one a in
        let mine = entries_alone (λ z. cond {A = ℕ} (is_win t a z) 1 0) n ws vs id v b at is in
        let any = counted-any (is_win t a) (is_win_of t) v.tried (win-of t a) (omega arith) in
        absurd (false≢true (sym knows ∙ or_left (list_any (is_win_of t) v.tried) (list_any (λ p. p.0 == t) v.winners) any))

pub winner_allowed : {S : Type 0} (n slots id t word : ℕ) (m : Me S View) → t < n → word ≡ 3 * t + 3 → Allows (λ s. IsBoard n s.words s.views) slots id m word (λ x. x) (WinnerTold (step slots word 0 0 none) m)
winner_allowed {S} n slots id t word m there at_word s b homes at below =
    let x = get_or s.words word 0 in
    let long = b.long in
    let x_is : get_or s.words (3 * t + 3) 0 ≡ x = ap (λ k. get_or s.words k 0) (sym at_word) in
    let w = saw_winner t (winner_of x) m.0 in (
      w,
      keeps,
      tt,
      winner_kept n s.words s.views id t word x m.0 b at (omega arith) at_word refl,
      record {
        slots = refl;
        room = same_room (winner_of x);
        streak = same_streak (winner_of x);
        small = let q = winner_small n s.words s.views t b there in omega arith;
        after = λ u e. same_task (λ k. ◌≡◌ {A = Me S View} (w, m.1) (saw_winner k (winner_of x) m.0, m.1)) t u (omega arith) refl;
        none = λ u e z. same_task (λ k. knows_winner k m.0 ≡ false) t u (omega arith) (no_winner n s.words s.views id t m.0 b at (x_is ∙ z));
        alone = λ u e only k. sym x_is ∙ all_winners n s.words s.views id t m.0 b at only (ap (λ j. knows_winner j m.0) (same u e) ∙ k);
      },
    )
  where
    same : (u : ℕ) → word ≡ 3 * u + 3 → t ≡ u
    same u e = omega arith

    same_task : (P : ℕ → Type 0) (k u : ℕ) → k ≡ u → P k → P u
    same_task P k u e p = subst P e p

    same_room : (o : Option ℕ) → (saw_winner t o m.0).room ≡ m.0.room
    same_room None = refl
    same_room (Some a) = refl

    same_streak : (o : Option ℕ) → (saw_winner t o m.0).streak ≡ m.0.streak
    same_streak None = refl
    same_streak (Some a) = refl

pub room_allowed : {S : Type 0} (n slots id : ℕ) (m : Me S View) → Allows (λ s. IsBoard n s.words s.views) slots id m 0 (λ x. x) (RoomTold (step slots 0 0 0 none) m)
room_allowed n slots id m s b homes at below =
    let long = b.long in
    let left = room_left n s.words s.views id m.0 b at in
    (m.0, keeps, tt, same_kept n s.words s.views id 0 (get_or s.words 0 0) m.0 b at (omega arith) refl, record { same = refl; small = omega arith })

pub split_allowed : {S : Type 0} (n id : ℕ) (v : View) → Splits {S = S} (λ s. IsBoard n s.words s.views) id v (kept_half v) (other_half v)
split_allowed n id v s b at =
    let vs = s.views in
    let ws = s.words in
    let old = b.noted id v at in
    record {
      long = b.long;
      kept = keeps_bags (words_of n ws) _ _ _ _ (SameBag-cut (λ (u : View). u.drawn) vs id v (kept_half v) (other_half v) at refl refl) (SameBag-cut (λ (u : View). u.tried) vs id v (kept_half v) (other_half v) at refl refl) b.kept;
      noted = λ j u e. ⊎_elim
          (λ p. ⊎_elim
          (λ q. subst (Noted (words_of n ws)) q.1 (record { known = old.known; winners = old.winners; counts = old.counts; streak = old.streak }))
          (λ q. b.noted j u q.1)
          (at_set vs id j (kept_half v) u p))
          (λ q. subst (Noted (words_of n ws)) q (record { known = old.known; winners = old.winners; counts = old.counts; streak = old.streak }))
          (at_snoc (set vs id (kept_half v)) (other_half v) u j e);
      within = let p = sum_cut (λ u. u.room) vs id v (kept_half v) (other_half v) at (omega arith) in let q = b.within in omega arith;
      shared_out = let p = sum_cut steps_of vs id v (kept_half v) (other_half v) at (omega arith) in let q = b.shared_out in omega arith;
    }

pub join_allowed : {S : Type 0} (n id other : ℕ) (v w : View) → Joins {S = S} (λ s. IsBoard n s.words s.views) id v other w (both v w) spent
join_allowed n id other v w s b at apart there =
    let vs = s.views in
    let ws = s.words in
    let one = b.noted id v at in
    let two = ⊎_elim (λ p. absurd (apart p.0)) (λ p. b.noted other w p.1) (at_set vs id other (both v w) w there) in
    let drawn = length-append v.drawn w.drawn in
    let tried = length-append v.tried w.tried in
    let fails = sum_by-append (λ (z : Attempt). cond {A = ℕ} (has_failed z.fate) 1 0) v.tried w.tried in
    record {
      long = b.long;
      kept = keeps_bags (words_of n ws) _ _ _ _ (SameBag-join (λ (u : View). u.drawn) vs id other v w (both v w) spent at there refl refl) (SameBag-join (λ (u : View). u.tried) vs id other v w (both v w) spent at there refl refl) b.kept;
      noted = λ j u e. ⊎_elim
          (λ q. subst (Noted (words_of n ws)) q.1 (record { known = omega arith; winners = All-nil (λ p. (words_of n ws).winner p.0 ≡ Some p.1); counts = All-nil (λ p. p.1 ≤ (words_of n ws).failed p.0); streak = omega arith }))
          (λ p. ⊎_elim
          (λ q. subst (Noted (words_of n ws)) q.1 (record {
            known = let a = one.known in let c = two.known in omega arith;
            winners = All-append (λ p. (words_of n ws).winner p.0 ≡ Some p.1) v.winners w.winners one.winners two.winners;
            counts = All-append (λ p. p.1 ≤ (words_of n ws).failed p.0) v.counts w.counts one.counts two.counts;
            streak = let a = one.streak in let c = two.streak in omega arith;
          }))
          (λ q. b.noted j u q.1)
          (at_set vs id j (both v w) u p.1))
          (at_set (set vs id (both v w)) other j spent u e);
      within = let p = sum_join (λ u. u.room) vs id other v w (both v w) spent at there refl refl in let q = b.within in omega arith;
      shared_out = let p = sum_join steps_of vs id other v w (both v w) spent at there (omega arith) refl in let q = b.shared_out in omega arith;
    }

-- a commit leaves the tasks of the attempts below a bound
pub committed_below : (n t a x : ℕ) (v : View) → All (λ y. y.task < n) v.tried → All (λ y. y.task < n) (committed t a x v).tried
committed_below n t a zero v all = settled_below n t a Won v.tried all
committed_below n t a (suc c) v all = settled_below n t a Late v.tried all

-- so does a look at a winner
pub winner_below : (n t : ℕ) (o : Option ℕ) (v : View) → All (λ y. y.task < n) v.tried → All (λ y. y.task < n) (saw_winner t o v).tried
winner_below n t None v all = all
winner_below n t (Some a) v all = all
