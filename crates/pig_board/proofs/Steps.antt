-- Each step keeps the board's rule.
use Rattle.std.proofs.Common.{◌≡◌, ◌≢◌, ℕ, ◌+◌, ◌*◌, ◌^◌, ◌<◌, ◌≤◌, true, Some, None, List, [], ◌∷◌, cond, length, get_or, set, length-set, length-append, refl, sym, ◌∙◌, ap, subst, arith, ⊎_elim, zero, suc}
use Rattle.std.specs.Prelude.{count_by}
use Rattle.std.specs.List.{flat_map}
use mathlib.Core.Option.{some}
use lib.ListN.{get_elem?}
use Rattle.std.proofs.lemmas.Bool.{eq-eqb}
use Rattle.std.proofs.lemmas.Bool.Decides.{nat_tests}
use Rattle.std.proofs.lemmas.List.Elements.{All-push}
use Rattle.std.proofs.lemmas.List.Sums.{sum_by_push}
use Rattle.atomic_table.proofs.Lists.{at_set}
use Rattle.pig_job.specs.declared.Attempt.{Attempt}
use Rattle.pig_job.specs.declared.Fate.{Fate}
use Rattle.pig_job.specs.declared.Fate.TheVariants.{Unended, Won, Late, Failed}
use Rattle.pig_job.specs.Rule.{Kept, has_failed, is_open, once_below, once_at, settle}
use Rattle.pig_job.proofs.Bag.{Adds}
use Rattle.pig_job.proofs.Keeps.{attempt, keeps_same, keeps_draw, keeps_begin, keeps_win, keeps_late, keeps_fail}
use Rattle.pig_job.proofs.States.{Adds-push, Swaps-settle, list_any-counted}
use Rattle.pig_board.specs.declared.view.View.{View}
use Rattle.pig_board.specs.View.{steps_of, drew, began, won, came_late, failed_at, saw_winner, saw_count, earliest, has_open, has_open_of}
use Rattle.pig_board.specs.Rule.{winner_of, words_of, total_of, Noted, IsBoard}
use Rattle.pig_board.proofs.Parts.{sum_set, part-le, entries-le, Adds-view, Swaps-view, SameBag-view}
use Rattle.pig_board.proofs.Counts.{sum_ones, open_and_won, earliest-open}
use Rattle.pig_board.proofs.Writes.{Grows, noted_still, Grows-same, Grows-draw, Grows-begin, Grows-fail, Grows-win, total-same, total-draw, total-begin, total-fail, failures-fail, total-win, writes_same, writes_next, writes_begun, writes_failed, writes_winner}

-- one word and one view have changed
changed : (n : ℕ) (ws : List ℕ) (vs : List View) (i y id : ℕ) (v w : View) → IsBoard n ws vs → get_elem? vs id ≡ some v
    → Kept (words_of n (set ws i y)) (flat_map (λ u. u.drawn) (set vs id w)) (flat_map (λ u. u.tried) (set vs id w))
    → Grows (words_of n ws) (words_of n (set ws i y)) → Noted (words_of n (set ws i y)) w
    → total_of (words_of n (set ws i y)) + w.room ≡ total_of (words_of n ws) + v.room → steps_of w ≡ steps_of v
    → IsBoard n (set ws i y) (set vs id w)
changed n ws vs i y id v w b at kept grows noted total steps = record {
  long = length-set ws i y ∙ b.long;
  kept = kept;
  noted = λ j u e. ⊎_elim
      (λ t. subst (Noted (words_of n (set ws i y))) t.1 noted)
      (λ t. noted_still (words_of n ws) (words_of n (set ws i y)) u grows (b.noted j u t.1))
      (at_set vs id j w u e);
  within = let p = sum_set (λ u. u.room) vs id v w at in let q = b.within in omega arith;
  shared_out = let p = sum_set steps_of vs id v w at in let q = b.shared_out in omega arith;
}

-- a pass with room leaves the total below its bound
pub room_left : (n : ℕ) (ws : List ℕ) (vs : List View) (id : ℕ) (v : View) → IsBoard n ws vs → get_elem? vs id ≡ some v → total_of (words_of n ws) + v.room ≤ 2 ^ 31
room_left n ws vs id v b at = let p = part-le (λ u. u.room) vs id v at in let q = b.within in omega arith

pub draw_kept : (n : ℕ) (ws : List ℕ) (vs : List View) (id y : ℕ) (v : View) → IsBoard n ws vs → get_elem? vs id ≡ some v → 0 < v.room → y ≡ get_or ws 0 0 + 1 → IsBoard n (set ws 0 y) (set vs id (drew (get_or ws 0 0) v))
draw_kept n ws vs id y v b at room e =
    let x = get_or ws 0 0 in
    let w = drew x v in
    let long = b.long in
    let there : 0 < length ws = omega arith in
    let s = writes_next n ws y there e in
    let same = SameBag-view (λ (u : View). u.tried) vs id v w at refl in
    let keeps = keeps_draw (words_of n ws) (words_of n (set ws 0 y)) _ _ (flat_map (λ u. u.tried) vs) s (Adds-view x (λ (u : View). u.drawn) vs id v w at (Adds-push v.drawn x)) b.kept in
    let kept = keeps_same (words_of n (set ws 0 y)) (words_of n (set ws 0 y)) _ _ _ _ (record { tasks = refl; next = refl; begun = λ u. refl; failed = λ u. refl; winner = λ u. refl }) (record { sums = λ f. refl }) same keeps in
    let old = noted_still (words_of n ws) (words_of n (set ws 0 y)) v (Grows-draw _ _ s) (b.noted id v at) in
    let t = total-draw (words_of n ws) (words_of n (set ws 0 y)) s in
    changed n ws vs 0 y id v w b at kept (Grows-draw _ _ s)
    (record { known = let a = s.next in omega arith; winners = old.winners; counts = old.counts; streak = old.streak })
    (omega arith)
    (let l = length-append v.drawn (x ∷ []) in omega arith)

pub begin_kept : (n : ℕ) (ws : List ℕ) (vs : List View) (id t i y : ℕ) (v : View) → IsBoard n ws vs → get_elem? vs id ≡ some v → 0 < v.room → t < n → t < v.known → i ≡ 3 * t + 1 → y ≡ get_or ws i 0 + 1 → IsBoard n (set ws i y) (set vs id (began t (get_or ws i 0) v))
begin_kept n ws vs id t i y v b at room there known word e =
    let x = get_or ws i 0 in
    let w = began t x v in
    let long = b.long in
    let s = writes_begun n ws t i y word (omega arith) e in
    let notes = b.noted id v at in
    let drawn : t < get_or ws 0 0 = let a = notes.known in omega arith in
    let x_is : get_or ws (3 * t + 1) 0 ≡ x = ap (λ k. get_or ws k 0) (sym word) in
    let add : Adds (attempt t x Unended) (flat_map (λ (u : View). u.tried) vs) (flat_map (λ (u : View). u.tried) (set vs id w)) = Adds-view (attempt t x Unended) (λ (u : View). u.tried) vs id v w at (Adds-push v.tried (attempt t x Unended)) in
    let add' : Adds (attempt t (get_or ws (3 * t + 1) 0) Unended) (flat_map (λ (u : View). u.tried) vs) (flat_map (λ (u : View). u.tried) (set vs id w)) = subst (λ k. Adds (attempt t k Unended) (flat_map (λ (u : View). u.tried) vs) (flat_map (λ (u : View). u.tried) (set vs id w))) (sym x_is) add in
    let keeps = keeps_begin (words_of n ws) (words_of n (set ws i y)) t (flat_map (λ u. u.drawn) vs) _ _ s there drawn add' b.kept in
    let kept = keeps_same (words_of n (set ws i y)) (words_of n (set ws i y)) _ _ _ _ (record { tasks = refl; next = refl; begun = λ u. refl; failed = λ u. refl; winner = λ u. refl }) (SameBag-view (λ (u : View). u.drawn) vs id v w at refl) (record { sums = λ f. refl }) keeps in
    let old = noted_still (words_of n ws) (words_of n (set ws i y)) v (Grows-begin _ _ t s) notes in
    let total = total-begin (words_of n ws) (words_of n (set ws i y)) t there s in
    changed n ws vs i y id v w b at kept (Grows-begin _ _ t s)
    (record { known = old.known; winners = old.winners; counts = old.counts; streak = old.streak })
    (omega arith)
    (let l = length-append v.tried (attempt t x Unended ∷ []) in let c = sum_by_push (λ (z : Attempt). cond {A = ℕ} (has_failed z.fate) 1 0) v.tried (attempt t x Unended) in omega arith)

-- what ending an attempt does to the number of steps
pub settled_length : (t a : ℕ) (f : Fate) (v : View) → has_open t a v ≡ true → length (settle t a f v.tried) ≡ length v.tried
settled_length t a f v h =
    let d = Swaps-settle t a f v.tried h in
    let p = d.sums (λ z. 1) in
    let q = sum_ones (settle t a f v.tried) in
    let r = sum_ones v.tried in
    omega arith

pub settled_fails : (t a : ℕ) (f : Fate) (v : View) → has_open t a v ≡ true → count_by (λ z. has_failed z.fate) (settle t a f v.tried) ≡ count_by (λ z. has_failed z.fate) v.tried + cond {A = ℕ} (has_failed f) 1 0
settled_fails t a f v h =
    let d = Swaps-settle t a f v.tried h in
    let p = d.sums (λ z. cond {A = ℕ} (has_failed z.fate) 1 0) in
    omega arith

-- an attempt of the board is at a task of the board
pub attempt_there : (n : ℕ) (ws : List ℕ) (vs : List View) (id t a : ℕ) (v : View) → IsBoard n ws vs → get_elem? vs id ≡ some v → has_open t a v ≡ true → (t < n) × (a < get_or ws (3 * t + 1) 0)
attempt_there n ws vs id t a v b at h =
    let own = list_any-counted (is_open t a) v.tried h in
    let part = entries-le (λ z. cond {A = ℕ} (is_open t a z) 1 0) (λ (u : View). u.tried) vs id v at in
    let more = open_and_won t a (flat_map (λ (u : View). u.tried) vs) in
    let k = b.kept.attempts t a in
    let begun = get_or ws (3 * t + 1) 0 in
    let one : 0 < once_below begun a = omega arith in
    let below : a < begun = below_once begun a one in
    ((b.kept.drawn_first t (omega arith)).0, below)
  where
    below_once : (m k : ℕ) → 0 < once_below m k → k < m
    below_once m k h = grind (arith, nat_tests)

pub fail_kept : (n : ℕ) (ws : List ℕ) (vs : List View) (id t i y c : ℕ) (v : View) → IsBoard n ws vs → get_elem? vs id ≡ some v → 0 < v.room → has_open_of t v ≡ true → i ≡ 3 * t + 2 → y ≡ get_or ws i 0 + 1 → c ≡ get_or ws i 0 + 1 → IsBoard n (set ws i y) (set vs id (failed_at t c v))
fail_kept n ws vs id t i y c v b at room h word e count =
    let a = earliest t v.tried in
    let w = failed_at t c v in
    let is = earliest-open t v.tried h in
    let there = (attempt_there n ws vs id t a v b at is).0 in
    let long = b.long in
    let s = writes_failed n ws t i y word (omega arith) e in
    let swap = Swaps-view (attempt t a Unended) (attempt t a Failed) (λ (u : View). u.tried) vs id v w at (Swaps-settle t a Failed v.tried is) in
    let keeps = keeps_fail (words_of n ws) (words_of n (set ws i y)) t a (flat_map (λ u. u.drawn) vs) _ _ s swap b.kept in
    let kept = keeps_same (words_of n (set ws i y)) (words_of n (set ws i y)) _ _ _ _ (record { tasks = refl; next = refl; begun = λ u. refl; failed = λ u. refl; winner = λ u. refl }) (SameBag-view (λ (u : View). u.drawn) vs id v w at refl) (record { sums = λ f. refl }) keeps in
    let old = noted_still (words_of n ws) (words_of n (set ws i y)) v (Grows-fail _ _ t s) (b.noted id v at) in
    let failed : (words_of n (set ws i y)).failed t ≡ c = s.failed ∙ ap (λ k. get_or ws k 0 + 1) (sym word) ∙ sym count in
    let total = total-fail (words_of n ws) (words_of n (set ws i y)) t there s in
    changed n ws vs i y id v w b at kept (Grows-fail _ _ t s)
    (record { known = old.known; winners = old.winners; counts = All-push (λ p. p.1 ≤ (words_of n (set ws i y)).failed p.0) v.counts (t, c) old.counts (omega arith); streak = let q = (b.noted id v at).streak in let r = failures-fail (words_of n ws) (words_of n (set ws i y)) t there s in omega arith })
    (omega arith)
    (let l = settled_length t a Failed v is in let c = settled_fails t a Failed v is in omega arith)

-- the winner of a task that the words tell is not an attempt under way
pub not_open : (n : ℕ) (ws : List ℕ) (vs : List View) (id t a b : ℕ) (v : View) → IsBoard n ws vs → get_elem? vs id ≡ some v → has_open t a v ≡ true → winner_of (get_or ws (3 * t + 3) 0) ≡ Some b → b ≢ a
not_open n ws vs id t a b v k at h won same =
    let own = list_any-counted (is_open t a) v.tried h in
    let part = entries-le (λ z. cond {A = ℕ} (is_open t a z) 1 0) (λ (u : View). u.tried) vs id v at in
    let more = open_and_won t a (flat_map (λ (u : View). u.tried) vs) in
    let one : once_at (winner_of (get_or ws (3 * t + 3) 0)) a ≡ 1 = ap (λ o. once_at o a) won ∙ at_same b a same in
    let wins = k.kept.winners t a in
    let all = k.kept.attempts t a in
    let most = once_most (get_or ws (3 * t + 1) 0) a in
    omega arith
  where
    at_same : (x y : ℕ) → x ≡ y → once_at (Some x) y ≡ 1
    at_same x y e = ap (λ c. cond {A = ℕ} c 1 0) (eq-eqb x y e)

    once_most : (m x : ℕ) → once_below m x ≤ 1
    once_most m x = grind (arith, nat_tests)

pub win_kept : (n : ℕ) (ws : List ℕ) (vs : List View) (id t a i y : ℕ) (v : View) → IsBoard n ws vs → get_elem? vs id ≡ some v → has_open t a v ≡ true → i ≡ 3 * t + 3 → get_or ws i 0 ≡ 0 → y ≡ suc a → IsBoard n (set ws i y) (set vs id (won t a v))
win_kept n ws vs id t a i y v b at is word none e =
    let w = won t a v in
    let there = (attempt_there n ws vs id t a v b at is).0 in
    let long = b.long in
    let s = writes_winner n ws t a i y word (omega arith) none e in
    let swap = Swaps-view (attempt t a Unended) (attempt t a Won) (λ (u : View). u.tried) vs id v w at (Swaps-settle t a Won v.tried is) in
    let keeps = keeps_win (words_of n ws) (words_of n (set ws i y)) t a (flat_map (λ u. u.drawn) vs) _ _ s swap b.kept in
    let kept = keeps_same (words_of n (set ws i y)) (words_of n (set ws i y)) _ _ _ _ (record { tasks = refl; next = refl; begun = λ u. refl; failed = λ u. refl; winner = λ u. refl }) (SameBag-view (λ (u : View). u.drawn) vs id v w at refl) (record { sums = λ f. refl }) keeps in
    let old = noted_still (words_of n ws) (words_of n (set ws i y)) v (Grows-win _ _ t a s) (b.noted id v at) in
    let total = total-win (words_of n ws) (words_of n (set ws i y)) t a s in
    changed n ws vs i y id v w b at kept (Grows-win _ _ t a s)
    (record { known = old.known; winners = old.winners; counts = old.counts; streak = omega arith })
    (omega arith)
    (let l = settled_length t a Won v is in let c = settled_fails t a Won v is in omega arith)

pub late_kept : (n : ℕ) (ws : List ℕ) (vs : List View) (id t a c i y : ℕ) (v : View) → IsBoard n ws vs → get_elem? vs id ≡ some v → has_open t a v ≡ true → i ≡ 3 * t + 3 → get_or ws i 0 ≡ suc c → y ≡ get_or ws i 0 → IsBoard n (set ws i y) (set vs id (came_late t a c v))
late_kept n ws vs id t a c i y v b at is word found e =
    let w = came_late t a c v in
    let there = (attempt_there n ws vs id t a v b at is).0 in
    let long = b.long in
    let s = writes_same n ws i y (omega arith) e in
    let winner : winner_of (get_or ws (3 * t + 3) 0) ≡ Some c = ap (λ k. winner_of (get_or ws k 0)) (sym word) ∙ ap winner_of found in
    let swap = Swaps-view (attempt t a Unended) (attempt t a Late) (λ (u : View). u.tried) vs id v w at (Swaps-settle t a Late v.tried is) in
    let keeps = keeps_late (words_of n ws) (words_of n (set ws i y)) t a (flat_map (λ u. u.drawn) vs) _ _ s (λ none. absurd (some_not_none c (sym winner ∙ none))) swap b.kept in
    let kept = keeps_same (words_of n (set ws i y)) (words_of n (set ws i y)) _ _ _ _ (record { tasks = refl; next = refl; begun = λ u. refl; failed = λ u. refl; winner = λ u. refl }) (SameBag-view (λ (u : View). u.drawn) vs id v w at refl) (record { sums = λ f. refl }) keeps in
    let old = noted_still (words_of n ws) (words_of n (set ws i y)) v (Grows-same _ _ s) (b.noted id v at) in
    let total = total-same (words_of n ws) (words_of n (set ws i y)) s in
    changed n ws vs i y id v w b at kept (Grows-same _ _ s)
    (record { known = old.known; winners = All-push (λ p. (words_of n (set ws i y)).winner p.0 ≡ Some p.1) v.winners (t, c) old.winners (s.winner t ∙ winner); counts = old.counts; streak = omega arith })
    (omega arith)
    (let l = settled_length t a Late v is in let d = settled_fails t a Late v is in omega arith)
  where
    some_not_none : (x : ℕ) → Some x ≡ None → ⊥
    some_not_none x e = cc

-- a look that notes something
looked : (n : ℕ) (ws : List ℕ) (vs : List View) (id i y : ℕ) (v w : View) → IsBoard n ws vs → get_elem? vs id ≡ some v → i < length ws → y ≡ get_or ws i 0
    → w.drawn ≡ v.drawn → w.tried ≡ v.tried → w.room ≡ v.room → (Noted (words_of n (set ws i y)) v → Noted (words_of n (set ws i y)) w)
    → IsBoard n (set ws i y) (set vs id w)
looked n ws vs id i y v w b at l e drawn tried room notes =
    let s = writes_same n ws i y l e in
    let kept = keeps_same (words_of n ws) (words_of n (set ws i y)) _ _ _ _ s (SameBag-view (λ (u : View). u.drawn) vs id v w at drawn) (SameBag-view (λ (u : View). u.tried) vs id v w at tried) b.kept in
    let old = noted_still (words_of n ws) (words_of n (set ws i y)) v (Grows-same _ _ s) (b.noted id v at) in
    let total = total-same (words_of n ws) (words_of n (set ws i y)) s in
    let ld = ap length drawn in
    let lt = ap length tried in
    let lf = ap (λ (xs : List Attempt). count_by (λ z. has_failed z.fate) xs) tried in
    changed n ws vs i y id v w b at kept (Grows-same _ _ s) (notes old) (omega arith) (omega arith)

pub same_kept : (n : ℕ) (ws : List ℕ) (vs : List View) (id i y : ℕ) (v : View) → IsBoard n ws vs → get_elem? vs id ≡ some v → i < length ws → y ≡ get_or ws i 0 → IsBoard n (set ws i y) (set vs id v)
same_kept n ws vs id i y v b at l e = looked n ws vs id i y v v b at l e refl refl refl (λ o. o)

pub winner_kept : (n : ℕ) (ws : List ℕ) (vs : List View) (id t i y : ℕ) (v : View) → IsBoard n ws vs → get_elem? vs id ≡ some v → i < length ws → i ≡ 3 * t + 3 → y ≡ get_or ws i 0 → IsBoard n (set ws i y) (set vs id (saw_winner t (winner_of (get_or ws i 0)) v))
winner_kept n ws vs id t i y v b at l word e = by_word (get_or ws i 0) refl
  where
    by_word : (x : ℕ) → get_or ws i 0 ≡ x → IsBoard n (set ws i y) (set vs id (saw_winner t (winner_of x) v))
    by_word zero found = same_kept n ws vs id i y v b at l e
    by_word (suc a) found =
        let s = writes_same n ws i y l e in
        let winner : (words_of n (set ws i y)).winner t ≡ Some a = s.winner t ∙ ap (λ k. winner_of (get_or ws k 0)) (sym word) ∙ ap winner_of found in
        looked n ws vs id i y v (saw_winner t (Some a) v) b at l e refl refl refl
        (λ o. record { known = o.known; winners = All-push (λ p. (words_of n (set ws i y)).winner p.0 ≡ Some p.1) v.winners (t, a) o.winners winner; counts = o.counts; streak = o.streak })

pub count_kept : (n : ℕ) (ws : List ℕ) (vs : List View) (id t i y : ℕ) (v : View) → IsBoard n ws vs → get_elem? vs id ≡ some v → i < length ws → i ≡ 3 * t + 2 → y ≡ get_or ws i 0 → IsBoard n (set ws i y) (set vs id (saw_count t (get_or ws i 0) v))
count_kept n ws vs id t i y v b at l word e =
    let s = writes_same n ws i y l e in
    let c = get_or ws i 0 in
    let now : (words_of n (set ws i y)).failed t ≡ c = s.failed t ∙ ap (λ k. get_or ws k 0) (sym word) in
    looked n ws vs id i y v (saw_count t c v) b at l e refl refl refl
    (λ o. record { known = o.known; winners = o.winners; counts = All-push (λ p. p.1 ≤ (words_of n (set ws i y)).failed p.0) v.counts (t, c) o.counts (omega arith); streak = o.streak })
