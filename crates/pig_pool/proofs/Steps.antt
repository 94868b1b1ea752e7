-- What each call of a worker does, and calls after one another.
use Rattle.std.proofs.Common.{◌≡◌, ℕ, ◌+◌, ◌-◌, ◌*◌, ◌<◌, ◌≤◌, Bool, true, false, ◌||◌, Option, Some, None, List, [], ◌∷◌, ◌++◌, cond, length, refl, sym, ◌∙◌, ap, subst, arith, inl, inr, zero, suc}
use Rattle.std.specs.Prelude.{◌==◌, nat_lt, min, is_some, count_by, MatchBool}
use Rattle.std.specs.List.{list_any}
use Rattle.std.specs.Option.{option_map}
use Rattle.std.proofs.Math.Nat.{mul-suc}
use Rattle.std.proofs.lemmas.Bool.{cases_eq, cases_lt, lt-ltb, le-ltb, eq-eqb, ne_eqb, or_left, or_right, false≢true}
use Rattle.std.proofs.lemmas.List.Folds.{list_any-append}
use Rattle.std.proofs.lemmas.List.Elements.{All-push, All-append, All-cons, All-nil}
use Rattle.std.proofs.lemmas.List.Sums.{sum_by_push, sum_by-append, sum_by-cons}
use Rattle.pig_job.specs.declared.Attempt.{Attempt}
use Rattle.pig_job.specs.declared.Fate.TheVariants.{Unended, Won, Late, Failed}
use Rattle.pig_job.specs.Rule.{has_failed, is_attempt, is_failure_of, settle}
use Rattle.pig_job.proofs.Keeps.{attempt}
use Rattle.pig_job.proofs.Bag.{swapped_alike}
use Rattle.pig_job.proofs.States.{Swaps-settle}
use Rattle.pig_outside.specs.Calls as outside
use Rattle.pig_outside.specs.Calls.{and_attempt}
use Rattle.pig_board.specs.declared.board.Board.{Board}
use Rattle.pig_board.specs.declared.board.Pass.{Pass}
use Rattle.pig_board.specs.declared.view.View.{View}
use Rattle.pig_board.specs.Pass.{tasks_of, view_of, is_firm, may_begin, OnBoard}
use Rattle.pig_board.specs.View.{steps_of, has_open, has_open_of, knows_winner, fails_of, all_fails, wins_of, drew, began, won, came_late, earliest, saw_winner, saw_count, is_win_of, IsLate, IsDraw}
use Rattle.pig_board.specs.Rule.{sum_below}
use Rattle.pig_board.specs.Laws.{NotesStay}
use Rattle.pig_board.proofs.Notes.{steps_keep}
use Rattle.pig_board.proofs.EndLaws.{failures_add}
use Rattle.pig_board.proofs.Counts.{earliest-open, counted-any}
use Rattle.pig_board.proofs.Steps.{settled_fails}
use Rattle.pig_board.proofs.CountLaws.{steps_drew, steps_began, steps_won, steps_late, steps_failed, began-open, began-open_of, fails_began, wins_won, wins_won_other, wins_late}
use Rattle.pig_pool.specs.Begins.{Tells, is_begin, next_count}
use Rattle.pig_pool.specs.Workers.{outputs_of, HasWon, Works, KnowsAll, Looks, IsBelow, IsFailed, Spends, HasRoom}
use Rattle.pig_pool.proofs.Begins.{nothing_told, told_twice, next-append, next-rises, lost-append, lost-rises, lost_one}

-- notes that stay twice stay
pub notes-trans : (u v w : View) → NotesStay u v → NotesStay v w → NotesStay u w
notes-trans u v w a b = record {
  known = let p = a.known in let q = b.known in omega arith;
  winners = λ p h. b.winners p (a.winners p h);
  counts = λ p h. b.counts p (a.counts p h);
  winner = λ t h. b.winner t (a.winner t h);
}

pub notes-refl : (v : View) → NotesStay v v
notes-refl v = record { known = omega arith; winners = λ p h. h; counts = λ p h. h; winner = λ t h. h }

-- what was drawn may have grown, and notes; the attempts and the streak are as they were
pub record IsCalm (v w : View) : Type 0 where
  pub notes : NotesStay v w
  pub steps : steps_of w ≡ steps_of v
  pub tried : w.tried ≡ v.tried
  pub streak : w.streak ≡ v.streak

pub calm-trans : (u v w : View) → IsCalm u v → IsCalm v w → IsCalm u w
calm-trans u v w a b = record { notes = notes-trans u v w a.notes b.notes; steps = b.steps ∙ a.steps; tried = b.tried ∙ a.tried; streak = b.streak ∙ a.streak }

-- what stays where the attempts do
pub calm-all : (v w : View) → IsCalm v w → all_fails w ≡ all_fails v
calm-all v w c = ap (λ (xs : List Attempt). count_by (λ z. has_failed z.fate) xs) c.tried

pub calm-own : (v w : View) → IsCalm v w → (u : ℕ) → fails_of u w ≡ fails_of u v
calm-own v w c u = ap (count_by (is_failure_of u)) c.tried

pub calm-wins : (v w : View) → IsCalm v w → (u : ℕ) → wins_of u w ≡ wins_of u v
calm-wins v w c u = ap (count_by (is_win_of u)) c.tried

pub calm-open : (t a : ℕ) (v w : View) → IsCalm v w → has_open t a w ≡ has_open t a v
calm-open t a v w c = ap (λ (xs : List Attempt). has_open t a (record v { tried = xs })) c.tried

pub calm-open_of : (t : ℕ) (v w : View) → IsCalm v w → has_open_of t w ≡ has_open_of t v
calm-open_of t v w c = ap (λ (xs : List Attempt). has_open_of t (record v { tried = xs })) c.tried

calm_look : (t : ℕ) (o : Option ℕ) (v : View) → IsCalm v (saw_winner t o v)
calm_look t None v = record { notes = steps_keep.look_winner t None v; steps = refl; tried = refl; streak = refl }
calm_look t (Some a) v = record { notes = steps_keep.look_winner t (Some a) v; steps = refl; tried = refl; streak = refl }

pub calm-closed : (t : ℕ) (o : Option ℕ) (v w : View) → w ≡ saw_winner t o v → IsCalm v w
calm-closed t o v w e = subst (IsCalm v) (sym e) (calm_look t o v)

pub calm-failures : (t c : ℕ) (v w : View) → w ≡ saw_count t c v → IsCalm v w
calm-failures t c v w e = subst (IsCalm v) (sym e) (record { notes = steps_keep.look_count t c v; steps = refl; tried = refl; streak = refl })

pub calm-draw : (x : ℕ) (v w : View) → 0 < v.room → v.known ≤ x → w ≡ drew x v → IsCalm v w
calm-draw x v w room l e = subst (IsCalm v) (sym e) (record { notes = steps_keep.draw x v l; steps = steps_drew x v room; tried = refl; streak = refl })

pub calm-looks : (v w : View) → Looks v w → IsCalm v w
calm-looks v w c =
    let d : length w.drawn ≡ length v.drawn = ap length c.drawn in
    let t : length w.tried ≡ length v.tried = ap length c.tried in
    let f = ap (λ (xs : List Attempt). count_by (λ z. has_failed z.fate) xs) c.tried in
    let r = c.room in
    record { notes = c.notes; steps = omega arith; tried = c.tried; streak = c.streak }

pub works-refl : (wave : ℕ) (v : View) (x : Tells) → Works wave v v x x
works-refl wave v x = record {
  notes = notes-refl v;
  steps = refl;
  faults = omega arith;
  streak = omega arith;
  begins = [];
  told = nothing_told x.begun;
  of_wave = All-nil (λ (b : outside.Attempt). b.wave ≡ wave);
  attempts = λ t a. omega arith;
  later = omega arith;
  failed = λ t. omega arith;
}

pub works-trans : (wave : ℕ) (u v w : View) (x y z : Tells) → Works wave u v x y → Works wave v w y z → Works wave u w x z
works-trans wave u v w x y z a b = record {
  notes = notes-trans u v w a.notes b.notes;
  steps = b.steps ∙ a.steps;
  faults = let p = a.faults in let q = b.faults in omega arith;
  streak = let p = a.streak in let q = b.streak in omega arith;
  begins = a.begins ++ b.begins;
  told = told_twice x.begun y.begun z.begun a.begins b.begins a.told b.told;
  of_wave = All-append (λ (c : outside.Attempt). c.wave ≡ wave) a.begins b.begins a.of_wave b.of_wave;
  attempts = λ t n.
      let p = a.attempts t n in
      let q = b.attempts t n in
      let r = sum_by-append (λ (c : outside.Attempt). cond {A = ℕ} (is_begin t n c) 1 0) a.begins b.begins in
      omega arith;
  later =
      let p = a.later in
      let q = next-rises a.begins y.faults (next_count b.begins z.faults) b.later in
      let r = next-append a.begins b.begins z.faults in
      omega arith;
  failed = λ t.
      let p = a.failed t in
      let q = b.failed t in
      let r = lost-append t a.begins b.begins z.faults in
      let s = lost-rises t a.begins y.faults (next_count b.begins z.faults) b.later in
      omega arith;
}

pub calm-works : (wave : ℕ) (v w : View) (x : Tells) → IsCalm v w → Works wave v w x x
calm-works wave v w x c = record {
  notes = c.notes;
  steps = c.steps;
  faults = let p = calm-all v w c in omega arith;
  streak = let p = calm-all v w c in let q = c.streak in omega arith;
  begins = [];
  told = nothing_told x.begun;
  of_wave = All-nil (λ (b : outside.Attempt). b.wave ≡ wave);
  attempts = λ t a. let p = ap (count_by (is_attempt t a)) c.tried in omega arith;
  later = omega arith;
  failed = λ t. let p = calm-own v w c t in omega arith;
}

-- the end of an attempt at task t, which failed where n is 1
pub record IsClosed (n t : ℕ) (v w : View) : Type 0 where
  pub few : n ≤ 1
  pub notes : NotesStay v w
  pub steps : steps_of w ≡ steps_of v
  pub all : all_fails w ≡ all_fails v + n
  pub own : (u : ℕ) → fails_of u w ≡ fails_of u v + cond {A = ℕ} (t == u) n 0
  pub tried : (u a : ℕ) → count_by (is_attempt u a) w.tried ≡ count_by (is_attempt u a) v.tried
  pub streak : w.streak ≤ v.streak + n

pub nothing : (b : Bool) → cond {A = ℕ} b 0 0 ≡ 0
nothing true = refl
nothing false = refl

pub closed-failed : (t : ℕ) (v w : View) → has_open_of t v ≡ true → 0 < v.room → IsFailed t v w → IsClosed 1 t v w
closed-failed t v w h room f = subst (IsClosed 1 t v) (sym f.view) (record {
  few = omega arith;
  notes = steps_keep.fail t f.count v h;
  steps = steps_failed t f.count v h room;
  all = settled_fails t (earliest t v.tried) Failed v (earliest-open t v.tried h);
  own = λ u. let p = (Swaps-settle t (earliest t v.tried) Failed v.tried (earliest-open t v.tried h)).sums (λ z. cond {A = ℕ} (is_failure_of u z) 1 0) in omega arith;
  tried = λ u a. swapped_alike (is_attempt u a) _ _ _ _ (Swaps-settle t (earliest t v.tried) Failed v.tried (earliest-open t v.tried h)) refl;
  streak = omega arith;
})

closed_won : (t a : ℕ) (v : View) → has_open t a v ≡ true → IsClosed 0 t v (won t a v)
closed_won t a v h = record {
  few = omega arith;
  notes = steps_keep.win t a v h;
  steps = steps_won t a v h;
  all = settled_fails t a Won v h;
  own = λ u. let p = swapped_alike (is_failure_of u) _ _ _ _ (Swaps-settle t a Won v.tried h) refl in let q = nothing (t == u) in omega arith;
  tried = λ u b. swapped_alike (is_attempt u b) _ _ _ _ (Swaps-settle t a Won v.tried h) refl;
  streak = omega arith;
}

closed_late : (t a b : ℕ) (v : View) → has_open t a v ≡ true → IsClosed 0 t v (came_late t a b v)
closed_late t a b v h = record {
  few = omega arith;
  notes = steps_keep.late t a b v h;
  steps = steps_late t a b v h;
  all = settled_fails t a Late v h;
  own = λ u. let p = swapped_alike (is_failure_of u) _ _ _ _ (Swaps-settle t a Late v.tried h) refl in let q = nothing (t == u) in omega arith;
  tried = λ u c. swapped_alike (is_attempt u c) _ _ _ _ (Swaps-settle t a Late v.tried h) refl;
  streak = omega arith;
}

-- the offer of an output
pub closed-offer : (b : Bool) (t a : ℕ) (v w : View) → has_open t a v ≡ true → MatchBool b (w ≡ won t a v) (IsLate t a v w) → IsClosed 0 t v w
closed-offer true t a v w h e = subst (IsClosed 0 t v) (sym e) (closed_won t a v h)
closed-offer false t a v w h e = subst (IsClosed 0 t v) (sym e.view) (closed_late t a e.winner v h)

-- an attempt: looks, its begin, looks, and its end
pub works-closed : (wave t a n : ℕ) (v y z u w : View) (x e : Tells) → IsCalm v y → 0 < y.room → z ≡ began t a y → IsCalm z u → IsClosed n t u w
    → e.begun ≡ option_map (and_attempt wave t a x.faults) x.begun → x.faults + n ≤ e.faults → Works wave v w x e
works-closed wave t a n v y z u w x e c room is d k told rose =
    let start : outside.Attempt = record { wave = wave; task = t; attempt = a; faults = x.faults } in
    let all_z : all_fails z ≡ all_fails y = ap all_fails is ∙ (let q = sum_by_push (λ (s : Attempt). cond {A = ℕ} (has_failed s.fate) 1 0) y.tried (attempt t a Unended) in omega arith) in
    let all_y = calm-all v y c in
    let all_u = calm-all z u d in
    let all_w = k.all in
    let begin : NotesStay y z = subst (NotesStay y) (sym is) (steps_keep.begin t a y) in
    record {
      notes = notes-trans v y w c.notes (notes-trans y z w begin (notes-trans z u w d.notes k.notes));
      steps = k.steps ∙ d.steps ∙ ap steps_of is ∙ steps_began t a y room ∙ c.steps;
      faults = omega arith;
      streak =
          let p = k.streak in
          let q = d.streak in
          let r : z.streak ≡ y.streak = ap (λ (s : View). s.streak) is in
          let s = c.streak in
          omega arith;
      begins = start ∷ [];
      told = told;
      of_wave = All-cons (λ (b : outside.Attempt). b.wave ≡ wave) start [] refl (All-nil (λ (b : outside.Attempt). b.wave ≡ wave));
      attempts = λ s b.
          let p = k.tried s b in
          let q = ap (count_by (is_attempt s b)) d.tried in
          let r : count_by (is_attempt s b) z.tried ≡ count_by (is_attempt s b) (began t a y).tried = ap (λ (i : View). count_by (is_attempt s b) i.tried) is in
          let o = sum_by_push (λ (i : Attempt). cond {A = ℕ} (is_attempt s b i) 1 0) y.tried (attempt t a Unended) in
          let m = ap (count_by (is_attempt s b)) c.tried in
          let l = sum_by-cons (λ (i : outside.Attempt). cond {A = ℕ} (is_begin s b i) 1 0) start [] in
          omega arith;
      later = omega arith;
      failed = λ s.
          let p = k.own s in
          let q = calm-own z u d s in
          let r : fails_of s z ≡ fails_of s y = ap (fails_of s) is ∙ fails_began s t a y in
          let o = calm-own v y c s in
          let l = lost_one (t == s) n x.faults e.faults k.few rose in
          omega arith;
    }

-- outputs stay those of the wins
pub won-calm : {O : Type 0} (r : ℕ → O → Type 0) (v w : View) (os : List (ℕ × O)) → ((u : ℕ) → wins_of u w ≡ wins_of u v) → HasWon r v os → HasWon r w os
won-calm r v w os e h = record { each = λ t. h.each t ∙ sym (e t); right = h.right }

won_more : {O : Type 0} (r : ℕ → O → Type 0) (t a : ℕ) (v : View) (os : List (ℕ × O)) (o : O) → has_open t a v ≡ true → r t o → HasWon r v os → HasWon r (won t a v) (os ++ (t, o) ∷ [])
won_more {O} r t a v os o h here was = record {
  each = λ u. elim (cases_eq t u) as (λ _. outputs_of u (os ++ (t, o) ∷ []) ≡ wins_of u (won t a v)) [
    | inl same ↦
        let p = sum_by_push (λ (z : ℕ × O). cond {A = ℕ} (z.0 == u) 1 0) os (t, o) in
        let one : cond {A = ℕ} (t == u) 1 0 ≡ 1 = ap (λ c. cond {A = ℕ} c 1 0) (eq-eqb t u same) in
        let q = wins_won t a v h in
        let q' : wins_of u (won t a v) ≡ wins_of u v + 1 = subst (λ k. wins_of k (won t a v) ≡ wins_of k v + 1) same q in
        let e = was.each u in
        omega arith
    | inr other ↦
        let p = sum_by_push (λ (z : ℕ × O). cond {A = ℕ} (z.0 == u) 1 0) os (t, o) in
        let none : cond {A = ℕ} (t == u) 1 0 ≡ 0 = ap (λ c. cond {A = ℕ} c 1 0) (ne_eqb t u other) in
        let q = wins_won_other u t a v h other in
        let e = was.each u in
        omega arith
  ];
  right = All-push (λ (z : ℕ × O). r z.0 z.1) os (t, o) was.right here;
}

pub won-offer : {O : Type 0} (r : ℕ → O → Type 0) (b : Bool) (t a : ℕ) (v w : View) (os ps : List (ℕ × O)) (o : O) → has_open t a v ≡ true → r t o
    → MatchBool b (w ≡ won t a v) (IsLate t a v w) → MatchBool b (ps ≡ os ++ (t, o) ∷ []) (ps ≡ os) → HasWon r v os → HasWon r w ps
won-offer r true t a v w os ps o h here e f was = subst (λ z. HasWon r z ps) (sym e) (subst (HasWon r (won t a v)) (sym f) (won_more r t a v os o h here was))
won-offer r false t a v w os ps o h here e f was = subst (λ z. HasWon r z ps) (sym e.view) (subst (HasWon r (came_late t a e.winner v)) (sym f) (won-calm r v (came_late t a e.winner v) os (λ u. wins_late u t a e.winner v h) was))

-- what the last element passes, some element does
any_last : {X : Type 0} (p : X → Bool) (xs : List X) (x : X) → p x ≡ true → list_any p (xs ++ x ∷ []) ≡ true
any_last p xs x h = list_any-append p xs (x ∷ []) ∙ or_right (list_any p xs) (list_any p (x ∷ [])) (or_left (p x) (list_any p []) h)

noted_winner : (t b : ℕ) (v : View) → knows_winner t (record v { winners = v.winners ++ (t, b) ∷ [] }) ≡ true
noted_winner t b v = or_right (list_any (is_win_of t) v.tried) (list_any (λ p. p.0 == t) (v.winners ++ (t, b) ∷ [])) (any_last (λ p. p.0 == t) v.winners (t, b) (eq-eqb t t refl))

own_win : (t a : ℕ) (v : View) → has_open t a v ≡ true → knows_winner t (won t a v) ≡ true
own_win t a v h =
    let p = wins_won t a v h in
    or_left (list_any (is_win_of t) (won t a v).tried) (list_any (λ p. p.0 == t) v.winners) (counted-any (is_win_of t) (is_win_of t) (won t a v).tried (λ x e. e) (omega arith))

-- after an offer the pass knows a winner, and its streak has ended
pub known-offer : (b : Bool) (t a : ℕ) (v w : View) → has_open t a v ≡ true → MatchBool b (w ≡ won t a v) (IsLate t a v w) → knows_winner t w ≡ true
known-offer true t a v w h e = ap (knows_winner t) e ∙ own_win t a v h
known-offer false t a v w h e = ap (knows_winner t) e.view ∙ noted_winner t e.winner (record v { tried = settle t a Late v.tried })

pub streak-offer : (b : Bool) (t a : ℕ) (v w : View) → MatchBool b (w ≡ won t a v) (IsLate t a v w) → w.streak ≡ 0
streak-offer true t a v w e = ap (λ (z : View). z.streak) e
streak-offer false t a v w e = ap (λ (z : View). z.streak) e.view

pub room-offer : (b : Bool) (t a : ℕ) (v w : View) → MatchBool b (w ≡ won t a v) (IsLate t a v w) → w.room ≡ v.room
room-offer true t a v w e = ap (λ (z : View). z.room) e
room-offer false t a v w e = ap (λ (z : View). z.room) e.view

-- a look that finds a winner
pub known-look : (t : ℕ) (o : Option ℕ) (v w : View) → is_some o ≡ true → w ≡ saw_winner t o v → knows_winner t w ≡ true
known-look t None v w h e = absurd (false≢true h)
known-look t (Some a) v w h e = ap (knows_winner t) e ∙ noted_winner t a v

-- an attempt that was begun is under way
pub open-begin : (t a : ℕ) (v w : View) → w ≡ began t a v → has_open t a w ≡ true
open-begin t a v w e = ap (has_open t a) e ∙ began-open t a v

pub open_of-begin : (t a : ℕ) (v w : View) → w ≡ began t a v → has_open_of t w ≡ true
open_of-begin t a v w e = ap (has_open_of t) e ∙ began-open_of t a v

pub room-begin : (t a : ℕ) (v w : View) → w ≡ began t a v → w.room ≡ v.room - 1
room-begin t a v w e = ap (λ (z : View). z.room) e

pub room-closed : (t : ℕ) (o : Option ℕ) (v w : View) → w ≡ saw_winner t o v → w.room ≡ v.room
room-closed t None v w e = ap (λ (z : View). z.room) e
room-closed t (Some a) v w e = ap (λ (z : View). z.room) e

pub room-failures : (t c : ℕ) (v w : View) → w ≡ saw_count t c v → w.room ≡ v.room
room-failures t c v w e = ap (λ (z : View). z.room) e

-- whether a pass may begin reads its streak and its firmness alone
pub may-same : (p q : Pass) → (view_of q).streak ≡ (view_of p).streak → is_firm q ≡ is_firm p → may_begin q ≡ may_begin p
may-same p q e f = ap (λ n. nat_lt n 3 || is_firm q) e ∙ ap (λ b. nat_lt (view_of p).streak 3 || b) f

pub may-fresh : (q : Pass) → (view_of q).streak ≡ 0 → may_begin q ≡ true
may-fresh q e = ap (λ n. nat_lt n 3 || is_firm q) e

-- a draw
pub calm-drawn : (n : ℕ) (o : Option ℕ) (v w : View) → 0 < v.room → IsDraw n v w o → IsCalm v w
calm-drawn n o v w room d = calm-draw d.number v w room d.beyond d.view

pub room-drawn : (n : ℕ) (o : Option ℕ) (v w : View) → IsDraw n v w o → w.room ≡ v.room - 1
room-drawn n o v w d = ap (λ (z : View). z.room) d.view

-- a draw that gives task t
pub record IsDrawn (n t : ℕ) (v w : View) : Type 0 where
  pub beyond : v.known ≤ t
  pub below : t < n
  pub known : w.known ≡ t + 1
  pub room : w.room ≡ v.room - 1

pub drawn-some : (n t : ℕ) (v w : View) → IsDraw n v w (Some t) → IsDrawn n t v w
drawn-some n t v w d = elim (cases_lt d.number n) as (λ _. IsDrawn n t v w) [
  | inl l ↦
      let is : Some t ≡ Some d.number = d.answer_is ∙ ap (λ b. cond {A = Option ℕ} b (Some d.number) None) (lt-ltb d.number n l) in
      let same : t ≡ d.number = cc in
      let known = ap (λ (z : View). z.known) d.view in
      let room = ap (λ (z : View). z.room) d.view in
      let beyond = d.beyond in
      record { beyond = omega arith; below = omega arith; known = omega arith; room = omega arith }
  | inr m ↦
      let is : ◌≡◌ {A = Option ℕ} (Some t) None = d.answer_is ∙ ap (λ b. cond {A = Option ℕ} b (Some d.number) None) (le-ltb d.number n m) in
      absurd (cc)
]

-- a draw that gives none knows all tasks to be drawn
pub drawn-none : (n : ℕ) (v w : View) → IsDraw n v w None → n ≤ w.known
drawn-none n v w d = elim (cases_lt d.number n) as (λ _. n ≤ w.known) [
  | inl l ↦
      let is : ◌≡◌ {A = Option ℕ} None (Some d.number) = d.answer_is ∙ ap (λ b. cond {A = Option ℕ} b (Some d.number) None) (lt-ltb d.number n l) in
      absurd (cc)
  | inr m ↦ let known = ap (λ (z : View). z.known) d.view in omega arith
]

-- one task more that the pass knows to be won
pub knows-more : (t : ℕ) (v w : View) → NotesStay v w → KnowsAll t v → knows_winner t w ≡ true → KnowsAll (t + 1) w
knows-more t v w stay all here u l = elim (cases_eq u t) as (λ _. knows_winner u w ≡ true) [
  | inl same ↦ ap (λ k. knows_winner k w) same ∙ here
  | inr other ↦ stay.winner u (all u (omega arith))
]

-- a sum of numbers of which none is above l
below_most : (g : ℕ → ℕ) (l n : ℕ) → ((u : ℕ) → g u ≤ l) → sum_below g n ≤ l * n
below_most g l zero all = omega arith
below_most g l (suc n) all = let p = below_most g l n all in let q = all n in let r = mul-suc l n in omega arith

-- and one is below
less_than_most : (g : ℕ → ℕ) (l n t : ℕ) → ((u : ℕ) → g u ≤ l) → t < n → g t < l → sum_below g n < l * n
less_than_most g l zero t all there less = absurd (omega arith)
less_than_most g l (suc n) t all there less = elim (cases_eq t n) as (λ _. sum_below g (suc n) < l * suc n) [
  | inl same ↦
      let p = below_most g l n all in
      let q : g n < l = subst (λ u. g u < l) same less in
      let r = mul-suc l n in
      omega arith
  | inr other ↦
      let p = less_than_most g l n t all (omega arith) less in
      let q = all n in
      let r = mul-suc l n in
      omega arith
]

-- the failures of a pass, where it has no more of a task than the limit says
pub few-all : (b : Board) (p : Pass) (l : ℕ) → OnBoard b p → ((u : ℕ) → fails_of u (view_of p) ≤ l) → all_fails (view_of p) ≤ l * tasks_of b
few-all b p l on few =
    let q : sum_below (λ t. fails_of t (view_of p)) (tasks_of b) ≡ all_fails (view_of p) = failures_add (tasks_of b) (view_of p).tried on.tasks in
    let r = below_most (λ t. fails_of t (view_of p)) l (tasks_of b) few in
    omega arith

pub fewer-all : (b : Board) (p : Pass) (l t : ℕ) → OnBoard b p → ((u : ℕ) → fails_of u (view_of p) ≤ l) → t < tasks_of b → fails_of t (view_of p) < l → all_fails (view_of p) < l * tasks_of b
fewer-all b p l t on few there less =
    let q : sum_below (λ t. fails_of t (view_of p)) (tasks_of b) ≡ all_fails (view_of p) = failures_add (tasks_of b) (view_of p).tried on.tasks in
    let r = less_than_most (λ u. fails_of u (view_of p)) l (tasks_of b) t few there less in
    omega arith

pub room-two : (m : ℕ) (v : View) → HasRoom 1 m v → all_fails v < m → 2 < v.room
room-two m v room less = omega arith

pub room-after : (j k m : ℕ) (v w : View) → HasRoom (j + k) m v → Spends j v w → HasRoom k m w
room-after j k m v w room spent = omega arith

-- the room before a draw, and before the try of what was drawn
pub drawn-room : (limit : ℕ) (b : Board) (p : Pass) (v : View) → HasRoom (3 * tasks_of b + 2) (limit * tasks_of b) v → OnBoard b p → ((u : ℕ) → fails_of u (view_of p) ≤ limit) → Spends (2 * min (view_of p).known (tasks_of b)) v (view_of p) → 0 < (view_of p).room
drawn-room limit b p v room on few spent =
    let all = few-all b p limit on few in
    some_room (tasks_of b) (limit * tasks_of b) (min (view_of p).known (tasks_of b)) v (view_of p) (omega arith) room all spent
  where
    some_room : (n m k : ℕ) (x y : View) → k ≤ n → HasRoom (3 * n + 2) m x → all_fails y ≤ m → Spends (2 * k) x y → 0 < y.room
    some_room n m k x y l r a s = omega arith

pub drawn-room-left : (limit n t : ℕ) (u v w : View) → HasRoom (3 * n + 2) (limit * n) u → Spends (2 * min v.known n) u v → v.known ≤ t → t < n → w.room ≡ v.room - 1 → all_fails w ≡ all_fails v → 0 < v.room → HasRoom 1 (limit * n) w
drawn-room-left limit n t u v w room spent beyond below left all some = left_room n (limit * n) v.known u v w (omega arith) room spent left all some
  where
    left_room : (n m k : ℕ) (x y z : View) → k < n → HasRoom (3 * n + 2) m x → Spends (2 * min k n) x y → z.room ≡ y.room - 1 → all_fails z ≡ all_fails y → 0 < y.room → HasRoom 1 m z
    left_room n m k x y z l r s e f some = omega arith

pub rest-room : (m n t : ℕ) (v w : View) → t < n → HasRoom (n + 1) m v → Spends t v w → HasRoom 1 m w
rest-room m n t v w l room spent = omega arith

pub looks-trans : (u v w : View) → Looks u v → Looks v w → Looks u w
looks-trans u v w a b = record { notes = notes-trans u v w a.notes b.notes; drawn = b.drawn ∙ a.drawn; tried = b.tried ∙ a.tried; room = b.room ∙ a.room; streak = b.streak ∙ a.streak }

pub looks-failures : (t c : ℕ) (v w : View) → w ≡ saw_count t c v → Looks v w
looks-failures t c v w e = subst (Looks v) (sym e) (record { notes = steps_keep.look_count t c v; drawn = refl; tried = refl; room = refl; streak = refl })

looks_winner : (t : ℕ) (o : Option ℕ) (v : View) → Looks v (saw_winner t o v)
looks_winner t None v = record { notes = steps_keep.look_winner t None v; drawn = refl; tried = refl; room = refl; streak = refl }
looks_winner t (Some a) v = record { notes = steps_keep.look_winner t (Some a) v; drawn = refl; tried = refl; room = refl; streak = refl }

pub looks-closed : (t : ℕ) (o : Option ℕ) (v w : View) → w ≡ saw_winner t o v → Looks v w
looks-closed t o v w e = subst (Looks v) (sym e) (looks_winner t o v)

-- what was below the limit is so behind looks
pub below-looks : (limit n : ℕ) (v w : View) → Looks v w → IsBelow limit n v → IsBelow limit n w
below-looks limit n v w c b t l = let e = calm-own v w (calm-looks v w c) t in let q = b t l in omega arith

pub below-more : (limit t : ℕ) (v w : View) → Looks v w → IsBelow limit t v → fails_of t v < limit → IsBelow limit (t + 1) w
below-more limit t v w c b here u l = elim (cases_eq u t) as (λ _. fails_of u w < limit) [
  | inl same ↦ let e = calm-own v w (calm-looks v w c) u in let q : fails_of u v < limit = subst (λ k. fails_of k v < limit) (sym same) here in omega arith
  | inr other ↦ let e = calm-own v w (calm-looks v w c) u in let q = b u (omega arith) in omega arith
]
