-- Notes stay, whatever call a pass makes.
use Rattle.std.proofs.Common.{◌≡◌, ℕ, ◌≤◌, Bool, true, Option, Some, None, List, [], ◌∷◌, ◌++◌, cond, ◌∙◌, arith, inl, inr}
use Rattle.std.specs.Prelude.{◌==◌}
use Rattle.std.specs.List.{list_any}
use Rattle.std.proofs.lemmas.Bool.{or_cases, or_left, or_right}
use Rattle.std.proofs.lemmas.List.Folds.{list_any-append}
use Rattle.pig_job.specs.declared.Fate.{Fate}
use Rattle.pig_job.specs.declared.Fate.TheVariants.{Unended, Won, Late, Failed}
use Rattle.pig_job.specs.Rule.{settle}
use Rattle.pig_job.proofs.Keeps.{attempt}
use Rattle.pig_job.proofs.States.{Swaps-settle, list_any-counted}
use Rattle.pig_board.specs.declared.view.View.{View}
use Rattle.pig_board.specs.View.{has_open, is_win_of, knows_winner, drew, began, won, came_late, failed_at, earliest, saw_winner, saw_count, kept_half, both}
use Rattle.pig_board.specs.Laws.{NotesStay, StepsKeepNotes}
use Rattle.pig_board.proofs.Counts.{counted-any, earliest-open}

-- what some element of a part passes, some element of the whole does
any_front : {X : Type 0} (p : X → Bool) (xs ys : List X) → list_any p xs ≡ true → list_any p (xs ++ ys) ≡ true
any_front p xs ys h = list_any-append p xs ys ∙ or_left (list_any p xs) (list_any p ys) h

any_back : {X : Type 0} (p : X → Bool) (xs ys : List X) → list_any p ys ≡ true → list_any p (xs ++ ys) ≡ true
any_back p xs ys h = list_any-append p xs ys ∙ or_right (list_any p xs) (list_any p ys) h

-- a pass knows a winner where it did, if its wins and its notes have only grown
knows : (v w : View) → ((t : ℕ) → list_any (is_win_of t) v.tried ≡ true → list_any (is_win_of t) w.tried ≡ true)
    → ((p : ℕ × ℕ → Bool) → list_any p v.winners ≡ true → list_any p w.winners ≡ true)
    → (t : ℕ) → knows_winner t v ≡ true → knows_winner t w ≡ true
knows v w wins notes t h = elim (or_cases (list_any (is_win_of t) v.tried) (list_any (λ p. p.0 == t) v.winners) h) as (λ _. knows_winner t w ≡ true) [
  | inl y ↦ or_left (list_any (is_win_of t) w.tried) (list_any (λ p. p.0 == t) w.winners) (wins t y)
  | inr y ↦ or_right (list_any (is_win_of t) w.tried) (list_any (λ p. p.0 == t) w.winners) (notes (λ p. p.0 == t) y)
]

stay : (v w : View) → v.known ≤ w.known
    → ((t : ℕ) → list_any (is_win_of t) v.tried ≡ true → list_any (is_win_of t) w.tried ≡ true)
    → ((p : ℕ × ℕ → Bool) → list_any p v.winners ≡ true → list_any p w.winners ≡ true)
    → ((p : ℕ × ℕ → Bool) → list_any p v.counts ≡ true → list_any p w.counts ≡ true)
    → NotesStay v w
stay v w k wins notes counts = record { known = k; winners = notes; counts = counts; winner = knows v w wins notes }

-- an attempt that ends was no win before
settled_wins : (t a : ℕ) (f : Fate) (v : View) → has_open t a v ≡ true → (u : ℕ) → list_any (is_win_of u) v.tried ≡ true → list_any (is_win_of u) (settle t a f v.tried) ≡ true
settled_wins t a f v h u y =
    let d = Swaps-settle t a f v.tried h in
    let p = d.sums (λ z. cond {A = ℕ} (is_win_of u z) 1 0) in
    let q = list_any-counted (is_win_of u) v.tried y in
    counted-any (is_win_of u) (is_win_of u) (settle t a f v.tried) (λ x e. e) (omega arith)

pub steps_keep : StepsKeepNotes
steps_keep = record {
  draw = λ x v l. stay v (drew x v) (omega arith) (λ t y. y) (λ p y. y) (λ p y. y);
  begin = λ t a v. stay v (began t a v) (omega arith) (λ u y. any_front (is_win_of u) v.tried (attempt t a Unended ∷ []) y) (λ p y. y) (λ p y. y);
  win = λ t a v h. stay v (won t a v) (omega arith) (settled_wins t a Won v h) (λ p y. y) (λ p y. y);
  late = λ t a b v h. stay v (came_late t a b v) (omega arith) (settled_wins t a Late v h) (λ p y. any_front p v.winners ((t, b) ∷ []) y) (λ p y. y);
  fail = λ t c v h. stay v (failed_at t c v) (omega arith) (settled_wins t (earliest t v.tried) Failed v (earliest-open t v.tried h)) (λ p y. y) (λ p y. any_front p v.counts ((t, c) ∷ []) y);
  look_winner = looked;
  look_count = λ t c v. stay v (saw_count t c v) (omega arith) (λ u y. y) (λ p y. y) (λ p y. any_front p v.counts ((t, c) ∷ []) y);
  cut = λ v. stay v (kept_half v) (omega arith) (λ u y. y) (λ p y. y) (λ p y. y);
  join_left = λ v w. stay v (both v w) (omega arith) (λ u y. any_front (is_win_of u) v.tried w.tried y) (λ p y. any_front p v.winners w.winners y) (λ p y. any_front p v.counts w.counts y);
  join_right = λ v w. stay w (both v w) (omega arith) (λ u y. any_back (is_win_of u) v.tried w.tried y) (λ p y. any_back p v.winners w.winners y) (λ p y. any_back p v.counts w.counts y);
}
  where
    looked : (t : ℕ) (o : Option ℕ) (v : View) → NotesStay v (saw_winner t o v)
    looked t None v = stay v v (omega arith) (λ u y. y) (λ p y. y) (λ p y. y)
    looked t (Some a) v = stay v (saw_winner t (Some a) v) (omega arith) (λ u y. y) (λ p y. any_front p v.winners ((t, a) ∷ []) y) (λ p y. y)
