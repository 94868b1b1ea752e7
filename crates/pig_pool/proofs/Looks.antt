-- What a pass learns while an attempt asks for its task's winner alone.
use Rattle.std.proofs.Common.{◌≡◌, ℕ, Bool, true, false, ◌||◌, not, None, List, [], ◌∷◌, cond, length, refl, sym, ◌∙◌, ap, arith, inl, inr}
use Rattle.std.specs.Prelude.{◌==◌, count_by}
use Rattle.std.specs.List.{list_any, filter}
use Rattle.std.proofs.lemmas.Bool.{cases_Bool, or_cases, or_left, or_right, false≢true}
use Rattle.std.proofs.lemmas.List.Folds.{list_any-append}
use Rattle.pig_job.specs.declared.Attempt.{Attempt}
use Rattle.pig_job.specs.declared.Fate.TheVariants.{Unended}
use Rattle.pig_job.specs.Rule.{has_failed}
use Rattle.pig_job.proofs.Keeps.{attempt}
use Rattle.pig_board.specs.declared.view.View.{View}
use Rattle.pig_board.specs.View.{knows_winner, is_win_of, began, saw_count}
use Rattle.pig_pool.specs.Workers.{beside}
use Rattle.pig_pool.proofs.Steps.{IsCalm, calm-closed, calm-failures, calm-trans, room-closed, room-failures}

-- what passes behind a filter passes before it
any_filtered : {X : Type 0} (p q : X → Bool) (xs : List X) → list_any p (filter q xs) ≡ true → list_any p xs ≡ true
any_filtered p q [] h = h
any_filtered {X} p q (x ∷ xs) h = elim (cases_Bool (q x)) as (λ _. list_any p (x ∷ xs) ≡ true) [
  | inl y ↦
      let now : filter q (x ∷ xs) ≡ x ∷ filter q xs = ap (λ b. cond {A = List X} b (x ∷ filter q xs) (filter q xs)) y in
      elim (or_cases (p x) (list_any p (filter q xs)) (sym (ap (list_any p) now) ∙ h)) as (λ _. list_any p (x ∷ xs) ≡ true) [
        | inl a ↦ or_left (p x) (list_any p xs) a
        | inr a ↦ or_right (p x) (list_any p xs) (any_filtered p q xs a)
      ]
  | inr n ↦
      let now : filter q (x ∷ xs) ≡ filter q xs = ap (λ b. cond {A = List X} b (x ∷ filter q xs) (filter q xs)) n in
      or_right (p x) (list_any p xs) (any_filtered p q xs (sym (ap (list_any p) now) ∙ h))
]

pub or_parts : (a b : Bool) → (a || b) ≡ false → (a ≡ false) × (b ≡ false)
or_parts true b h = absurd (false≢true (sym h))
or_parts false b h = (refl, h)

-- where none passes, all stay
all_beside : {X : Type 0} (p : X → Bool) (xs : List X) → list_any p xs ≡ false → filter (λ x. not (p x)) xs ≡ xs
all_beside p [] h = refl
all_beside {X} p (x ∷ xs) h =
    let parts = or_parts (p x) (list_any p xs) h in
    ap (λ b. cond {A = List X} (not b) (x ∷ filter (λ z. not (p z)) xs) (filter (λ z. not (p z)) xs)) parts.0 ∙ ap (λ ys. x ∷ ys) (all_beside p xs parts.1)

pub calm-beside : (t : ℕ) (v w : View) → knows_winner t v ≡ false → beside t w ≡ beside t v → IsCalm v w
calm-beside t v w none e =
    let parts = or_parts (list_any (is_win_of t) v.tried) (list_any (λ p. p.0 == t) v.winners) none in
    let drawn : w.drawn ≡ v.drawn = ap (λ (z : View). z.drawn) e in
    let tried : w.tried ≡ v.tried = ap (λ (z : View). z.tried) e in
    let known : w.known ≡ v.known = ap (λ (z : View). z.known) e in
    let counts : w.counts ≡ v.counts = ap (λ (z : View). z.counts) e in
    let room : w.room ≡ v.room = ap (λ (z : View). z.room) e in
    let streak : w.streak ≡ v.streak = ap (λ (z : View). z.streak) e in
    let left : filter (λ (p : ℕ × ℕ). not (p.0 == t)) w.winners ≡ v.winners = ap (λ (z : View). z.winners) e ∙ all_beside (λ (p : ℕ × ℕ). p.0 == t) v.winners parts.1 in
    let winners : (p : ℕ × ℕ → Bool) → list_any p v.winners ≡ true → list_any p w.winners ≡ true = λ p h. any_filtered p (λ (q : ℕ × ℕ). not (q.0 == t)) w.winners (ap (list_any p) left ∙ h) in
    let ld : length w.drawn ≡ length v.drawn = ap length drawn in
    let lt : length w.tried ≡ length v.tried = ap length tried in
    let lf = ap (λ (xs : List Attempt). count_by (λ z. has_failed z.fate) xs) tried in
    record {
      notes = record {
        known = omega arith;
        winners = winners;
        counts = λ p h. ap (list_any p) counts ∙ h;
        winner = λ u h. elim (or_cases (list_any (is_win_of u) v.tried) (list_any (λ (p : ℕ × ℕ). p.0 == u) v.winners) h) as (λ _. knows_winner u w ≡ true) [
          | inl y ↦ or_left (list_any (is_win_of u) w.tried) (list_any (λ (p : ℕ × ℕ). p.0 == u) w.winners) (ap (list_any (is_win_of u)) tried ∙ y)
          | inr y ↦ or_right (list_any (is_win_of u) w.tried) (list_any (λ (p : ℕ × ℕ). p.0 == u) w.winners) (winners (λ p. p.0 == u) y)
        ];
      };
      steps = omega arith;
      tried = tried;
      streak = streak;
    }

pub room-beside : (t : ℕ) (v w : View) → beside t w ≡ beside t v → w.room ≡ v.room
room-beside t v w e = ap (λ (z : View). z.room) e

or_false : (a : Bool) → (a || false) ≡ a
or_false true = refl
or_false false = refl

-- a begin makes no winner known
unknown-begin : (t a : ℕ) (y : View) → knows_winner t (began t a y) ≡ knows_winner t y
unknown-begin t a y = ap (λ b. b || list_any (λ (p : ℕ × ℕ). p.0 == t) y.winners) (list_any-append (is_win_of t) y.tried (attempt t a Unended ∷ []) ∙ or_false (list_any (is_win_of t) y.tried))

-- the two looks before an attempt, of which the first tells no winner, and its begin
pub record IsBegun (t a : ℕ) (v z : View) : Type 0 where
  pub mid : View
  pub calm : IsCalm v mid
  pub room : mid.room ≡ v.room
  pub is : z ≡ began t a mid
  pub unknown : knows_winner t z ≡ false

pub begun : (t c a : ℕ) (v x y z : View) → knows_winner t v ≡ false → x ≡ v → y ≡ saw_count t c x → z ≡ began t a y → IsBegun t a v z
begun t c a v x y z none e f g = record {
  mid = y;
  calm = calm-trans v x y (calm-closed t None v x e) (calm-failures t c x y f);
  room = room-failures t c x y f ∙ room-closed t None v x e;
  is = g;
  unknown = ap (knows_winner t) g ∙ unknown-begin t a y ∙ ap (knows_winner t) f ∙ ap (knows_winner t) e ∙ none;
}
