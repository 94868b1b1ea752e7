-- What each call does to the counts of a pass.
use Rattle.std.proofs.Common.{◌≡◌, ◌≢◌, ℕ, ◌+◌, ◌<◌, true, Option, Some, None, List, [], ◌∷◌, ◌++◌, cond, length-append, refl, ◌∙◌, ap, arith}
use Rattle.std.specs.Prelude.{◌==◌, ◌&&◌}
use Rattle.std.specs.List.{list_any}
use Rattle.std.proofs.lemmas.Bool.{or_left, or_right, eq-eqb, ne_eqb}
use Rattle.std.proofs.lemmas.List.Sums.{sum_by-append, sum_by_push}
use Rattle.pig_job.specs.declared.Attempt.{Attempt}
use Rattle.pig_job.specs.declared.Fate.TheVariants.{Unended, Won, Late, Failed}
use Rattle.pig_job.specs.Rule.{has_failed, is_open, is_failure_of}
use Rattle.pig_job.proofs.Bag.{swapped_alike}
use Rattle.pig_job.proofs.Keeps.{attempt}
use Rattle.pig_job.proofs.States.{Swaps-settle}
use Rattle.pig_board.specs.declared.view.View.{View}
use Rattle.pig_board.specs.View.{steps_of, has_open, has_open_of, is_win_of, fails_of, wins_of, drew, began, won, came_late, failed_at, earliest, saw_winner, saw_count, kept_half, other_half, both}
use Rattle.pig_board.proofs.Counts.{earliest-open, open-of}
use Rattle.pig_board.proofs.Steps.{settled_length, settled_fails}

-- the steps of a pass and its room together are the same after each call
pub steps_drew : (x : ℕ) (v : View) → 0 < v.room → steps_of (drew x v) ≡ steps_of v
steps_drew x v h = let l = length-append v.drawn (x ∷ []) in omega arith

pub steps_began : (t a : ℕ) (v : View) → 0 < v.room → steps_of (began t a v) ≡ steps_of v
steps_began t a v h =
    let l = length-append v.tried (attempt t a Unended ∷ []) in
    let c = sum_by_push (λ (z : Attempt). cond {A = ℕ} (has_failed z.fate) 1 0) v.tried (attempt t a Unended) in
    omega arith

pub steps_won : (t a : ℕ) (v : View) → has_open t a v ≡ true → steps_of (won t a v) ≡ steps_of v
steps_won t a v h = let l = settled_length t a Won v h in let c = settled_fails t a Won v h in omega arith

pub steps_late : (t a b : ℕ) (v : View) → has_open t a v ≡ true → steps_of (came_late t a b v) ≡ steps_of v
steps_late t a b v h = let l = settled_length t a Late v h in let c = settled_fails t a Late v h in omega arith

pub steps_failed : (t k : ℕ) (v : View) → has_open_of t v ≡ true → 0 < v.room → steps_of (failed_at t k v) ≡ steps_of v
steps_failed t k v h room =
    let is = earliest-open t v.tried h in
    let l = settled_length t (earliest t v.tried) Failed v is in
    let c = settled_fails t (earliest t v.tried) Failed v is in
    omega arith

-- a split and a join keep their sum
pub steps_cut : (v : View) → steps_of (kept_half v) + steps_of (other_half v) ≡ steps_of v
steps_cut v = omega arith

pub steps_both : (v w : View) → steps_of (both v w) ≡ steps_of v + steps_of w
steps_both v w =
    let d = length-append v.drawn w.drawn in
    let t = length-append v.tried w.tried in
    let f = sum_by-append (λ (z : Attempt). cond {A = ℕ} (has_failed z.fate) 1 0) v.tried w.tried in
    omega arith

-- an attempt that was begun is under way
pub began-open : (t a : ℕ) (v : View) → has_open t a (began t a v) ≡ true
began-open t a v = at_end v.tried
  where
    here : is_open t a (attempt t a Unended) ≡ true
    here = ap (λ b. b && (a == a)) (eq-eqb t t refl) ∙ eq-eqb a a refl

    at_end : (xs : List Attempt) → list_any (is_open t a) (xs ++ attempt t a Unended ∷ []) ≡ true
    at_end [] = or_left (is_open t a (attempt t a Unended)) (list_any (is_open t a) []) here
    at_end (x ∷ xs) = or_right (is_open t a x) (list_any (is_open t a) (xs ++ attempt t a Unended ∷ [])) (at_end xs)

pub began-open_of : (t a : ℕ) (v : View) → has_open_of t (began t a v) ≡ true
began-open_of t a v = open-of t a (began t a v).tried (began-open t a v)

-- the failures and the wins of a pass
pub fails_began : (u t a : ℕ) (v : View) → fails_of u (began t a v) ≡ fails_of u v
fails_began u t a v = let c = sum_by_push (λ z. cond {A = ℕ} (is_failure_of u z) 1 0) v.tried (attempt t a Unended) in omega arith

pub wins_began : (u t a : ℕ) (v : View) → wins_of u (began t a v) ≡ wins_of u v
wins_began u t a v = let c = sum_by_push (λ z. cond {A = ℕ} (is_win_of u z) 1 0) v.tried (attempt t a Unended) in omega arith

pub wins_won : (t a : ℕ) (v : View) → has_open t a v ≡ true → wins_of t (won t a v) ≡ wins_of t v + 1
wins_won t a v h =
    let d = Swaps-settle t a Won v.tried h in
    let p = d.sums (λ z. cond {A = ℕ} (is_win_of t z) 1 0) in
    let one : cond {A = ℕ} (t == t) 1 0 ≡ 1 = ap (λ c. cond {A = ℕ} c 1 0) (eq-eqb t t refl) in
    omega arith

pub wins_won_other : (u t a : ℕ) (v : View) → has_open t a v ≡ true → t ≢ u → wins_of u (won t a v) ≡ wins_of u v
wins_won_other u t a v h n =
    let d = Swaps-settle t a Won v.tried h in
    let p = d.sums (λ z. cond {A = ℕ} (is_win_of u z) 1 0) in
    let none : cond {A = ℕ} (t == u) 1 0 ≡ 0 = ap (λ c. cond {A = ℕ} c 1 0) (ne_eqb t u n) in
    omega arith

pub wins_late : (u t a b : ℕ) (v : View) → has_open t a v ≡ true → wins_of u (came_late t a b v) ≡ wins_of u v
wins_late u t a b v h = swapped_alike (is_win_of u) _ _ _ _ (Swaps-settle t a Late v.tried h) refl

pub wins_failed : (u t k : ℕ) (v : View) → has_open_of t v ≡ true → wins_of u (failed_at t k v) ≡ wins_of u v
wins_failed u t k v h = swapped_alike (is_win_of u) _ _ _ _ (Swaps-settle t (earliest t v.tried) Failed v.tried (earliest-open t v.tried h)) refl

pub wins_both : (u : ℕ) (v w : View) → wins_of u (both v w) ≡ wins_of u v + wins_of u w
wins_both u v w = sum_by-append (λ z. cond {A = ℕ} (is_win_of u z) 1 0) v.tried w.tried
