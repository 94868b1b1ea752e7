-- A try of a task keeps the number of steps.
use Rattle.std.proofs.Common.{◌≡◌, ℕ, ◌-◌, ◌<◌, Bool, true, false, ◌∙◌, ap, arith}
use Rattle.std.specs.Prelude.{MatchBool}
use Rattle.pig_board.specs.declared.view.View.{View}
use Rattle.pig_board.specs.View.{steps_of, has_open, has_open_of, IsLate, began, won, failed_at}
use Rattle.pig_board.proofs.CountLaws.{steps_began, steps_failed, steps_won, steps_late, began-open, began-open_of}

pub tried_failed : (t a k : ℕ) (v w u : View) → 1 < v.room → w ≡ began t a v → u ≡ failed_at t k w → steps_of u ≡ steps_of v
tried_failed t a k v w u room e f =
    let is : has_open_of t w ≡ true = ap (has_open_of t) e ∙ began-open_of t a v in
    let left : w.room ≡ v.room - 1 = ap (λ (z : View). z.room) e in
    ap steps_of f ∙ steps_failed t k w is (omega arith) ∙ ap steps_of e ∙ steps_began t a v (omega arith)

pub tried_commit : (t a : ℕ) (b : Bool) (v w u : View) → 0 < v.room → w ≡ began t a v → MatchBool b (u ≡ won t a w) (IsLate t a w u) → steps_of u ≡ steps_of v
tried_commit t a true v w u room e f =
    let is : has_open t a w ≡ true = ap (has_open t a) e ∙ began-open t a v in
    ap steps_of f ∙ steps_won t a w is ∙ ap steps_of e ∙ steps_began t a v room
tried_commit t a false v w u room e f =
    let is : has_open t a w ≡ true = ap (has_open t a) e ∙ began-open t a v in
    ap steps_of f.view ∙ steps_late t a f.winner w is ∙ ap steps_of e ∙ steps_began t a v room
