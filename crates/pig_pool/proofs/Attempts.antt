-- What comes of a try, by its end.
use Rattle.std.proofs.Common.{◌≡◌, ℕ, ◌+◌, ◌-◌, ◌*◌, ◌<◌, ◌≤◌, Bool, true, false, Option, List, cond, inl, inr, refl, sym, ◌∙◌, ap, subst, arith}
use Rattle.std.specs.Prelude.{MatchBool, ◌++◌, ◌∷◌, [], ◌==◌}
use Rattle.std.specs.Option.{option_map}
use Rattle.std.proofs.lemmas.Bool.{cases_eq, eq-eqb, ne_eqb}
use Rattle.std.proofs.lemmas.List.Sums.{sum_by_push}
use Rattle.pig_job.specs.declared.Attempt.{Attempt}
use Rattle.pig_job.specs.declared.Fate.TheVariants.{Unended}
use Rattle.pig_job.specs.Rule.{has_failed}
use Rattle.pig_job.proofs.Keeps.{attempt}
use Rattle.pig_outside.specs.Calls.{and_attempt}
use Rattle.pig_board.specs.declared.board.Board.{Board}
use Rattle.pig_board.specs.declared.board.Pass.{Pass}
use Rattle.pig_board.specs.declared.view.View.{View}
use Rattle.pig_board.specs.Pass.{tasks_of, view_of, OnBoard}
use Rattle.pig_board.specs.View.{fails_of, all_fails, wins_of, has_open, has_open_of, won, came_late, saw_winner, saw_count, IsLate}
use Rattle.pig_board.proofs.CountLaws.{wins_began, wins_late, wins_failed, fails_began}
use Rattle.pig_pool.specs.Begins.{Tells}
use Rattle.pig_pool.specs.Workers.{HasWon, Works, Stands, Spends, HasRoom, IsFailed, FailedAs, IsTried, beside}
use Rattle.pig_pool.specs.declared.tries.Tried.{Tried}
use Rattle.pig_pool.specs.declared.tries.Tried.TheVariants.{Won, Failed, GivenUp, Aside}
use Rattle.pig_pool.proofs.Steps.{IsCalm, IsClosed, calm-all, calm-own, calm-wins, calm-open, calm-open_of, calm-trans, closed-failed, closed-offer, works-closed, won-calm, won-offer, open-begin, open_of-begin, room-begin, room-offer, room-two, fewer-all, known-offer, streak-offer, may-fresh, nothing, calm-closed, calm-failures}
use Rattle.pig_pool.proofs.Looks.{IsBegun, calm-beside, room-beside}

all-begun : (t a : ℕ) (v z : View) → IsBegun t a v z → all_fails z ≡ all_fails v
all-begun t a v z b = ap all_fails b.is ∙ ((let q = sum_by_push (λ (s : Attempt). cond {A = ℕ} (has_failed s.fate) 1 0) b.mid.tried (attempt t a Unended) in omega arith) ∙ calm-all v b.mid b.calm)

-- what was so of a pass before a begin is so once the attempt has come back
pub tried-own : (t a : ℕ) (v z u : View) → IsBegun t a v z → beside t u ≡ beside t z → (s : ℕ) → fails_of s u ≡ fails_of s v
tried-own t a v z u b same s =
    calm-own z u (calm-beside t z u b.unknown same) s ∙ (ap (fails_of s) b.is ∙ (fails_began s t a b.mid ∙ calm-own v b.mid b.calm s))

pub tried-wins : (t a : ℕ) (v z u : View) → IsBegun t a v z → beside t u ≡ beside t z → (s : ℕ) → wins_of s u ≡ wins_of s v
tried-wins t a v z u b same s =
    calm-wins z u (calm-beside t z u b.unknown same) s ∙ (ap (wins_of s) b.is ∙ (wins_began s t a b.mid ∙ calm-wins v b.mid b.calm s))

pub tried-open : (t a : ℕ) (v z u : View) → IsBegun t a v z → beside t u ≡ beside t z → has_open t a u ≡ true
tried-open t a v z u b same = calm-open t a z u (calm-beside t z u b.unknown same) ∙ open-begin t a b.mid z b.is

pub tried-open_of : (t a : ℕ) (v z u : View) → IsBegun t a v z → beside t u ≡ beside t z → has_open_of t u ≡ true
tried-open_of t a v z u b same = calm-open_of t z u (calm-beside t z u b.unknown same) ∙ open_of-begin t a b.mid z b.is

pub tried-room : (t a : ℕ) (v z u : View) → IsBegun t a v z → beside t u ≡ beside t z → u.room ≡ v.room - 1
tried-room t a v z u b same =
    let p = room-beside t z u same in
    let q = room-begin t a b.mid z b.is in
    let r = b.room in
    omega arith

pub tried-works : (wave t a n : ℕ) (v z u w : View) (x e : Tells) → IsBegun t a v z → beside t u ≡ beside t z → 0 < v.room → IsClosed n t u w
    → e.begun ≡ option_map (and_attempt wave t a x.faults) x.begun → x.faults + n ≤ e.faults → Works wave v w x e
tried-works wave t a n v z u w x e b same room closed told rose =
    let r = b.room in
    works-closed wave t a n v b.mid z u w x e b.calm (omega arith) b.is (calm-beside t z u b.unknown same) closed told rose

-- where an attempt is still under way
pub stands-open : {O : Type 0} (r : ℕ → O → Type 0) (limit t a : ℕ) (b : Board) (p z u : Pass) (os : List (ℕ × O)) → Stands r limit b p os → IsBegun t a (view_of p) (view_of z) → beside t (view_of u) ≡ beside t (view_of z) → OnBoard b u → Stands r limit b u os
stands-open r limit t a b p z u os s begun same on = record {
  board = on;
  won = won-calm r (view_of p) (view_of u) os (tried-wins t a (view_of p) (view_of z) (view_of u) begun same) s.won;
  few = λ k. let e = tried-own t a (view_of p) (view_of z) (view_of u) begun same k in let f = s.few k in omega arith;
}

pub stands-calm : {O : Type 0} (r : ℕ → O → Type 0) (limit : ℕ) (b : Board) (p q : Pass) (os : List (ℕ × O)) → Stands r limit b p os → IsCalm (view_of p) (view_of q) → OnBoard b q → Stands r limit b q os
stands-calm r limit b p q os s calm on = record {
  board = on;
  won = won-calm r (view_of p) (view_of q) os (calm-wins (view_of p) (view_of q) calm) s.won;
  few = λ k. let e = calm-own (view_of p) (view_of q) calm k in let f = s.few k in omega arith;
}

-- an attempt that won or came late
pub stands-offer : {O : Type 0} (r : ℕ → O → Type 0) (limit t a : ℕ) (b : Board) (c : Bool) (u q : Pass) (os ps : List (ℕ × O)) (o : O) → Stands r limit b u os → has_open t a (view_of u) ≡ true → r t o
    → MatchBool c (view_of q ≡ won t a (view_of u)) (IsLate t a (view_of u) (view_of q)) → MatchBool c (ps ≡ os ++ (t, o) ∷ []) (ps ≡ os) → OnBoard b q → Stands r limit b q ps
stands-offer r limit t a b c u q os ps o s h here e f on = record {
  board = on;
  won = won-offer r c t a (view_of u) (view_of q) os ps o h here e f s.won;
  few = λ k. let m = (closed-offer c t a (view_of u) (view_of q) h e).own k in let n = nothing (t == k) in let g = s.few k in omega arith;
}

pub stands-late : {O : Type 0} (r : ℕ → O → Type 0) (limit t a : ℕ) (b : Board) (u q : Pass) (os : List (ℕ × O)) → Stands r limit b u os → has_open t a (view_of u) ≡ true → IsLate t a (view_of u) (view_of q) → OnBoard b q → Stands r limit b q os
stands-late r limit t a b u q os s h e on = record {
  board = on;
  won = subst (λ z. HasWon r z os) (sym e.view) (won-calm r (view_of u) (came_late t a e.winner (view_of u)) os (λ k. wins_late k t a e.winner (view_of u) h) s.won);
  few = λ k. let m = (closed-offer false t a (view_of u) (view_of q) h e).own k in let n = nothing (t == k) in let g = s.few k in omega arith;
}

-- an attempt that failed, of a task that had failed less often than the limit says
pub stands-failed : {O : Type 0} (r : ℕ → O → Type 0) (limit t : ℕ) (b : Board) (u q : Pass) (os : List (ℕ × O)) → Stands r limit b u os → has_open_of t (view_of u) ≡ true → 0 < (view_of u).room → fails_of t (view_of u) < limit → IsFailed t (view_of u) (view_of q) → OnBoard b q → Stands r limit b q os
stands-failed r limit t b u q os s h room less e on = record {
  board = on;
  won = won-calm r (view_of u) (view_of q) os (λ k. ap (wins_of k) e.view ∙ wins_failed k t e.count (view_of u) h) s.won;
  few = λ k. elim (cases_eq t k) as (λ _. fails_of k (view_of q) ≤ limit) [
    | inl same ↦
        let m = (closed-failed t (view_of u) (view_of q) h room e).own k in
        let one : cond {A = ℕ} (t == k) 1 0 ≡ 1 = ap (λ c. cond {A = ℕ} c 1 0) (eq-eqb t k same) in
        let g : fails_of k (view_of u) < limit = subst (λ j. fails_of j (view_of u) < limit) same less in
        omega arith
    | inr other ↦
        let m = (closed-failed t (view_of u) (view_of q) h room e).own k in
        let none : cond {A = ℕ} (t == k) 1 0 ≡ 0 = ap (λ c. cond {A = ℕ} c 1 0) (ne_eqb t k other) in
        let g = s.few k in
        omega arith
  ];
}

-- what a try says that won or came late
pub tried-offer : (limit t a : ℕ) (c : Bool) (p z u q : Pass) → IsBegun t a (view_of p) (view_of z) → beside t (view_of u) ≡ beside t (view_of z) → MatchBool c (view_of q ≡ won t a (view_of u)) (IsLate t a (view_of u) (view_of q)) → IsTried limit t p q Won
tried-offer limit t a c p z u q b same e =
    let h = tried-open t a (view_of p) (view_of z) (view_of u) b same in
    let room = tried-room t a (view_of p) (view_of z) (view_of u) b same in
    let left = room-offer c t a (view_of u) (view_of q) e in
    let fails = (closed-offer c t a (view_of u) (view_of q) h e).all in
    let were = calm-all (view_of z) (view_of u) (calm-beside t (view_of z) (view_of u) b.unknown same) in
    let began = all-begun t a (view_of p) (view_of z) b in
    (omega arith, (known-offer c t a (view_of u) (view_of q) h e, may-fresh q (streak-offer c t a (view_of u) (view_of q) e)))

-- and one that failed
pub tried-failed : (limit t a : ℕ) (p z u q : Pass) (r : Tried) → IsBegun t a (view_of p) (view_of z) → beside t (view_of u) ≡ beside t (view_of z) → 1 < (view_of p).room → IsFailed t (view_of u) (view_of q) → FailedAs limit t q r → IsTried limit t p q r
tried-failed limit t a p z u q r b same room e f =
    let h = tried-open_of t a (view_of p) (view_of z) (view_of u) b same in
    let left = tried-room t a (view_of p) (view_of z) (view_of u) b same in
    let some : 0 < (view_of u).room = omega arith in
    let closed = closed-failed t (view_of u) (view_of q) h some e in
    let fails = closed.all in
    let spent : (view_of q).room ≡ (view_of u).room - 1 = ap (λ (k : View). k.room) e.view in
    let were = calm-all (view_of z) (view_of u) (calm-beside t (view_of z) (view_of u) b.unknown same) in
    let began = all-begun t a (view_of p) (view_of z) b in
    let one : cond {A = ℕ} (t == t) 1 0 ≡ 1 = ap (λ c. cond {A = ℕ} c 1 0) (eq-eqb t t refl) in
    let own = closed.own t in
    let mine = tried-own t a (view_of p) (view_of z) (view_of u) b same t in
    by_answer r f (omega arith) (omega arith)
  where
    by_answer : (k : Tried) → FailedAs limit t q k → Spends 0 (view_of p) (view_of q) → fails_of t (view_of q) ≡ fails_of t (view_of p) + 1 → IsTried limit t p q k
    by_answer Won g s m = absurd g
    by_answer Failed g s m = (s, (m, g))
    by_answer GivenUp g s m = (s, g)
    by_answer Aside g s m = (s, g)

pub calm-both : (t c : ℕ) (o : Option ℕ) (p x q : Pass) → view_of x ≡ saw_winner t o (view_of p) → view_of q ≡ saw_count t c (view_of x) → IsCalm (view_of p) (view_of q)
calm-both t c o p x q e f = calm-trans (view_of p) (view_of x) (view_of q) (calm-closed t o (view_of p) (view_of x) e) (calm-failures t c (view_of x) (view_of q) f)

-- the room of a try, whose task has failed less often here than the limit says
pub try-room : {O : Type 0} (r : ℕ → O → Type 0) (limit t : ℕ) (b : Board) (p : Pass) (os : List (ℕ × O)) → Stands r limit b p os → t < tasks_of b → fails_of t (view_of p) < limit → HasRoom 1 (limit * tasks_of b) (view_of p) → 2 < (view_of p).room
try-room r limit t b p os s there less room =
    let all = fewer-all b p limit t s.board s.few there less in
    room-two (limit * tasks_of b) (view_of p) room all

pub stands-same : {O : Type 0} (r : ℕ → O → Type 0) (limit : ℕ) (b : Board) (u q : Pass) (os ps : List (ℕ × O)) → Stands r limit b u os → view_of q ≡ view_of u → ps ≡ os → OnBoard b q → Stands r limit b q ps
stands-same r limit b u q os ps s e f on = record {
  board = on;
  won = subst (λ z. HasWon r z ps) (sym e) (subst (HasWon r (view_of u)) (sym f) s.won);
  few = λ k. let m = ap (fails_of k) e in let g = s.few k in omega arith;
}
