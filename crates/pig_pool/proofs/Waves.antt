-- The end of a wave, from what its workers tell.
use Rattle.std.proofs.Common.{◌≡◌, ℕ, ◌+◌, ◌*◌, ◌<◌, ◌≤◌, Bool, true, false, not, ◌&&◌, ◌||◌, Option, Some, None, List, [], ◌∷◌, cond, map, length, refl, sym, ◌∙◌, ap, subst, arith, inl, inr}
use Rattle.std.specs.Prelude.{⊤, ◌^◌, ◌==◌, is_some, nat_le, count_by, MatchBool, All, Result, Ok, Err, IfErr, MatchResult}
use Rattle.std.specs.List.{list_any, sum_by}
use Rattle.std.proofs.lemmas.Bool.{cases_Bool, cases_lt, or_cases, leb-true, ne_eqb, false≢true, false_from_ne_true}
use Rattle.std.proofs.lemmas.Bool.Decides.{nat_tests}
use Rattle.std.proofs.lemmas.List.{get_or_past, length-map}
use Rattle.std.proofs.lemmas.List.Elements.{All-head, All-tail, All-nil, All-cons}
use Rattle.std.proofs.lemmas.List.Sums.{get_or-le-sum_by, sum_by-cons}
use Rattle.std.proofs.Math.Nat.{mul-le-mul_left}
use Rattle.pig_job.specs.Rule.{has_failed, is_attempt, is_failure_of, once_below}
use Rattle.pig_job.specs.declared.Attempt.{Attempt}
use Rattle.pig_outside.specs.Calls as outside
use Rattle.pig_board.specs.declared.view.View.{View}
use Rattle.pig_board.specs.declared.end.TaskEnd.{TaskEnd}
use Rattle.pig_board.specs.declared.board.Board.{Board}
use Rattle.pig_board.specs.declared.board.Pass.{Pass}
use Rattle.pig_board.specs.View.{steps_of, IsAlone, fails_of, all_fails, fresh}
use Rattle.pig_board.specs.Pass.{tasks_of, view_of, OnBoard}
use Rattle.pig_board.specs.End.{untried, end_of, IsEnd}
use Rattle.pig_board.proofs.EndLaws.{an_end}
use Rattle.pig_board.specs.Laws.{EndTells}
use Rattle.pig_pool.specs.Begins.{CrewTells, crew_tells}
use Rattle.pig_pool.specs.Workers.{outputs_of, HasWon, IsDone, IsBelow, KnowsAll, Looks, Rested, Spends, saw_limit, worker_cost, again_room}
use Rattle.pig_pool.specs.Crew.{AreHosts, CrewWorks}
use Rattle.pig_pool.specs.declared.wave.WaveFault.{WaveFault}
use Rattle.pig_pool.specs.declared.wave.WaveFault.TheVariants.{TaskFailed, OutOfMemory}
use Rattle.pig_pool.specs.Wave.{AllWon, IsWonWave, HasUnwon, IsLeast, HasFailed, AreBegun, FaultBegun, EndsAt, FaultEndsAt, failures_in, failures_of}
use Rattle.pig_pool.proofs.Placing.{once_at_most}
use Rattle.pig_pool.proofs.Steps.{calm-looks, calm-all, few-all}
use Rattle.pig_pool.proofs.Crews.{total-map, head_of, tail_of}

none_above : (n t : ℕ) → n ≤ t → once_below n t ≡ 0
none_above n t h = grind (arith, nat_tests)

-- where every task is won, there is one output of each
pub each_once : {O : Type 0} (is_right : ℕ → O → Type 0) (n : ℕ) (v : View) (ends : List TaskEnd) (os : List (ℕ × O)) → HasWon is_right v os → EndTells v ends → length ends ≡ n → AllWon ends → (t : ℕ) → outputs_of t os ≡ once_below n t
each_once is_right n v ends os won tells count all t =
    let each = won.each t in
    let wins = tells.wins t in
    elim (cases_lt t n) as (λ _. outputs_of t os ≡ once_below n t) [
      | inl l ↦
          let one : cond {A = ℕ} (is_some (end_of ends t).winner) 1 0 ≡ 1 = ap (λ b. cond {A = ℕ} b 1 0) (all t (omega arith)) in
          let q = once_at_most n t l in
          omega arith
      | inr l ↦
          let none : cond {A = ℕ} (is_some (end_of ends t).winner) 1 0 ≡ 0 = ap (λ (e : TaskEnd). cond {A = ℕ} (is_some e.winner) 1 0) (get_or_past ends t untried (omega arith)) in
          let q = none_above n t l in
          omega arith
    ]

some_of : (o : Option ℕ) → is_some o ≡ true → (a : ℕ) × (o ≡ Some a)
some_of None h = absurd (false≢true h)
some_of (Some a) h = (a, refl)

pub all_won : (n : ℕ) (v : View) (ends : List TaskEnd) → EndTells v ends → length ends ≡ n → AllWon ends → IsWonWave n ends
all_won n v ends tells count all = record {
  count = count;
  winner = λ t l.
      let w = some_of (end_of ends t).winner (all t (omega arith)) in
      (w.0, w.1, tells.winner t w.0 w.1);
}

-- a noted count that is not below the limit
noted_limit : (limit : ℕ) (ends : List TaskEnd) (ns : List (ℕ × ℕ)) → All (λ p. p.1 ≤ (end_of ends p.0).failed) ns → list_any (λ p. nat_le limit p.1) ns ≡ true → (t : ℕ) × (limit ≤ (end_of ends t).failed)
noted_limit limit ends [] all h = absurd (false≢true h)
noted_limit limit ends (n ∷ ns) all h =
    elim (or_cases (nat_le limit n.1) (list_any (λ p. nat_le limit p.1) ns) h) as (λ _. (t : ℕ) × (limit ≤ (end_of ends t).failed)) [
      | inl y ↦
          let first : n.1 ≤ (end_of ends n.0).failed = All-head (λ (p : ℕ × ℕ). p.1 ≤ (end_of ends p.0).failed) n ns all in
          let limit = leb-true limit n.1 y in
          (n.0, omega arith)
      | inr y ↦ noted_limit limit ends ns (All-tail (λ (p : ℕ × ℕ). p.1 ≤ (end_of ends p.0).failed) n ns all) y
    ]

-- a crew is done only where every task is won or one has failed too often
pub has_reason : (limit n : ℕ) (v : View) (ends : List TaskEnd) → IsDone limit n v → EndTells v ends → length ends ≡ n → HasUnwon ends → ((t : ℕ) → (end_of ends t).failed < limit) → ⊥
has_reason limit n v ends done tells count unwon few = elim (cases_Bool (saw_limit limit v)) as (λ _. ⊥) [
  | inl y ↦
      let t = noted_limit limit ends v.counts tells.counts y in
      let a = few t.0 in
      let b = t.1 in
      absurd (omega arith)
  | inr none ↦
      let below = unwon.below in
      let known = done.all none unwon.task (omega arith) in
      false≢true (sym (ap is_some unwon.unwon) ∙ tells.known unwon.task known)
]

pub some_failures : (limit t : ℕ) (ends : List TaskEnd) → IsLeast limit t ends → limit ≤ failures_in ends
some_failures limit t ends least = let p = get_or-le-sum_by (λ (e : TaskEnd). e.failed) ends t untried least.below in let q = least.failed in omega arith

-- the failures that a wave shows are faults of the hosts
pub failures_rise : {A : Type 0} (m : Result A WaveFault) (n : A → ℕ) (v : View) (f g : ℕ) → MatchResult m (λ r. n r ≡ all_fails v) (λ e. failures_of e ≡ all_fails v) → all_fails v + f ≤ g
    → MatchResult m (λ r. f + n r ≤ g) (λ e. f + failures_of e ≤ g)
failures_rise (Ok r) n v f g is l = omega arith
failures_rise (Err e) n v f g is l = omega arith

-- fewer faults than the limit fail no wave
pub few_faults : {A : Type 0} (m : Result A WaveFault) (limit k : ℕ) (n : A → ℕ) (f g : ℕ) → IfErr m (HasFailed limit k) → MatchResult m (λ r. f + n r ≤ g) (λ e. f + failures_of e ≤ g) → g < f + limit → IfErr m (λ e. e ≡ OutOfMemory)
few_faults (Ok r) limit k n f g failed rise few = failed
few_faults (Err (TaskFailed t ends)) limit k n f g failed rise few = let p = some_failures limit t ends failed.least in absurd (omega arith)
few_faults (Err OutOfMemory) limit k n f g failed rise few = refl

-- the failures of a task that is not of the board
no_failures : (n t : ℕ) (xs : List Attempt) → n ≤ t → All (λ x. x.task < n) xs → count_by (is_failure_of t) xs ≡ 0
no_failures n t [] l all = refl
no_failures n t (x ∷ xs) l all =
    let first : x.task < n = All-head (λ (y : Attempt). y.task < n) x xs all in
    let rest = no_failures n t xs l (All-tail (λ (y : Attempt). y.task < n) x xs all) in
    let p = sum_by-cons (λ (y : Attempt). cond {A = ℕ} (is_failure_of t y) 1 0) x xs in
    let q = other (has_failed x.fate) (x.task == t) (ne_eqb x.task t (λ e. omega arith)) in
    omega arith
  where
    other : (a b : Bool) → b ≡ false → cond {A = ℕ} (a && b) 1 0 ≡ 0
    other true b e = ap (λ c. cond {A = ℕ} c 1 0) e
    other false b e = refl

few_each : (b : Board) (p : Pass) (limit : ℕ) → OnBoard b p → IsBelow limit (tasks_of b) (view_of p) → (t : ℕ) → fails_of t (view_of p) ≤ limit
few_each b p limit on few t = elim (cases_lt t (tasks_of b)) as (λ _. fails_of t (view_of p) ≤ limit) [
  | inl l ↦ let f = few t l in omega arith
  | inr l ↦ let f = no_failures (tasks_of b) t (view_of p).tried l on.tasks in omega arith
]

few_all : (b : Board) (p : Pass) (limit : ℕ) → OnBoard b p → tasks_of b ≤ 65536 → limit ≤ 16 → IsBelow limit (tasks_of b) (view_of p) → all_fails (view_of p) ≤ 1048576
few_all b p limit on tasks small few =
    let most = few-all b p limit on (few_each b p limit on few) in
    let a = mul-le-mul_left limit tasks in
    omega arith

-- and the room of a second round
pub room-again : (limit : ℕ) (b : Board) (v : View) (p q : Pass) → tasks_of b ≤ 65536 → limit ≤ 16 → v ≡ fresh → Spends (worker_cost * 2 ^ 8) v (view_of p) → OnBoard b q → Looks (view_of p) (view_of q)
    → IsBelow limit (tasks_of b) (view_of q) → again_room ≤ (view_of q).room
room-again limit b v p q tasks small is spent on looks few =
    let calm = calm-looks (view_of p) (view_of q) looks in
    let e : v.room ≡ 2 ^ 31 = ap (λ (z : View). z.room) is in
    let l = looks.room in
    let f = few_all b q limit on tasks small few in
    let g = calm-all (view_of p) (view_of q) calm in
    omega arith

-- all steps are those of the first pass
pub alone-again : (wave : ℕ) (v w : View) (x y : CrewTells) → v ≡ fresh → CrewWorks wave v w x y → IsAlone w
alone-again wave v w x y is works = let p = works.steps in let q : steps_of v ≡ 2 ^ 31 = ap steps_of is in omega arith

pub faults-again : {X : Type 0} (f : X → ℕ) (g g' : List (Option (List outside.Attempt))) (xs ys : List X) (wave : ℕ) (v w : View) → v ≡ fresh → CrewWorks wave v w (crew_tells (map f xs) g) (crew_tells (map f ys) g') → all_fails w + sum_by f xs ≤ sum_by f ys
faults-again f g g' xs ys wave v w is works =
    let p = works.faults in
    let q : all_fails v ≡ 0 = ap all_fails is in
    let r = total-map f xs in
    let s = total-map f ys in
    omega arith

-- the begins that the hosts tell are those of the end
are_begun : (wave : ℕ) (v w : View) (ends : List TaskEnd) (x y : CrewTells) → v ≡ fresh → CrewWorks wave v w x y → EndsAt w ends → AreBegun wave ends x y
are_begun wave v w ends x y is works ends_at = record {
  turns = works.turns;
  start = works.start;
  behind = works.behind;
  before = works.before;
  after = works.after;
  attempts = λ t a.
      let p = works.attempts t a in
      let q : count_by (is_attempt t a) v.tried ≡ 0 = ap (λ (z : View). count_by (is_attempt t a) z.tried) is in
      let r = ends_at.attempts t a in
      omega arith;
  failed = λ t.
      let p = works.failed t in
      let q : fails_of t v ≡ 0 = ap (fails_of t) is in
      let r = ends_at.failed t in
      omega arith;
}

pub begun-again : {A : Type 0} (m : Result A WaveFault) (ends : A → List TaskEnd) (wave : ℕ) (v w : View) (x y : CrewTells) → v ≡ fresh → CrewWorks wave v w x y → MatchResult m (λ r. EndsAt w (ends r)) (FaultEndsAt w)
    → MatchResult m (λ r. AreBegun wave (ends r) x y) (FaultBegun wave x y)
begun-again (Ok r) ends wave v w x y is works at = are_begun wave v w (ends r) x y is works at
begun-again (Err (TaskFailed t e)) ends wave v w x y is works at = are_begun wave v w e x y is works at
begun-again (Err OutOfMemory) ends wave v w x y is works at = tt

-- what an end shows of the pass that was left
pub ends-at : (v : View) (ends : List TaskEnd) → IsEnd v ends → EndsAt v ends
ends-at v ends is = record { attempts = is.kept.attempts; failed = (an_end v ends is).failures }

pub done-limit : (limit n : ℕ) (v : View) → saw_limit limit v ≡ true → IsDone limit n v
done-limit limit n v seen = record { all = λ none. absurd (false≢true (sym none ∙ seen)) }

pub done-all : (limit n : ℕ) (v : View) → KnowsAll n v → IsDone limit n v
done-all limit n v all = record { all = λ none. all }

pub done-either : (b : Bool) (limit n : ℕ) (v : View) → MatchBool b (KnowsAll n v) ⊤ → IsBelow limit n v → MatchBool b (IsDone limit n v) (IsBelow limit n v)
done-either true limit n v all below = done-all limit n v all
done-either false limit n v all below = below

-- what is done is done behind looks
done_looks : (limit n : ℕ) (v w : View) → Looks v w → IsDone limit n v → IsDone limit n w
done_looks limit n v w looks d = record {
  all = λ none t l.
      let before : saw_limit limit v ≡ false = false_from_ne_true (saw_limit limit v) (λ h. false≢true (sym none ∙ looks.notes.counts (λ p. nat_le limit p.1) h)) in
      looks.notes.winner t (d.all before t l);
}

-- a round is the last where not all were put aside, or the work is done
pub done-round : (limit n : ℕ) (firm aside over : Bool) (v w : View) → (not aside || over) ≡ true → Rested limit n firm v aside → Looks v w → MatchBool over (IsDone limit n w) (IsBelow limit n w) → IsDone limit n w
done-round limit n firm false over v w e rested looks m = done_looks limit n v w looks rested
done-round limit n firm true true v w e rested looks m = m
done-round limit n firm true false v w e rested looks m = absurd (false≢true e)

-- hosts with the same inputs suit the same
suit-again : {X Y : Type 0} (f : X → Y) (P : Y → Type 0) (xs ys : List X) → map f ys ≡ map f xs → All (λ h. P (f h)) xs → All (λ h. P (f h)) ys
suit-again f P [] [] e all = All-nil (λ h. P (f h))
suit-again f P [] (y ∷ ys) e all = absurd (cc)
suit-again f P (x ∷ xs) [] e all = absurd (cc)
suit-again {X} {Y} f P (x ∷ xs) (y ∷ ys) e all =
    let head : f y ≡ f x = ap (head_of (f x)) e in
    let tail : map f ys ≡ map f xs = ap tail_of e in
    All-cons (λ h. P (f h)) y ys (subst P (sym head) (All-head (λ h. P (f h)) x xs all)) (suit-again f P xs ys tail (All-tail (λ h. P (f h)) x xs all))

pub hosts-again : {X Y : Type 0} (f : X → Y) (P : Y → Type 0) (depth : ℕ) (xs ys : List X) → map f ys ≡ map f xs → AreHosts (λ h. P (f h)) depth xs → AreHosts (λ h. P (f h)) depth ys
hosts-again f P depth xs ys e hosts =
    let same : length ys ≡ length xs = sym (length-map ys f) ∙ (ap length e ∙ length-map xs f) in
    record {
      some = subst (λ n. 0 < n) (sym same) hosts.some;
      few = subst (λ n. n ≤ 2 ^ depth) (sym same) hosts.few;
      suit = suit-again f P xs ys e hosts.suit;
    }
