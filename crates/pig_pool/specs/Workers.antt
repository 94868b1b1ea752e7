-- What the steps of a worker do.
use Rattle.std.specs.Prelude.{◌≡◌, ℕ, ◌+◌, ◌*◌, ◌<◌, ◌≤◌, Bool, true, false, not, ◌==◌, nat_le, Result, OnOk, List, ◌++◌, count_by, All}
use Rattle.std.specs.List.{list_any, filter}
use Rattle.std.specs.Option.{option_map}
use Rattle.pig_job.specs.Job.{aside_limit}
use Rattle.pig_job.specs.Rule.{is_attempt}
use Rattle.pig_outside.specs.Calls.{Attempt}
use Rattle.pig_board.specs.declared.board.Board.{Board}
use Rattle.pig_board.specs.declared.board.Pass.{Pass}
use Rattle.pig_board.specs.declared.view.View.{View}
use Rattle.pig_board.specs.View.{steps_of, knows_winner, fails_of, all_fails, wins_of, failed_at}
use Rattle.pig_board.specs.Pass.{tasks_of, view_of, is_firm, may_begin, OnBoard}
use Rattle.pig_board.specs.Laws.{NotesStay}
use Rattle.pig_pool.specs.Begins.{Tells, begins_of, next_count, lost_of}
use Rattle.pig_pool.specs.declared.tries.Tried.{Tried}
use Rattle.pig_pool.specs.declared.tries.Tried.TheVariants.{Won, Failed, GivenUp, Aside}
use Rattle.pig_pool.specs.declared.worker.Worker.{Worker}
use Rattle.pig_pool.specs.declared.worker.Course.{Course}
use Rattle.pig_pool.specs.declared.worker.Course.TheVariants as course

-- the room that a worker has in each round
abbrev pub worker_room : ℕ
worker_room = 6000000

-- and with which a second round begins
abbrev pub again_room : ℕ
again_room = 2060000000

-- the room that it spends at most, beside two for each failure
abbrev pub worker_cost : ℕ
worker_cost = 200000

-- the outputs of task t
abbrev pub outputs_of : {O : Type 0} → ℕ → List (ℕ × O) → ℕ
outputs_of t outputs = count_by (λ o. o.0 == t) outputs

-- there is an output for each win of the pass, and each is right
pub record HasWon {O : Type 0} (is_right : ℕ → O → Type 0) (v : View) (outputs : List (ℕ × O)) : Type 0 where
  pub each : (t : ℕ) → outputs_of t outputs ≡ wins_of t v
  pub right : All (λ o. is_right o.0 o.1) outputs

-- where a worker stands: its pass is of the board, it has an output for each of its wins, and no task has failed here
-- more often than the limit says
pub record Stands {O : Type 0} (is_right : ℕ → O → Type 0) (limit : ℕ) (b : Board) (p : Pass) (outputs : List (ℕ × O)) : Type 0 where
  pub board : OnBoard b p
  pub won : HasWon is_right (view_of p) outputs
  pub few : (t : ℕ) → fails_of t (view_of p) ≤ limit

-- steps from the view v to w in a wave, while a host told x before and tells y behind
pub record Works (wave : ℕ) (v w : View) (x y : Tells) : Type 0 where
  -- what was noted stays
  pub notes : NotesStay v w
  -- the steps and the room together are the same
  pub steps : steps_of w ≡ steps_of v
  -- each failure is a fault of the host, and so is each of a streak
  pub faults : all_fails w + x.faults ≤ all_fails v + y.faults
  pub streak : w.streak + all_fails v ≤ v.streak + all_fails w
  -- the begins that the host tells behind those of before are the attempts that the pass gained
  pub begins : List Attempt
  pub told : y.begun ≡ option_map (λ b. b ++ begins) x.begun
  pub of_wave : All (λ b. b.wave ≡ wave) begins
  pub attempts : (t a : ℕ) → count_by (is_attempt t a) w.tried ≡ count_by (is_attempt t a) v.tried + begins_of t a begins
  -- and each failure of a task is one of its begins, behind which the host's count stands higher
  pub later : x.faults ≤ next_count begins y.faults
  pub failed : (t : ℕ) → fails_of t w ≤ fails_of t v + lost_of t begins y.faults

-- so much room was spent at most, beside two for each failure
abbrev pub Spends : ℕ → View → View → Type 0
Spends k v w = v.room + 2 * all_fails v ≤ w.room + 2 * all_fails w + k

-- there is room for k steps, and two for each failure up to m
abbrev pub HasRoom : ℕ → ℕ → View → Type 0
HasRoom k m v = k + 2 * m ≤ v.room + 2 * all_fails v

-- a worker that may try: it stands, may begin, and has room for k steps, and the inputs of its host suit
pub record MayTry {O I : Type 0} (is_right : ℕ → O → Type 0) (is_suited : I → Type 0) (limit : ℕ) (b : Board) (k : ℕ) (w : Worker O) (inputs : I) : Type 0 where
  pub stands : Stands is_right limit b w.pass w.outputs
  pub may : may_begin w.pass ≡ true
  pub room : HasRoom k (limit * tasks_of b) (view_of w.pass)
  pub suits : is_suited inputs

-- what tries leave that spend k steps at most, of the worker u the worker w, while their host had the inputs h and told
-- x before, and has i and tells y behind: it stands, as firm as before, and has worked where memory was not wanting
pub record Leaves {O I C E : Type 0} (is_right : ℕ → O → Type 0) (limit wave : ℕ) (b : Board) (k : ℕ) (u w : Worker O) (h i : I) (x y : Tells) (r : Result C E) : Type 0 where
  pub stands : Stands is_right limit b w.pass w.outputs
  pub firm : is_firm w.pass ≡ is_firm u.pass
  pub works : OnOk r (Works wave (view_of u.pass) (view_of w.pass) x y)
  pub room : OnOk r (Spends k (view_of u.pass) (view_of w.pass))
  pub inputs : i ≡ h
  pub later : x.faults ≤ y.faults

-- the pass noted that a task has failed as often as the limit says
abbrev pub saw_limit : ℕ → View → Bool
saw_limit limit v = list_any (λ p. nat_le limit p.1) v.counts

-- the pass knows a winner of each of n tasks
abbrev pub KnowsAll : ℕ → View → Type 0
KnowsAll n v = (t : ℕ) → t < n → knows_winner t v ≡ true

-- each of n tasks has failed less often here than the limit says
abbrev pub IsBelow : ℕ → ℕ → View → Type 0
IsBelow limit n v = (t : ℕ) → t < n → fails_of t v < limit

-- unless it noted that a task has failed too often, the pass knows a winner of each of n tasks
pub record IsDone (limit n : ℕ) (v : View) : Type 0 where
  pub all : saw_limit limit v ≡ false → KnowsAll n v

-- the failure of an attempt at task t
pub record IsFailed (t : ℕ) (v w : View) : Type 0 where
  pub count : ℕ
  pub view : w ≡ failed_at t count v

-- what comes of a failure of task t, by the pass behind it
abbrev pub FailedAs : ℕ → ℕ → Pass → Tried → Type 0
FailedAs limit t q Won = ⊥
FailedAs limit t q Failed = (fails_of t (view_of q) < limit) × (may_begin q ≡ true)
FailedAs limit t q GivenUp = saw_limit limit (view_of q) ≡ true
FailedAs limit t q Aside = may_begin q ≡ false

-- what came of a try of task t, by the passes before and behind it
abbrev pub IsTried : ℕ → ℕ → Pass → Pass → Tried → Type 0
IsTried limit t p q Won = Spends 1 (view_of p) (view_of q) × ((knows_winner t (view_of q) ≡ true) × (may_begin q ≡ true))
IsTried limit t p q Failed = Spends 0 (view_of p) (view_of q) × ((fails_of t (view_of q) ≡ fails_of t (view_of p) + 1) × ((fails_of t (view_of q) < limit) × (may_begin q ≡ true)))
IsTried limit t p q GivenUp = Spends 0 (view_of p) (view_of q) × (saw_limit limit (view_of q) ≡ true)
IsTried limit t p q Aside = Spends 0 (view_of p) (view_of q) × (may_begin q ≡ false)

-- what came of a worker's course, by the pass behind it: it may go on, and P holds; or a task has failed too often; or
-- the worker was put aside
abbrev pub Went : ℕ → Pass → Type 0 → Course → Type 0
Went limit q P course.On = P × (may_begin q ≡ true)
Went limit q P course.Over = saw_limit limit (view_of q) ≡ true
Went limit q P course.Aside = may_begin q ≡ false

-- the worker was put aside
abbrev pub was_aside : Course → Bool
was_aside course.On = false
was_aside course.Over = false
was_aside course.Aside = true

-- how a worker's round, or a crew's, ended: each worker was put aside, which none is whose pass is firm; or what it
-- was to do is done
abbrev pub Rested : ℕ → ℕ → Bool → View → Bool → Type 0
Rested limit n firm v true = (aside_limit ≤ v.streak) × (firm ≡ false)
Rested limit n firm v false = IsDone limit n v

-- looks alone: what was drawn and tried, the room and the streak are as they were
pub record Looks (v w : View) : Type 0 where
  pub notes : NotesStay v w
  pub drawn : w.drawn ≡ v.drawn
  pub tried : w.tried ≡ v.tried
  pub room : w.room ≡ v.room
  pub streak : w.streak ≡ v.streak

-- looks at the board b by the pass p, which becomes q: it is on the board, as firm as before
pub record LooksOn (b : Board) (p q : Pass) : Type 0 where
  pub board : OnBoard b q
  pub firm : is_firm q ≡ is_firm p
  pub looks : Looks (view_of p) (view_of q)

-- what the pass knows beside the winner of task t
abbrev pub beside : ℕ → View → View
beside t v = record v { winners = filter (λ p. not (p.0 == t)) v.winners }

-- what a stop keeps: its board, its task, and of its pass all but what it learns of the task's winner
pub record Held : Type 0 where
  pub board : Board
  pub task : ℕ
  pub reference : ℕ
  pub firm : Bool
  pub view : View
