-- What a crew of workers is given, and what it does.
use Rattle.std.specs.Prelude.{◌≡◌, ℕ, ◌+◌, ◌*◌, ◌^◌, ◌<◌, ◌≤◌, ⊤, Bool, true, false, Option, Some, None, List, [], length, map, count_by, sum_by, All}
use Rattle.pig_job.specs.Job.{aside_limit}
use Rattle.pig_job.specs.Rule.{is_attempt}
use Rattle.pig_board.specs.declared.board.Board.{Board}
use Rattle.pig_board.specs.declared.board.Pass.{Pass}
use Rattle.pig_board.specs.declared.view.View.{View}
use Rattle.pig_board.specs.View.{steps_of, fails_of, all_fails}
use Rattle.pig_board.specs.Pass.{view_of, is_firm, OnBoard}
use Rattle.pig_board.specs.Laws.{NotesStay}
use Rattle.pig_outside.specs.Calls.{Attempt}
use Rattle.pig_pool.specs.Begins.{Turn, turn_begins, turn_lost, CrewTells, crew_tells, Rise}
use Rattle.pig_pool.specs.declared.worker.Worker.{Worker}
use Rattle.pig_pool.specs.Workers.{HasWon, Spends, Rested, worker_room, worker_cost}

-- there is one, and P holds of it
abbrev pub Holds : {A : Type 0} → Option A → (A → Type 0) → Type 0
Holds None P = ⊥
Holds (Some x) P = P x

-- the pass is of this board, has tried nothing, has room for so many halvings, and unless it is firm counts no streak
pub record IsReady (b : Board) (depth : ℕ) (p : Pass) : Type 0 where
  pub board : OnBoard b p
  pub idle : (view_of p).tried ≡ []
  pub room : worker_room * 2 ^ depth ≤ (view_of p).room
  pub start : is_firm p ≡ false → (view_of p).streak ≡ 0

-- the sum of the numbers
abbrev pub total : List ℕ → ℕ
total xs = sum_by (λ x. x) xs

-- steps of all workers from the view v to w in a wave, while the hosts told x before and tell y behind
pub record CrewWorks (wave : ℕ) (v w : View) (x y : CrewTells) : Type 0 where
  pub notes : NotesStay v w
  pub steps : steps_of w ≡ steps_of v
  pub faults : all_fails w + total x.faults ≤ all_fails v + total y.faults
  -- the hosts, each with its begins
  pub turns : List (Turn wave)
  pub start : map (λ z. z.start) turns ≡ x.faults
  pub behind : map (λ z. z.faults) turns ≡ y.faults
  pub before : map (λ z. z.before) turns ≡ x.begun
  pub after : map (λ z. z.after) turns ≡ y.begun
  -- the begins are the attempts that the pass gained
  pub attempts : (t a : ℕ) → count_by (is_attempt t a) w.tried ≡ count_by (is_attempt t a) v.tried + sum_by (turn_begins t a) turns
  pub failed : (t : ℕ) → fails_of t w ≤ fails_of t v + sum_by (turn_lost t) turns

-- where all workers were put aside, each host's count has risen as far as puts a worker aside
abbrev pub Rose : Bool → List ℕ → List ℕ → Type 0
Rose true xs ys = Rise aside_limit xs ys
Rose false xs ys = ⊤

-- what is left of a crew on the pass p at its end, in a wave of n tasks: the pass q, outputs, and whether all were put aside
pub record IsEnded {O : Type 0} (is_right : ℕ → O → Type 0) (limit n wave : ℕ) (b : Board) (depth : ℕ) (p : Pass) (x y : CrewTells) (q : Pass) (outputs : List (ℕ × O)) (aside : Bool) : Type 0 where
  pub board : OnBoard b q
  pub firm : is_firm q ≡ is_firm p
  pub works : CrewWorks wave (view_of p) (view_of q) x y
  pub won : HasWon is_right (view_of q) outputs
  pub rested : Rested limit n (is_firm p) (view_of q) aside
  pub rose : Rose aside x.faults y.faults
  pub room : Spends (worker_cost * 2 ^ depth) (view_of p) (view_of q)

-- so many hosts at most as halvings suffice for, and each suits
pub record AreHosts {H : Type 0} (suits : H → Type 0) (depth : ℕ) (hosts : List H) : Type 0 where
  pub some : 0 < length hosts
  pub few : length hosts ≤ 2 ^ depth
  pub suit : All suits hosts

-- the hosts have the inputs that they had, and have counted no less
pub record HostsStay {H I : Type 0} (faults : H → ℕ) (inputs : H → I) (old new : List H) : Type 0 where
  pub same : map inputs new ≡ map inputs old
  pub later : sum_by faults old ≤ sum_by faults new

-- how a crew on the pass p ended, whose hosts were these before and behind
abbrev pub EndsAs : {O H : Type 0} → (ℕ → O → Type 0) → ℕ → ℕ → ℕ → Board → ℕ → (H → ℕ) → (H → Option (List Attempt)) → Pass → List H → List H → Worker O → Type 0
EndsAs is_right limit n wave b depth faults begun p old new r = IsEnded is_right limit n wave b depth p (crew_tells (map faults old) (map begun old)) (crew_tells (map faults new) (map begun new)) r.pass r.outputs r.is_aside
