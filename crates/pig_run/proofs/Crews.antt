-- What hosts show of waves: of none, of those before a later fault, of the first hosts and of all.
use Rattle.std.proofs.Common.{◌≡◌, ◌≤◌, ◌+◌, ◌++◌, ◌⊎◌, ℕ, zero, suc, List, [], ◌∷◌, length, map, take, drop, min, Option, Some, None, Result, Ok, Err, IfOk, IfErr, MatchResult, All, slice_get, refl, sym, ◌∙◌, ap, subst, arith, inl, inr}
use Rattle.std.specs.List.{AllByRecursion, sum_by}
use Rattle.std.specs.Option.{ForSome}
use Rattle.std.proofs.Math.Seq.{drop-append_seam, take-append_seam}
use Rattle.std.proofs.lemmas.List.{length-map, map-append, take-append-drop}
use Rattle.std.proofs.lemmas.List.Sums.{sum_by-append}
use Rattle.pig_value.specs.declared.inputs.Input.{Input}
use Rattle.pig_outside.specs.Calls.{Attempt}
use Rattle.pig_outside.specs.Shelf.{AreOfBytes}
use Rattle.pig_board.specs.declared.end.TaskEnd.{TaskEnd}
use Rattle.pig_pool.specs.Wave.{IsWonWave, failures_in}
use Rattle.pig_plan.specs.Plans.{Plan}
use Rattle.pig_physical.specs.Stages.{Stages, heads, tasks_in}
use Rattle.pig_driver.specs.Begun.{FaultBegun, WavesBegun}
use Rattle.pig_driver.specs.Failing.{HasFailed, HaveWon, IsGivenUp}
use Rattle.pig_driver.specs.Going.{AreWon}
use Rattle.pig_driver.specs.declared.running.StagesFault.{StagesFault}
use Rattle.pig_driver.specs.declared.running.StagesFault.TheVariants as stages
use Rattle.pig_words.specs.CommandWords.{IsCommand, IsSet, Attempts, Reducers, Split, Workers}
use Rattle.pig_words.specs.declared.words.Command.{Command}
use Rattle.pig_run.specs.declared.outcome.RunFault.{RunFault}
use Rattle.pig_run.specs.declared.outcome.RunFault.TheVariants as fault
use Rattle.pig_run.specs.declared.outcome.TooLarge.TheVariants as large
use Rattle.pig_run.specs.Blame.{CommitsEach, CrewHasWorked, HaveWorked, HostsHaveWorked, ShowsFailure, crew_of}
use Rattle.pig_run.specs.Due.{AreWords, IsDemo, Line}
use Rattle.pig_run.specs.declared.progress.Progress.{Progress}
use Rattle.pig_run.specs.Running.{HasFailedAssert, IsUsable, WavesEnd, asserted, found_in, untold}
use Rattle.pig_run.specs.Steps.{IsCommitFault, IsPlanFault, stages_fault_of}
use Rattle.pig_run.specs.Told.{IsTold, TellsInputs, line_of}
use Rattle.pig_run.proofs.Deciding.{WordsAre, no_demo, of_demo, of_none, of_script, same_command, words_decided}

-- ---- the numbers of a command

in_range : (o : Option (List ℕ)) (default most n : ℕ) → 1 ≤ default → default ≤ most → IsSet o default most n → (1 ≤ n) × (n ≤ most)
in_range None default most n some few is = (omega (arith, some, is), omega (arith, few, is))
in_range (Some value) default most n some few is = (is.1, is.2)

some_min : (hosts : ℕ) → 1 ≤ hosts → (1 ≤ min 4 hosts) × (min 4 hosts ≤ hosts)
some_min hosts some = (omega (arith, some), omega arith)

pub usable : (hosts : ℕ) (words : List (List ℕ)) (command : Command) → 1 ≤ hosts → IsCommand hosts words command → IsUsable hosts command
usable hosts words command some is =
    let least = some_min hosts some in
    record {
      workers = in_range (is.bare.given.values Workers) (min 4 hosts) hosts command.workers least.0 least.1 is.bare.makes.workers;
      reducers = in_range (is.bare.given.values Reducers) 4 256 command.reducers (omega arith) (omega arith) is.bare.makes.reducers;
      split = (in_range (is.bare.given.values Split) 1048576 67108864 command.split (omega arith) (omega arith) is.bare.makes.split).0;
      attempts = in_range (is.bare.given.values Attempts) 4 16 command.attempts (omega arith) (omega arith) is.bare.makes.attempts;
    }

-- ---- faults that are no task's

abbrev pub IsNoTask : Option RunFault → Type 0
IsNoTask answer = (wave task failed : ℕ) → ¬ (answer ≡ Some (fault.TaskFailed wave task failed))

pub plan_no_task : (f : RunFault) → IsPlanFault f → IsNoTask (Some f)
plan_no_task f h wave task failed e = subst IsPlanFault (just_same e) h
  where
    just_same : {x y : RunFault} → Some x ≡ Some y → x ≡ y
    just_same g = cc

pub memory_no_task : (f : RunFault) → f ≡ fault.OutOfMemory → IsNoTask (Some f)
memory_no_task f is wave task failed e = let wrong : Some fault.OutOfMemory ≡ Some (fault.TaskFailed wave task failed) = ap Some (sym is) ∙ e in cc

pub commit_no_task : (n : ℕ) (f : RunFault) → IsCommitFault n f → IsNoTask (Some f)
commit_no_task n f (inl is) = λ wave task times e. let wrong : Some (fault.DepotFault (Some n)) ≡ Some (fault.TaskFailed wave task times) = ap Some (sym is) ∙ e in cc
commit_no_task n f (inr is) = memory_no_task f is

pub done_no_task : IsNoTask None
done_no_task wave task failed e = cc

pub assert_no_task : {plan : Plan} {n : ℕ} {old new : Progress} (f : RunFault) → HasFailedAssert plan n old new f → IsNoTask (Some f)
assert_no_task {n = n} _ (asserted same said) = λ wave task times e. let wrong : Some (fault.AssertFailed n) ≡ Some (fault.TaskFailed wave task times) = e in cc
assert_no_task _ (untold same) = memory_no_task fault.OutOfMemory refl

-- so it is of ends by such faults
pub plan_fault : {T : Type 0} (result : Result T RunFault) → IfOk result (λ _. ⊥) → IfErr result IsPlanFault → IsNoTask (found_in result)
plan_fault (Ok x) stops h = absurd stops
plan_fault (Err f) stops h = plan_no_task f h

pub words_fault : {T : Type 0} (U : Type 0) (result : Result T RunFault) → IfOk result (λ _. ⊥) → IfErr result (λ f. ((f ≡ fault.Usage) × U) ⊎ (f ≡ fault.OutOfMemory)) → IsNoTask (found_in result)
words_fault U (Ok x) stops h = absurd stops
words_fault U (Err f) stops (inl is) = λ wave task failed e. let wrong : Some fault.Usage ≡ Some (fault.TaskFailed wave task failed) = ap Some (sym is.0) ∙ e in cc
words_fault U (Err f) stops (inr is) = memory_no_task f is

pub cut_fault : {T : Type 0} (U : Type 0) (result : Result T RunFault) → IfOk result (λ _. ⊥) → IfErr result (λ f. ((f ≡ fault.TooLarge large.Tasks) × U) ⊎ (f ≡ fault.OutOfMemory)) → IsNoTask (found_in result)
cut_fault U (Ok x) stops h = absurd stops
cut_fault U (Err f) stops (inl is) = λ wave task failed e. let wrong : Some (fault.TooLarge large.Tasks) ≡ Some (fault.TaskFailed wave task failed) = ap Some (sym is.0) ∙ e in cc
cut_fault U (Err f) stops (inr is) = memory_no_task f is

pub memory_fault : {T : Type 0} (result : Result T RunFault) → MatchResult result (λ _. Unit {0}) (λ f. f ≡ fault.OutOfMemory) → IsNoTask (found_in result)
memory_fault (Ok x) h = done_no_task
memory_fault (Err f) h = memory_no_task f h

pub commit_fault : {T : Type 0} (result : Result T RunFault) (n : ℕ) → MatchResult result (λ _. ⊥) (IsCommitFault n) → IsNoTask (found_in result)
commit_fault (Ok x) n h = absurd h
commit_fault (Err f) n h = commit_no_task n f h

-- ---- hosts

module _ {H : Type 0} (inputs : H → Option (List Input)) (faults : H → ℕ) (begun : H → Option (List Attempt)) where
  -- no wave ended, and hosts are as they were
  pub idle_worked : (limit : ℕ) (hosts : List H) (waves : List (List TaskEnd)) (answer : Option RunFault) → waves ≡ [] → IsNoTask answer → HaveWorked inputs faults begun limit hosts hosts waves answer
  idle_worked limit hosts waves answer none other = subst (λ ws. HaveWorked inputs faults begun limit hosts hosts ws answer) (sym none)
      (record {
        same = refl;
        failures = omega arith;
        told = λ plenty. refl;
        blamed = λ wave task failed is. absurd (other wave task failed is);
        committed = λ _. tt;
      })

  -- a later fault came
  pub worked_on : (limit : ℕ) (old new : List H) (waves : List (List TaskEnd)) (answer : Option RunFault) → IsNoTask answer → HaveWorked inputs faults begun limit old new waves None
      → HaveWorked inputs faults begun limit old new waves answer
  worked_on limit old new waves answer other h = record {
    same = h.same;
    failures = h.failures;
    told = λ plenty. h.told (λ wrong. cc);
    blamed = λ wave task failed is. absurd (other wave task failed is);
    committed = λ _. h.committed refl;
  }

  -- the first hosts worked
  pub crew_worked : (command : Command) (crew crew_new rest old new : List H) (waves : List (List TaskEnd)) (answer : Option RunFault)
      → old ≡ crew ++ rest → new ≡ crew_new ++ rest → length crew ≡ command.workers → HaveWorked inputs faults begun command.attempts crew crew_new waves answer
      → CrewHasWorked inputs faults begun command old new waves answer
  crew_worked command crew crew_new rest old new waves answer old_is new_is count h =
      let same_length : length crew_new ≡ command.workers = sym (length-map crew_new inputs) ∙ ap length h.same ∙ length-map crew inputs ∙ count in
      record {
        worked = subst (λ xs. HaveWorked inputs faults begun command.attempts xs (take command.workers new) waves answer) (sym (ap (take command.workers) old_is ∙ front crew rest command.workers count))
            (subst (λ xs. HaveWorked inputs faults begun command.attempts crew xs waves answer) (sym (ap (take command.workers) new_is ∙ front crew_new rest command.workers same_length)) h);
        idle = ap (drop command.workers) new_is ∙ back crew_new rest command.workers same_length ∙ sym (back crew rest command.workers count) ∙ sym (ap (drop command.workers) old_is);
      }
    where
      front : (xs ys : List H) (n : ℕ) → length xs ≡ n → take n (xs ++ ys) ≡ xs
      front xs ys n e = ap (λ m. take m (xs ++ ys)) (sym e) ∙ take-append_seam xs ys

      back : (xs ys : List H) (n : ℕ) → length xs ≡ n → drop n (xs ++ ys) ≡ ys
      back xs ys n e = ap (λ m. drop m (xs ++ ys)) (sym e) ∙ drop-append_seam xs ys

  pub crew_idle : (command : Command) (hosts : List H) (waves : List (List TaskEnd)) (answer : Option RunFault) → waves ≡ [] → IsNoTask answer → CrewHasWorked inputs faults begun command hosts hosts waves answer
  crew_idle command hosts waves answer none other = record { worked = idle_worked command.attempts (take command.workers hosts) waves answer none other; idle = refl }

  -- with the command of the words
  pub hosts_worked : (line : Line) (command : Command) (old new : List H) (waves : List (List TaskEnd)) (answer : Option RunFault) → AreWords line command
      → CrewHasWorked inputs faults begun command old new waves answer → HostsHaveWorked inputs faults begun line old new waves answer
  hosts_worked line command old new waves answer are h = record {
    crew = λ other is. subst (λ c. CrewHasWorked inputs faults begun c old new waves answer) (same_command line command other are.is is.is) h;
    demo = λ other is. absurd (no_demo line command are other is);
    none = λ never. absurd (never (command, are.is));
  }

  -- or those of a demonstration
  pub hosts_rested : (line : Line) (command : Command) (hosts : List H) (waves : List (List TaskEnd)) (answer : Option RunFault) → IsDemo line command
      → sum_by failures_in waves ≡ 0 → CommitsEach answer waves → HostsHaveWorked inputs faults begun line hosts hosts waves answer
  hosts_rested line command hosts waves answer is none committed = record {
    crew = λ other are. absurd (no_demo line other are command is);
    demo = λ other same. record { same = refl; none_failed = none; committed = committed };
    none = λ never. absurd (never (command, is.is));
  }

  -- no host worked
  pub hosts_idle : (line : Line) (hosts : List H) (waves : List (List TaskEnd)) (answer : Option RunFault) → waves ≡ [] → IsNoTask answer → HostsHaveWorked inputs faults begun line hosts hosts waves answer
  hosts_idle line hosts waves answer none other = record {
    crew = λ command is. crew_idle command hosts waves answer none other;
    demo = λ command is. record {
      same = refl;
      none_failed = ap (sum_by failures_in) none;
      committed = λ done. subst (AllByRecursion (λ ends. IsWonWave (length ends) ends)) (sym none) tt;
    };
    none = λ never. (refl, none);
  }

  -- all hosts together
  module _ (line : Line) (old new : List H) (waves : List (List TaskEnd)) (answer : Option RunFault) (h : HostsHaveWorked inputs faults begun line old new waves answer) where
    pub all_failures : sum_by faults old + sum_by failures_in waves ≤ sum_by faults new
    all_failures = by_words (words_decided line)
      where
        still : new ≡ old → sum_by failures_in waves ≡ 0 → sum_by faults old + sum_by failures_in waves ≤ sum_by faults new
        still same nothing = let sums = ap (sum_by faults) same in omega (arith, sums, nothing)

        by_words : WordsAre line → sum_by faults old + sum_by failures_in waves ≤ sum_by faults new
        by_words (of_script {command = c} are) =
            let crew = h.crew c are in
            let n = c.workers in
            let before = ap (sum_by faults) (sym (take-append-drop n old)) ∙ sum_by-append faults (take n old) (drop n old) in
            let now = ap (sum_by faults) (sym (take-append-drop n new)) ∙ sum_by-append faults (take n new) (drop n new) in
            let rest = ap (sum_by faults) crew.idle in
            let some = crew.worked.failures in
            omega (arith, before, now, rest, some)
        by_words (of_demo {command = c} is) = still (h.demo c is).same (h.demo c is).none_failed
        by_words (of_none none) = still (h.none none).0 (ap (sum_by failures_in) (h.none none).1)

    pub all_committed : CommitsEach answer waves
    all_committed = by_words (words_decided line)
      where
        by_words : WordsAre line → CommitsEach answer waves
        by_words (of_script {command = c} are) = (h.crew c are).worked.committed
        by_words (of_demo {command = c} is) = (h.demo c is).committed
        by_words (of_none none) = λ _. subst (AllByRecursion (λ ends. IsWonWave (length ends) ends)) (sym (h.none none).1) tt

    pub all_inputs : map inputs new ≡ map inputs old
    all_inputs = by_words (words_decided line)
      where
        by_words : WordsAre line → map inputs new ≡ map inputs old
        by_words (of_script {command = c} are) =
            let crew = h.crew c are in
            let n = c.workers in
            ap (map inputs) (sym (take-append-drop n new)) ∙ map-append inputs (take n new) (drop n new)
            ∙ (λ i. crew.worked.same i ++ map inputs (crew.idle i))
            ∙ sym (map-append inputs (take n old) (drop n old)) ∙ ap (map inputs) (take-append-drop n old)
        by_words (of_demo {command = c} is) = ap (map inputs) (h.demo c is).same
        by_words (of_none none) = ap (map inputs) (h.none none).0

-- ---- what hosts tell

pub tell_each : {X : Type 0} (P : Option (List Input) → Type 0) (inputs : X → Option (List Input)) (xs : List X) → All (λ x. P (inputs x)) xs → AllByRecursion P (map inputs xs)
tell_each P inputs [] h = tt
tell_each P inputs (x ∷ xs) h = (h 0 x (omega arith), tell_each P inputs xs (λ k d less. h (suc k) d (omega (arith, less))))

pub tell_first : {X : Type 0} (P : Option (List Input) → Type 0) (inputs : X → Option (List Input)) (n : ℕ) (xs : List X) → AllByRecursion P (map inputs xs) → AllByRecursion P (map inputs (take n xs))
tell_first P inputs zero xs h = tt
tell_first P inputs (suc n) [] h = tt
tell_first P inputs (suc n) (x ∷ xs) h = (h.0, tell_first P inputs n xs h.1)

-- the inputs that all hosts tell are of bytes, so those that the first ones are known to tell are
pub told_are_bytes : {X : Type 0} (inputs : X → Option (List Input)) (n : ℕ) (xs : List X) → AllByRecursion (λ told. ForSome told AreOfBytes) (map inputs xs)
    → AllByRecursion IsTold (map inputs (take n xs)) → AllByRecursion TellsInputs (map inputs (take n xs))
told_are_bytes inputs zero xs known told = tt
told_are_bytes inputs (suc n) [] known told = tt
told_are_bytes inputs (suc n) (x ∷ xs) known told =
    ((told.0.0, told.0.1, known.0 told.0.0 told.0.1), told_are_bytes inputs n xs known.1 told.1)

-- ---- a task that is given up

pub shows_failure : (limit : ℕ) (s : Stages) (ends : List (List TaskEnd)) (wave task failed : ℕ) → IsGivenUp limit s ends wave task failed → ShowsFailure limit ends wave task failed
shows_failure limit s ends wave task failed h = record {
  before = h.before;
  last = h.last;
  are = h.are;
  number = h.won.count;
  shown = sym h.shown;
  enough = (let least = h.failing.least.failed in let is = h.shown in omega (arith, least, is));
  unwon = h.failing.unwon;
}

-- waves that are won have a winner at each task
pub each_won : (s : Stages) (ends : List (List TaskEnd)) (w : ℕ) → AreWon s ends w → AllByRecursion (λ ends. IsWonWave (length ends) ends) ends
each_won s ends w h = by_place ends 0 (λ m end at. let z : 0 + m ≡ m = omega arith in subst (λ k. IsWonWave (length (tasks_in s k)) end) (sym z) (h.each m end at))
  where
    by_place : (some : List (List TaskEnd)) (n : ℕ) → ((m : ℕ) (end : List TaskEnd) → slice_get some m ≡ Some end → IsWonWave (length (tasks_in s (n + m))) end)
        → AllByRecursion (λ ends. IsWonWave (length ends) ends) some
    by_place [] n g = tt
    by_place (end ∷ some) n g =
        let here = g 0 end refl in (
          subst (λ c. IsWonWave c end) (sym here.count) here,
          by_place some (n + 1) (λ m e at. let z : n + suc m ≡ n + 1 + m = omega arith in subst (λ k. IsWonWave (length (tasks_in s k)) e) z (g (suc m) e at)),
        )

-- ---- the waves of stages

pub waves_end : (limit : ℕ) (s : Stages) (ends : List (List TaskEnd)) (found : StagesFault) → HasFailed limit s ends found → WavesEnd limit s ends (stages_fault_of found)
waves_end limit s ends (stages.TaskFailed wave task failed) h = h
waves_end limit s ends stages.OutOfMemory h = h

some_fault : {f : RunFault} → Some f ≡ None → ⊥
some_fault e = cc

module _ {H : Type 0} (inputs : H → Option (List Input)) (faults : H → ℕ) (begun : H → Option (List Attempt)) (limit : ℕ) (old new : List H) (ends : List (List TaskEnd))
    (same : map inputs new ≡ map inputs old) (failures : sum_by faults old + sum_by failures_in ends ≤ sum_by faults new) where
  pub worked_all : (s : Stages) → WavesBegun 0 ends (crew_of faults begun old) (crew_of faults begun new) → AreWon s ends (length (heads s.plan)) → HaveWorked inputs faults begun limit old new ends None
  worked_all s told won = record {
    same = same;
    failures = failures;
    told = λ plenty. told;
    blamed = λ wave task failed is. absurd (done_no_task wave task failed is);
    committed = λ _. each_won s ends (length (heads s.plan)) won;
  }

  pub worked_fault : (s : Stages) (found : StagesFault) → HasFailed limit s ends found → FaultBegun ends (crew_of faults begun old) (crew_of faults begun new) found
      → HaveWorked inputs faults begun limit old new ends (Some (stages_fault_of found))
  worked_fault s (stages.TaskFailed w t f) h told = record {
    same = same;
    failures = failures;
    told = λ plenty. told;
    blamed = λ wave task failed is.
        let same_wave : w ≡ wave = cc in
        let same_task : t ≡ task = cc in
        let same_failed : f ≡ failed = cc in
        subst (λ n. ShowsFailure limit ends n task failed) same_wave (subst (λ n. ShowsFailure limit ends w n failed) same_task
        (subst (λ n. ShowsFailure limit ends w t n) same_failed (shows_failure limit s ends w t f h)));
    committed = λ done. absurd (some_fault done);
  }
  worked_fault s stages.OutOfMemory h told = record {
    same = same;
    failures = failures;
    told = λ plenty. absurd (plenty refl);
    blamed = λ wave task failed is. absurd (memory_no_task fault.OutOfMemory refl wave task failed is);
    committed = λ done. absurd (some_fault done);
  }

-- no wave was run
pub none_won : (s : Stages) (ends : List (List TaskEnd)) → ends ≡ [] → HaveWon s ends
none_won s ends none = record {
  waves = 0;
  within = omega arith;
  won = record { count = ap length none; each = λ v end at. absurd (nothing v end (ap (λ es. slice_get es v) (sym none) ∙ at)) };
}
  where
    nothing : (v : ℕ) (end : List TaskEnd) → slice_get [] v ≡ Some end → ⊥
    nothing zero end e = cc
    nothing (suc v) end e = cc

-- waves that are all won are the first ones
pub won_all : {s : Stages} {ends : List (List TaskEnd)} → AreWon s ends (length (heads s.plan)) → HaveWon s ends
won_all {s} h = record { waves = length (heads s.plan); within = omega arith; won = h }

-- hosts that were lent as a slice
pub lent_back : {X : Type 0} (old new : List X) (n : ℕ) → n ≡ length old → length new ≡ length old → take n (new ++ drop (length new) old) ≡ new
lent_back old new n is same = ap (λ m. take m (new ++ drop (length new) old)) (is ∙ sym same) ∙ take-append_seam new (drop (length new) old)

-- what is said of hosts that are lent as a slice, said of the hosts themselves
pub record HaveOwn {H : Type 0} (inputs : H → Option (List Input)) (faults : H → ℕ) (begun : H → Option (List Attempt)) (words : List (List ℕ)) (own new : List H)
    (waves : List (List TaskEnd)) (answer : Option RunFault) : Type 0 where
  pub worked : HostsHaveWorked inputs faults begun (line_of own words) own new waves answer
  pub same : map inputs new ≡ map inputs own
  pub back : (n : ℕ) → n ≡ length own → take n (new ++ drop (length new) own) ≡ new

pub own_hosts : {H : Type 0} (inputs : H → Option (List Input)) (faults : H → ℕ) (begun : H → Option (List Attempt)) (words : List (List ℕ)) (lent own new : List H) (n : ℕ)
    (waves : List (List TaskEnd)) (answer : Option RunFault) → lent ≡ own → n ≡ length own
    → HostsHaveWorked inputs faults begun (record { hosts = n; words = words }) lent new waves answer → HaveOwn inputs faults begun words own new waves answer
own_hosts inputs faults begun words lent own new n waves answer slice count h =
    let over = subst (λ hosts. HostsHaveWorked inputs faults begun (record { hosts = n; words = words }) hosts new waves answer) slice h in
    let worked = subst (λ m. HostsHaveWorked inputs faults begun (record { hosts = m; words = words }) own new waves answer) count over in
    let same = all_inputs inputs faults begun (line_of own words) own new waves answer worked in
    let many = sym (length-map new inputs) ∙ ap length same ∙ length-map own inputs in
    record { worked = worked; same = same; back = λ m is. lent_back own new m is many }
