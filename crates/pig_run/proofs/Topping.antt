-- From a run, and from what the console made of its text, to what the top call says.
use Rattle.std.proofs.Common.{◌≡◌, ◌<◌, ◌≤◌, ◌+◌, ◌++◌, ◌&&◌, ℕ, Bool, if◌then◌else◌, zero, suc, List, [], ◌∷◌, take, Option, Some, None, Result, Ok, Err, MatchResult, IfErr, refl, sym, ◌∙◌, ap, subst, arith, inl, inr, ◌⊎◌}
use Rattle.std.specs.List.{sum_by}
use Rattle.std.proofs.lemmas.List.Sums.{sum_by-cons}
use Rattle.pig_value.specs.declared.inputs.Input.{Input}
use Rattle.pig_value.specs.declared.outcomes.Kept.{Kept}
use Rattle.pig_outside.specs.Calls.{Attempt, DepotCall}
use Rattle.pig_outside.specs.Shelf.{Shelf}
use Rattle.pig_board.specs.End.{end_of}
use Rattle.pig_board.specs.declared.end.TaskEnd.{TaskEnd}
use Rattle.pig_pool.specs.Wave.{failures_in}
use Rattle.pig_run.specs.declared.outcome.Outcome.{Outcome}
use Rattle.pig_run.specs.declared.outcome.RunFault.{RunFault}
use Rattle.pig_run.specs.declared.outcome.RunFault.TheVariants as fault
use Rattle.pig_run.specs.declared.progress.Progress.{Progress}
use Rattle.pig_run.specs.Blame.{BlamesTask, CommitsEach, HaveWorked, HostsHaveWorked}
use Rattle.pig_run.specs.Due.{HasWords, IsDue, Line, Stage}
use Rattle.pig_run.specs.Ends.{Console, Ends, Fails, Shown, assert_failed, counts_shown, cut_short, done, failed, is_unmet, is_wanting, kept_shown, lookup_failed, no_memory, no_memory_at, no_memory_behind, no_memory_in, no_text, no_text_cut, no_text_failed, printed, refused, shows, store_failed, task_failed, unshown}
use Rattle.pig_run.specs.Outputs.{IsLost, Left}
use Rattle.pig_run.specs.Reading.{Run, Verdict}
use Rattle.pig_run.specs.Refusals.{by_depot, cause_of}
use Rattle.pig_run.specs.Running.{RunEnd, RunTold, counts_in, end_text, found_in, kept_in, left_in}
use Rattle.pig_run.specs.Steps.{DepotCause, SaysWords, StoreBlame}
use Rattle.pig_run.specs.Texts.{answer_text, fault_text}
use Rattle.pig_run.specs.Told.{CountsAre, HaveFailed, IsCaused, IsRight, Seen, Told, all_done, most_lost, unmet}
use Rattle.pig_run.proofs.Deciding.{just}

-- ---- faults by their causes

depot_of : (f : RunFault) (store : Option ℕ) → cause_of f ≡ by_depot store → f ≡ fault.DepotFault store
depot_of fault.Usage store e = absurd (cc)
depot_of fault.NoScript store e = absurd (cc)
depot_of (fault.Param offset) store e = absurd (cc)
depot_of (fault.Lex offset) store e = absurd (cc)
depot_of (fault.Syntax n) store e = absurd (cc)
depot_of (fault.Check n kind) store e = absurd (cc)
depot_of (fault.NoInput path) store e = absurd (cc)
depot_of (fault.OutputExists dir) store e = absurd (cc)
depot_of (fault.DepotFault other) store e = let same : other ≡ store = cc in ap fault.DepotFault same
depot_of (fault.TaskFailed wave task times) store e = absurd (cc)
depot_of (fault.AssertFailed n) store e = absurd (cc)
depot_of fault.OutOfMemory store e = absurd (cc)
depot_of fault.ConsoleFault store e = absurd (cc)
depot_of (fault.TooLarge which) store e = absurd (cc)

caused : (old new : Seen) (result : Result (List ℕ) RunFault) → DepotCause old.depot_faults new.depot_faults result → IsCaused (found_in result) old new
caused old new (Ok text) depot = tt
caused old new (Err f) depot = λ store is. depot.failed store (ap Err (depot_of f store is))

-- ---- a task that failed

pub sum_joined : {X : Type 0} (f : X → ℕ) (xs : List X) (x : X) → sum_by f (xs ++ x ∷ []) ≡ sum_by f xs + f x
sum_joined f [] x = let e = sum_by-cons f x [] in omega (arith, e)
sum_joined f (y ∷ xs) x =
    let a = sum_by-cons f y (xs ++ x ∷ []) in
    let b = sum_by-cons f y xs in
    let more = sum_joined f xs x in
    omega (arith, a, b, more)

-- the failures of a wave are no fewer than those of one task
pub one_of : (ends : List TaskEnd) (t : ℕ) → (end_of ends t).failed ≤ failures_in ends
one_of [] zero = omega arith
one_of [] (suc t) = omega arith
one_of (e ∷ ends) zero = let a = sum_by-cons (λ e. e.failed) e ends in omega (arith, a)
one_of (e ∷ ends) (suc t) =
    let a = sum_by-cons (λ e. e.failed) e ends in
    let rest = one_of ends t in
    omega (arith, a, rest)

-- so a task is given up only where the hosts failed as often
enough_lost : (run : Run) (s : Shelf) (wave task times before now : ℕ) (left : Left) → IsLost run s wave task times left → before + sum_by failures_in left.waves ≤ now → before + run.limit ≤ now
enough_lost run s wave task times before now left is rise =
    let up = is.given_up in
    let least = up.failing.least in
    let sums = ap (sum_by failures_in) up.are ∙ sum_joined failures_in up.before up.last in
    let one = one_of up.last task in
    let many = least.failed in
    omega (arith, rise, sums, one, many)

-- ---- what is right

found_right : (tells : Type 0) (s : Shelf) (left : Left) (old new : Seen) (v : Verdict) (found : Option RunFault) → Ends tells s left v found → IsCaused found old new
    → old.host_faults + sum_by failures_in left.waves ≤ new.host_faults → ¬ HaveFailed (most_lost v) old new → IsRight v found ⊎ (found ≡ Some fault.OutOfMemory)
found_right tells s left old new _ _ (refused names is) cause rise sound = inl names
found_right tells s left old new _ _ (shows is) cause rise sound = inl refl
found_right tells s left old new v _ (lookup_failed is) cause rise sound = absurd (sound (inl (cause None refl)))
found_right tells s left old new _ _ (task_failed {run = r} {wave = w} {task = t} {failed = f} is) cause rise sound =
    absurd (sound (inr (inl (enough_lost r s w t f old.host_faults new.host_faults left is rise))))
found_right tells s left old new _ _ (assert_failed is) cause rise sound = inl unmet
found_right tells s left old new _ _ (store_failed {n = n} is) cause rise sound = absurd (sound (inl (cause (Some n) refl)))
found_right tells s left old new _ _ (done is) cause rise sound = inl all_done
found_right tells s left old new v _ (no_memory is) cause rise sound = inr refl
found_right tells s left old new _ _ (no_memory_in is) cause rise sound = inr refl
found_right tells s left old new _ _ (no_memory_at is) cause rise sound = inr refl
found_right tells s left old new _ _ (no_memory_behind is) cause rise sound = inr refl

shown_right : (v : Verdict) (text : List ℕ) (many : ℕ) (old new : Seen) (found final : Option RunFault) → Shown text old.console new.console found final → ¬ HaveFailed many old new
    → IsRight v found ⊎ (found ≡ Some fault.OutOfMemory) → IsRight v final ⊎ (final ≡ Some fault.OutOfMemory)
shown_right v text many old new found _ (printed sound is) none right = right
shown_right v text many old new found _ (failed fails is) none right = absurd (none (inr (inr fails)))
shown_right v text many old new found _ (cut_short sound is) none right = inr refl
shown_right v text many old new found _ (no_text sound is) none right = inr refl
shown_right v text many old new found _ (no_text_failed fails is) none right = inr refl
shown_right v text many old new found _ (no_text_cut sound is) none right = inr refl

text_is : (stage : Stage) (s : Shelf) (tells : Type 0) (old new : Seen) (progress : Progress) (result : Result (List ℕ) RunFault) (r : RunEnd stage s tells old.calls new.calls new.shelf progress result)
    → end_text progress.said.items result ≡ answer_text r.verdict r.outs (counts_in progress) (found_in result)
text_is stage s tells old new progress (Ok text) r = r.text
text_is stage s tells old new progress (Err f) r = ap (λ said. fault_text said f) r.said_is

abbrev hide : List Kept → Bool → List Kept
hide kept hidden = if hidden then [] else kept

-- what was kept, as the steps of the call tell of it
pub kept_answered : (found answer : Option RunFault) (ended hidden : Bool) (kept shown : List Kept) → ended ≡ is_unmet found → hidden ≡ (ended && is_wanting answer)
    → shown ≡ (if hidden then [] else kept) → shown ≡ kept_shown found answer kept
kept_answered found answer ended hidden kept shown is also stands = stands ∙ ap (hide kept) (also ∙ ap (λ b. b && is_wanting answer) is)

pub told_all : (line : Line) (s : Shelf) (tells : Type 0) (old new : Seen) (outcome : Outcome) (progress : Progress) (result : Result (List ℕ) RunFault)
    → RunEnd (IsDue line s) s tells old.calls new.calls new.shelf progress result
    → Shown (end_text progress.said.items result) old.console new.console (found_in result) outcome.fault → outcome.kept ≡ kept_shown (found_in result) outcome.fault (kept_in progress) → outcome.waves ≡ progress.ends
    → outcome.counts ≡ counts_shown outcome.fault (counts_in progress) → DepotCause old.depot_faults new.depot_faults result
    → old.host_faults + sum_by failures_in progress.ends ≤ new.host_faults → Told line s tells old new outcome
told_all line s tells old new outcome progress result r shown kept waves counts depot rise =
    let cause = caused old new result depot in
    let left_is : left_in r.outs progress new.shelf ≡ record { outs = r.outs; kept = kept_in progress; waves = outcome.waves; shelf = new.shelf } =
    λ i. record { outs = r.outs; kept = kept_in progress; waves = sym waves i; shelf = new.shelf } in
    record {
      verdict = r.verdict;
      calls = r.calls;
      due = r.due;
      found = found_in result;
      outs = r.outs;
      kept = kept_in progress;
      counts = counts_in progress;
      state = subst (λ left. Ends tells s left r.verdict (found_in result)) left_is r.state;
      cause = cause;
      asked = r.asked;
      numbers = subst (λ left. CountsAre tells r.verdict s left (counts_in progress) (found_in result)) left_is r.numbers;
      text = subst (λ t. Shown t old.console new.console (found_in result) outcome.fault) (text_is (IsDue line s) s tells old new progress result r) shown;
      counted = counts;
      stands = kept;
      complete = λ none. shown_right r.verdict (end_text progress.said.items result) (most_lost r.verdict) old new (found_in result) outcome.fault shown none
          (found_right tells s (left_in r.outs progress new.shelf) old new r.verdict (found_in result) r.state cause rise none);
    }

-- what a run told of each end
pub run_told : (stage : Stage) (s : Shelf) (tells : Type 0) (old new : Option (List DepotCall)) (shelf : Option Shelf) (progress : Progress) (result : Result (List ℕ) RunFault)
    → RunTold stage s tells old new shelf progress result → RunEnd stage s tells old new shelf progress result
run_told stage s tells old new shelf progress (Ok text) h = h
run_told stage s tells old new shelf progress (Err f) h = h

-- ---- the causes of what is answered

-- an answer is want of memory, that of the console, or what was found
pub answered : (text : List ℕ) (old new : Console) (found final : Option RunFault) → Shown text old new found final → (f : RunFault) → final ≡ Some f
    → (f ≡ fault.OutOfMemory) ⊎ ((f ≡ fault.ConsoleFault) × Fails old new) ⊎ (found ≡ Some f)
answered text old new found _ (printed sound is) f e = inr (inr e)
answered text old new None _ (failed fails is) f e = inr (inl (sym (just e), fails))
answered text old new (Some g) _ (failed fails is) f e = inr (inr e)
answered text old new found _ (cut_short sound is) f e = inl (sym (just e))
answered text old new found _ (no_text sound is) f e = inl (sym (just e))
answered text old new found _ (no_text_failed fails is) f e = inl (sym (just e))
answered text old new found _ (no_text_cut sound is) f e = inl (sym (just e))

found_fault : (result : Result (List ℕ) RunFault) (f : RunFault) → found_in result ≡ Some f → result ≡ Err f
found_fault (Ok text) f e = absurd (cc)
found_fault (Err g) f e = ap Err (just e)

pub answers_none : (text : List ℕ) (old new : Console) (found final : Option RunFault) → Shown text old new found final → Fails old new → ¬ (final ≡ None)
answers_none text old new found _ (printed sound is) fails e = sound fails
answers_none text old new found _ (failed more is) fails e = absurd (cc)
answers_none text old new found _ (cut_short sound is) fails e = absurd (cc)
answers_none text old new found _ (no_text sound is) fails e = absurd (cc)
answers_none text old new found _ (no_text_failed more is) fails e = absurd (cc)
answers_none text old new found _ (no_text_cut sound is) fails e = absurd (cc)

-- wrong words, or want of memory, as they are answered
as_shown : (text : List ℕ) (old new : Console) (found final : Option RunFault) → Shown text old new found final → (f : RunFault) → found ≡ Some f → (f ≡ fault.Usage) ⊎ (f ≡ fault.OutOfMemory)
    → (final ≡ Some fault.Usage) ⊎ (final ≡ Some fault.OutOfMemory)
as_shown text old new found _ (printed sound is) f e (inl u) = inl (e ∙ ap Some u)
as_shown text old new found _ (printed sound is) f e (inr m) = inr (e ∙ ap Some m)
as_shown text old new found _ (failed fails is) f e (inl u) = inl (ap (λ o. Some (unshown o)) e ∙ ap Some u)
as_shown text old new found _ (failed fails is) f e (inr m) = inr (ap (λ o. Some (unshown o)) e ∙ ap Some m)
as_shown text old new found _ (cut_short sound is) f e which = inr refl
as_shown text old new found _ (no_text sound is) f e which = inr refl
as_shown text old new found _ (no_text_failed fails is) f e which = inr refl
as_shown text old new found _ (no_text_cut sound is) f e which = inr refl

module _ (text : List ℕ) (old new : Console) (result : Result (List ℕ) RunFault) (final : Option RunFault) (shown : Shown text old new (found_in result) final) where
  -- a fault of neither memory nor the console was the run's
  pub was_found : (f : RunFault) → (f ≡ fault.OutOfMemory → ⊥) → (f ≡ fault.ConsoleFault → ⊥) → final ≡ Some f → result ≡ Err f
  was_found f memory console is = elim (answered text old new (found_in result) final shown f is) [
    | inl e ↦ absurd (memory e)
    | inr (inl e) ↦ absurd (console e.0)
    | inr (inr e) ↦ found_fault result f e
  ]

  pub depot_blamed : (before now : ℕ) → DepotCause before now result → (store : Option ℕ) → final ≡ Some (fault.DepotFault store) → before < now
  depot_blamed before now cause store is = cause.failed store (was_found (fault.DepotFault store) (λ e. absurd (cc)) (λ e. absurd (cc)) is)

  pub store_blamed : (before now : ℕ) → StoreBlame before now result → (store : ℕ) → final ≡ Some (fault.DepotFault (Some store)) → before < now
  store_blamed before now cause store is = cause.store store (was_found (fault.DepotFault (Some store)) (λ e. absurd (cc)) (λ e. absurd (cc)) is)

  pub lookup_blamed : (before now : ℕ) → StoreBlame before now result → final ≡ Some (fault.DepotFault None) → now ≡ before
  lookup_blamed before now cause is = cause.lookup (was_found (fault.DepotFault None) (λ e. absurd (cc)) (λ e. absurd (cc)) is)

  -- the waves are those of the run
  pub blamed_task : (limit : ℕ) (waves : List (List TaskEnd)) → BlamesTask limit (found_in result) waves → BlamesTask limit final waves
  blamed_task limit waves h wave task times is = h wave task times (ap found_in (was_found (fault.TaskFailed wave task times) (λ e. absurd (cc)) (λ e. absurd (cc)) is))

  pub committed : (waves : List (List TaskEnd)) → CommitsEach (found_in result) waves → CommitsEach final waves
  committed waves h none = h (none_found final shown none)
    where
      none_found : (final : Option RunFault) → Shown text old new (found_in result) final → final ≡ None → found_in result ≡ None
      none_found _ (printed sound is) e = e
      none_found _ (failed fails is) e = absurd (cc)
      none_found _ (cut_short sound is) e = absurd (cc)
      none_found _ (no_text sound is) e = absurd (cc)
      none_found _ (no_text_failed fails is) e = absurd (cc)
      none_found _ (no_text_cut sound is) e = absurd (cc)

  module _ {H : Type 0} (inputs : H → Option (List Input)) (faults : H → ℕ) (begun : H → Option (List Attempt)) where
    worked_shown : (limit : ℕ) (before now : List H) (waves : List (List TaskEnd)) → HaveWorked inputs faults begun limit before now waves (found_in result) → HaveWorked inputs faults begun limit before now waves final
    worked_shown limit before now waves h = record {
      same = h.same;
      failures = h.failures;
      told = λ plenty. h.told (λ wanting. plenty (wants_still final shown wanting));
      blamed = blamed_task limit waves h.blamed;
      committed = committed waves h.committed;
    }
      where
        wants_still : (final : Option RunFault) → Shown text old new (found_in result) final → found_in result ≡ Some fault.OutOfMemory → final ≡ Some fault.OutOfMemory
        wants_still _ (printed sound is) e = e
        wants_still _ (failed fails is) e = ap (λ o. Some (unshown o)) e
        wants_still _ (cut_short sound is) e = refl
        wants_still _ (no_text sound is) e = refl
        wants_still _ (no_text_failed fails is) e = refl
        wants_still _ (no_text_cut sound is) e = refl

    pub hosts_shown : (line : Line) (before now : List H) (waves : List (List TaskEnd)) → HostsHaveWorked inputs faults begun line before now waves (found_in result) → HostsHaveWorked inputs faults begun line before now waves final
    hosts_shown line before now waves h = record {
      crew = λ command are. let crew = h.crew command are in record { worked = worked_shown command.attempts (take command.workers before) (take command.workers now) waves crew.worked; idle = crew.idle };
      demo = λ command is. let rested = h.demo command is in record { same = rested.same; none_failed = rested.none_failed; committed = committed waves rested.committed };
      none = h.none;
    }

  pub console_blamed : IfErr result (λ f. f ≡ fault.ConsoleFault → ⊥) → final ≡ Some fault.ConsoleFault → Fails old new
  console_blamed never is = elim (answered text old new (found_in result) final shown fault.ConsoleFault is) [
    | inl e ↦ absurd (cc)
    | inr (inl e) ↦ e.1
    | inr (inr e) ↦ absurd (subst (λ r. IfErr r (λ f. f ≡ fault.ConsoleFault → ⊥)) (found_fault result fault.ConsoleFault e) never refl)
  ]

  pub usage_blamed : (line : Line) → MatchResult result (λ _. HasWords line) (SaysWords line) → final ≡ Some fault.Usage → ¬ HasWords line
  usage_blamed line words is =
      by_words (subst (λ r. MatchResult r (λ _. HasWords line) (SaysWords line)) (was_found fault.Usage (λ e. absurd (cc)) (λ e. absurd (cc)) is) words)
    where
      by_words : SaysWords line fault.Usage → ¬ HasWords line
      by_words (inl h) = h.1
      by_words (inr h) = absurd h.0

  pub off_words : (line : Line) → MatchResult result (λ _. HasWords line) (SaysWords line) → ¬ HasWords line → (final ≡ Some fault.Usage) ⊎ (final ≡ Some fault.OutOfMemory)
  off_words line words none = by_result result refl words
    where
      by_shown : (f : RunFault) → found_in result ≡ Some f → (f ≡ fault.Usage) ⊎ (f ≡ fault.OutOfMemory) → (final ≡ Some fault.Usage) ⊎ (final ≡ Some fault.OutOfMemory)
      by_shown f e which = as_shown text old new (found_in result) final shown f e which

      by_result : (r : Result (List ℕ) RunFault) → r ≡ result → MatchResult r (λ _. HasWords line) (SaysWords line) → (final ≡ Some fault.Usage) ⊎ (final ≡ Some fault.OutOfMemory)
      by_result (Ok t) e h = absurd (none h)
      by_result (Err f) e (inl h) = by_shown f (ap found_in (sym e)) (inl h.0)
      by_result (Err f) e (inr (h, inl words)) = absurd (none words)
      by_result (Err f) e (inr (h, inr wants)) = by_shown f (ap found_in (sym e)) (inr wants)

-- ---- where memory was wanting for the text of a fault

-- what was printed in its place is that of want of memory
pub without_memory : (text : List ℕ) (old new : Console) (f : RunFault) (final : Option RunFault) → Shown (fault_text [] fault.OutOfMemory) old new (Some fault.OutOfMemory) final → Shown text old new (Some f) final
without_memory text old new f _ (printed sound is) = no_text sound is
without_memory text old new f _ (failed fails is) = no_text_failed fails is
without_memory text old new f _ (cut_short sound is) = no_text_cut sound is
without_memory text old new f _ (no_text sound is) = no_text sound is
without_memory text old new f _ (no_text_failed fails is) = no_text_failed fails is
without_memory text old new f _ (no_text_cut sound is) = no_text_cut sound is
