-- What is said where some hosts tell their inputs is said where more of them do.
use Rattle.std.proofs.Common.{ℕ, List, Option, Result}
use Rattle.pig_value.specs.declared.inputs.Input.{Input}
use Rattle.pig_value.specs.declared.outcomes.Kept.{Kept}
use Rattle.pig_outside.specs.Calls.{DepotCall}
use Rattle.pig_outside.specs.Shelf.{Shelf}
use Rattle.pig_commit.specs.declared.parts.StorePart.{StorePart}
use Rattle.pig_plan.specs.Plans.{Plan}
use Rattle.pig_reach.specs.declared.storing.Store.{Store}
use Rattle.pig_run.specs.declared.outcome.Counts.{Counts}
use Rattle.pig_run.specs.declared.outcome.RunFault.{RunFault}
use Rattle.pig_run.specs.declared.progress.Progress.{Progress}
use Rattle.pig_run.specs.Due.{Stage}
use Rattle.pig_run.specs.Ends.{Ends, assert_failed, done, lookup_failed, no_memory, no_memory_at, no_memory_behind, no_memory_in, refused, shows, store_failed, task_failed}
use Rattle.pig_run.specs.Outputs.{AreStored, IsMet, IsStopped, IsUnmet, IsWhole, Left}
use Rattle.pig_run.specs.Reading.{Prints, Refuses, Run, Runs, Verdict, Wants}
use Rattle.pig_run.specs.Running.{RunEnd, counts_in, found_in, left_in}
use Rattle.pig_run.specs.Told.{CountsAre}

module _ (tells others : Type 0) (more : others → tells) where
  stored_told : {plan : Plan} {inputs : List Input} {kept : List Kept} {stores : List Store} {outs : List StorePart} → AreStored tells plan inputs kept stores outs → AreStored others plan inputs kept stores outs
  stored_told h = record { dirs = h.dirs; are = λ t. h.are (more t) }

  met_told : {run : Run} {s : Shelf} {left : Left} → IsMet tells run s left → IsMet others run s left
  met_told h = record { won = h.won; kept = λ t. h.kept (more t); met = λ t. h.met (more t) }

  unmet_told : {run : Run} {s : Shelf} {n : ℕ} {left : Left} → IsUnmet tells run s n left → IsUnmet others run s n left
  unmet_told h = record { unmade = h.unmade; won = h.won; kept = λ t. h.kept (more t); first = λ t. h.first (more t) }

  whole_told : {run : Run} {s : Shelf} {left : Left} → IsWhole tells run s left → IsWhole others run s left
  whole_told h = record { ran = met_told h.ran; stored = stored_told h.stored; made = h.made }

  stopped_told : {run : Run} {s : Shelf} {n : ℕ} {left : Left} → IsStopped tells run s n left → IsStopped others run s n left
  stopped_told h = record {
    ran = met_told h.ran;
    before = h.before;
    store = h.store;
    behind = h.behind;
    are = h.are;
    named = h.named;
    stored = stored_told h.stored;
    opened = h.opened;
  }

  ends_told : (s : Shelf) (left : Left) (v : Verdict) (found : Option RunFault) → Ends tells s left v found → Ends others s left v found
  ends_told s left _ _ (refused names is) = refused names is
  ends_told s left _ _ (shows is) = shows is
  ends_told s left v _ (lookup_failed is) = lookup_failed is
  ends_told s left _ _ (task_failed is) = task_failed is
  ends_told s left _ _ (assert_failed is) = assert_failed (unmet_told is)
  ends_told s left _ _ (store_failed is) = store_failed (stopped_told is)
  ends_told s left _ _ (done is) = done (whole_told is)
  ends_told s left v _ (no_memory is) = no_memory is
  ends_told s left _ _ (no_memory_in is) = no_memory_in is
  ends_told s left _ _ (no_memory_at is) = no_memory_at (stopped_told is)
  ends_told s left _ _ (no_memory_behind is) = no_memory_behind (whole_told is)

  numbers_told : (v : Verdict) (s : Shelf) (left : Left) (counts : Counts) (found : Option RunFault) → CountsAre tells v s left counts found → CountsAre others v s left counts found
  numbers_told (Refuses refusal) s left counts found h = h
  numbers_told (Prints text) s left counts found h = h
  numbers_told Wants s left counts found h = h
  numbers_told (Runs run) s left counts found h = λ e. let k = h e in record { read = λ t. k.read (more t); shuffled = λ t. k.shuffled (more t); stored = k.stored }

  pub end_told : (s : Shelf) (stage : Stage) (old new : Option (List DepotCall)) (shelf : Option Shelf) (progress : Progress) (result : Result (List ℕ) RunFault)
      → RunEnd stage s tells old new shelf progress result → RunEnd stage s others old new shelf progress result
  end_told s stage old new shelf progress result r = record {
    verdict = r.verdict;
    calls = r.calls;
    due = r.due;
    outs = r.outs;
    state = ends_told s (left_in r.outs progress shelf) r.verdict (found_in result) r.state;
    asked = r.asked;
    numbers = numbers_told r.verdict s (left_in r.outs progress shelf) (counts_in progress) (found_in result) r.numbers;
    text = r.text;
    said_is = r.said_is;
  }
