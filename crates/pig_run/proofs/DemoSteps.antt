-- From how the demonstration's run ended to what is said of it.
use Rattle.std.proofs.Common.{◌≡◌, ◌<◌, ◌≤◌, ◌^◌, ◌⊎◌, ℕ, Bool, true, false, true≢false, ◌&&◌, if◌then◌else◌, List, [], ◌∷◌, map, take, get_or, Option, Some, None, Result, Ok, Err, IfErr, MatchResult, All, refl, sym, ◌∙◌, ap, subst, arith, rules, inl, inr}
use Rattle.std.specs.Char.{is_ascii_digit}
use Rattle.std.specs.List.{AllByRecursion, list_all, sum_by}
use Rattle.std.specs.Option.{ForSome}
use Rattle.std.specs.Str.Parse.{ParsesUnsigned, digits_value}
use Rattle.std.proofs.lemmas.List.Sums.{sum_by-cons}
use Rattle.std.proofs.lemmas.Result.{IfErr-weaker}
use Rattle.std.proofs.lemmas.Str.Parse.{IsDigitsTest, IsNumeralModel, numerals_by_value, parse_gives}
use Rattle.pig_value.specs.declared.inputs.Input.{Input}
use Rattle.pig_value.specs.declared.outcomes.Kept.{Kept}
use Rattle.pig_outside.specs.Calls.{Attempt, DepotCall}
use Rattle.pig_outside.specs.Memory.{depot_shelf, host_inputs, told_calls, told_inputs, told_shelf}
use Rattle.pig_outside.specs.Shelf.{Shelf}
use Rattle.pig_outside.specs.declared.memory_depot.MemoryDepot.{MemoryDepot}
use Rattle.pig_outside.specs.declared.memory_host.MemoryHost.{MemoryHost}
use Rattle.pig_demo.specs.Scene.{demo_inputs, demo_shelf, script_path}
use Rattle.pig_demo.proofs.VisitLaws.{visits_are_bytes}
use Rattle.pig_board.specs.declared.end.TaskEnd.{TaskEnd}
use Rattle.pig_pool.specs.Wave.{failures_in}
use Rattle.pig_words.specs.CommandWords.{IsCount}
use Rattle.pig_words.specs.declared.words.Command.{Command}
use Rattle.pig_run.specs.declared.outcome.Outcome.{Outcome}
use Rattle.pig_run.specs.declared.outcome.RunFault.{RunFault}
use Rattle.pig_run.specs.declared.outcome.RunFault.TheVariants as fault
use Rattle.pig_run.specs.declared.outcome.TooLarge.TheVariants as large
use Rattle.pig_run.specs.declared.progress.Progress.{Progress}
use Rattle.pig_run.specs.Blame.{CrewHasWorked, HaveWorked}
use Rattle.pig_run.specs.Demonstration.{DemoDue, Demoed, IsDemoAnswer, demo_answer, demo_text, script_run, shelf_of, visits_of}
use Rattle.pig_run.specs.OwnRun.{DemoEnd, IsDemoFault}
use Rattle.pig_run.specs.Due.{CommandDue, HasWords, IsDemo, Line, ScriptDue, given_by}
use Rattle.pig_run.specs.Ends.{Console, Ends, Shown, assert_failed, counts_shown, cut_short, done, failed, is_unmet, is_wanting, kept_shown, lookup_failed, no_memory, no_memory_at, no_memory_behind, no_memory_in, no_text, no_text_cut, no_text_failed, printed, refused, shows, store_failed, task_failed}
use Rattle.pig_run.specs.Outputs.{Left}
use Rattle.pig_run.specs.Reading.{Verdict}
use Rattle.pig_run.specs.Running.{IsFresh, IsUsable, RunEnd, RunTold, counts_in, end_text, found_in, kept_in, left_in}
use Rattle.pig_run.specs.Steps.{DepotCause, IsLaterFault, StoreBlame}
use Rattle.pig_run.specs.Texts.{fault_text}
use Rattle.pig_run.specs.Told.{CountsAre, CrewTells, IsRight, TellsInputs, TellsOf, all_done, unmet}
use Rattle.pig_run.proofs.Blaming.{IsNoDepot, no_blame, no_cause}
use Rattle.pig_run.proofs.Crews.{IsNoTask, tell_each, tell_first}
use Rattle.pig_run.proofs.Deciding.{IsSome, just, some_command_due, some_script}
use Rattle.pig_run.proofs.Ending.{no_numbers, untouched}
use Rattle.pig_run.proofs.Readings.{PlanLaws}
use Rattle.pig_run.proofs.Telling.{end_told}
use Rattle.pig_run.proofs.Topping.{one_of, run_told, sum_joined}

-- ---- the number of visits

abbrev AreDigits : List ℕ → Type 0
AreDigits ds = list_all is_ascii_digit ds ≡ true

tests_digits : IsDigitsTest AreDigits
tests_digits = search rules

own : IsNumeralModel AreDigits (digits_value 10)
own = numerals_by_value AreDigits tests_digits

pub count_parsed : {E : Type 0} (word : List ℕ) (r : Result ℕ E) → ParsesUnsigned 32 10 word r → IsCount word → r ≡ Ok (digits_value 10 word)
count_parsed word r h count =
    let few = count.few in
    let fits : digits_value 10 word < 2 ^ 32 = omega (arith, few) in
    parse_gives own 32 word r h count.value.digits count.value.some fits

-- ---- no attempt fails where no host does

no_faults : {H : Type 0} (hosts : List H) → sum_by (λ _. 0) hosts ≡ 0
no_faults [] = refl
no_faults (host ∷ hosts) = let a = sum_by-cons (λ _. 0) host hosts in let rest = no_faults hosts in omega (arith, a, rest)

module _ {H : Type 0} (inputs : H → Option (List Input)) (begun : H → Option (List Attempt)) (limit : ℕ) (old new : List H) (waves : List (List TaskEnd)) (answer : Option RunFault)
    (h : HaveWorked inputs (λ _. 0) begun limit old new waves answer) where
  pub none_failed : sum_by failures_in waves ≡ 0
  none_failed =
      let a = no_faults old in
      let b = no_faults new in
      let rise = h.failures in
      omega (arith, a, b, rise)

  pub no_task : 1 ≤ limit → IsNoTask answer
  no_task some wave task times is =
      let shows = h.blamed wave task times is in
      let sums = ap (sum_by failures_in) shows.are ∙ sum_joined failures_in shows.before shows.last in
      let one = one_of shows.last task in
      let shown = shows.shown in
      let enough = shows.enough in
      let none = none_failed in
      omega (arith, some, sums, one, shown, enough, none)

-- ---- what the hosts tell

tell_here : (shelf : Shelf) (n : ℕ) → shelf ≡ demo_shelf n → (host : MemoryHost) → host_inputs host ≡ demo_inputs n → TellsOf (Some shelf) (told_inputs host)
tell_here shelf n is host inputs told same = ap (λ s. Some s.inputs) is ∙ ap Some (sym inputs) ∙ same

pub hosts_tell_of : (shelf : Shelf) (n : ℕ) → shelf ≡ demo_shelf n → (hosts : List MemoryHost) → All (λ host. host_inputs host ≡ demo_inputs n) hosts
    → AllByRecursion (TellsOf (Some shelf)) (map told_inputs hosts)
hosts_tell_of shelf n is hosts each = tell_each (TellsOf (Some shelf)) told_inputs hosts (λ k d less. tell_here shelf n is (get_or hosts k d) (each k d less))

pub crew_tells : (n k : ℕ) (hosts : List MemoryHost) → All (λ host. host_inputs host ≡ demo_inputs n) hosts → AllByRecursion TellsInputs (map told_inputs (take k hosts))
crew_tells n k hosts each =
    tell_first TellsInputs told_inputs k hosts (tell_each TellsInputs told_inputs hosts (λ i d less. (demo_inputs n, ap Some (each i d less), ((visits_are_bytes n, tt), tt))))

-- ---- the numbers of the command

pub fewer_hosts : (hosts : ℕ) (command : Command) → hosts ≤ 256 → IsUsable hosts command → IsUsable 256 command
fewer_hosts hosts command few is = let most = is.workers.1 in record { workers = (is.workers.0, omega (arith, few, most)); reducers = is.reducers; split = is.split; attempts = is.attempts }

pub own_number : (hosts : ℕ) (command : Command) → hosts ≡ command.workers → IsUsable 256 command → IsUsable hosts (script_run command)
own_number hosts command is usable = record { workers = (usable.workers.0, omega (arith, is)); reducers = usable.reducers; split = usable.split; attempts = usable.attempts }

-- ---- answers

pub answer_is : (ended : Option RunFault) → IsDemoAnswer (demo_answer ended)
answer_is None = tt
answer_is (Some (fault.TooLarge large.Tasks)) = tt
answer_is (Some (fault.TooLarge large.Script)) = tt
answer_is (Some (fault.TooLarge large.Statements)) = tt
answer_is (Some (fault.TooLarge large.Depth)) = tt
answer_is (Some (fault.TooLarge large.Input)) = tt
answer_is (Some fault.Usage) = tt
answer_is (Some fault.NoScript) = tt
answer_is (Some (fault.Param offset)) = tt
answer_is (Some (fault.Lex offset)) = tt
answer_is (Some (fault.Syntax n)) = tt
answer_is (Some (fault.Check n kind)) = tt
answer_is (Some (fault.NoInput path)) = tt
answer_is (Some (fault.OutputExists dir)) = tt
answer_is (Some (fault.DepotFault store)) = tt
answer_is (Some (fault.TaskFailed wave task times)) = tt
answer_is (Some (fault.AssertFailed n)) = tt
answer_is (Some fault.OutOfMemory) = tt
answer_is (Some fault.ConsoleFault) = tt

-- which faults these are
pub later_fault : (f : RunFault) → IsDemoFault f → IsLaterFault f
later_fault f (inl is) = subst IsLaterFault (sym is) (tt, λ e. cc)
later_fault f (inr is) = subst IsLaterFault (sym is) (tt, λ e. cc)

no_depot : (f : RunFault) → IsDemoFault f → IsNoDepot f
no_depot f (inl is) = λ store e. let wrong : fault.OutOfMemory ≡ fault.DepotFault store = sym is ∙ e in cc
no_depot f (inr is) = λ store e. let wrong : fault.TooLarge large.Tasks ≡ fault.DepotFault store = sym is ∙ e in cc

-- the depot that was handed in is not blamed
pub demo_cause : {T : Type 0} (n : ℕ) (result : Result T RunFault) → IfErr result IsDemoFault → DepotCause n n result
demo_cause n result h = no_cause n result (IfErr-weaker result IsDemoFault IsNoDepot (λ f is. no_depot f is) h)

pub demo_blame : {T : Type 0} (n : ℕ) (result : Result T RunFault) → IfErr result IsDemoFault → StoreBlame n n result
demo_blame n result h = no_blame n result (IfErr-weaker result IsDemoFault IsNoDepot (λ f is. no_depot f is) h)

-- ---- how the run ended

run_right : (tells : Type 0) (s : Shelf) (left : Left) (v : Verdict) (found : Option RunFault) → Ends tells s left v found → ((store : Option ℕ) → ¬ (found ≡ Some (fault.DepotFault store)))
    → IsNoTask found → IsRight v found ⊎ (found ≡ Some fault.OutOfMemory)
run_right tells s left _ _ (refused names is) depot task = inl names
run_right tells s left _ _ (shows is) depot task = inl refl
run_right tells s left v _ (lookup_failed is) depot task = absurd (depot None refl)
run_right tells s left _ _ (task_failed {wave = w} {task = t} {failed = f} is) depot task = absurd (task w t f refl)
run_right tells s left _ _ (assert_failed is) depot task = inl unmet
run_right tells s left _ _ (store_failed {n = n} is) depot task = absurd (depot (Some n) refl)
run_right tells s left _ _ (done is) depot task = inl all_done
run_right tells s left v _ (no_memory is) depot task = inr refl
run_right tells s left _ _ (no_memory_in is) depot task = inr refl
run_right tells s left _ _ (no_memory_at is) depot task = inr refl
run_right tells s left _ _ (no_memory_behind is) depot task = inr refl

-- memory was wanting behind it
wants_behind : (tells : Type 0) (s : Shelf) (left : Left) (v : Verdict) → Ends tells s left v None → Ends tells s left v (Some fault.OutOfMemory)
wants_behind tells s left _ (shows is) = no_memory is
wants_behind tells s left _ (done is) = no_memory_behind is

no_depot_found : {T : Type 0} (ran : Result T RunFault) → DepotCause 0 0 ran → (store : Option ℕ) → ¬ (found_in ran ≡ Some (fault.DepotFault store))
no_depot_found (Ok x) cause store e = cc
no_depot_found (Err f) cause store e = let rise = cause.failed store (ap Err (just e)) in omega (arith, rise)

module _ (laws : PlanLaws) (command : Command) where
  some_demo : IsSome (DemoDue command)
  some_demo =
      let run = script_run command in
      let shelf = shelf_of command in
      some_script laws [] script_path shelf (CommandDue run shelf) (some_command_due run tt shelf)

  -- memory was wanting before it began
  pub demo_unbegun : (progress : Progress) → IsFresh progress → (f : RunFault) → f ≡ fault.OutOfMemory → DemoEnd command progress (Err f)
  demo_unbegun progress fresh f is =
      let due = some_demo in
      let shelf = shelf_of command in
      record {
        verdict = due.1;
        calls = due.0;
        due = due.2;
        ended = Some fault.OutOfMemory;
        outs = [];
        shelf = shelf;
        state = no_memory (untouched shelf (Some shelf) progress refl fresh);
        right = inr refl;
        numbers = no_numbers (Unit {0}) due.1 shelf (left_in [] progress (Some shelf)) (counts_in progress) fault.OutOfMemory;
        answer = ap Some is;
        text = tt;
        silent = fresh.said;
      }

  -- it was made, over devices that never fail; what is said behind the line of a fault is taken back
  module _ (tells : Type 0) (tell : tells) (old new : Option (List DepotCall)) (shelf : Shelf) (before progress : Progress) (ran : Result (List ℕ) RunFault)
      (told : RunEnd (DemoDue command) (shelf_of command) tells old new (Some shelf) before ran)
      (cause : DepotCause 0 0 ran) (task : IsNoTask (found_in ran)) (same : progress ≡ record before { said = progress.said }) (silent : progress.said.items ≡ []) where
    end : RunEnd (DemoDue command) (shelf_of command) (Unit {0}) old new (Some shelf) before ran
    end = end_told tells (Unit {0}) (λ _. tell) (shelf_of command) (DemoDue command) old new (Some shelf) before ran told

    left : Left
    left = left_in end.outs progress (Some shelf)

    left_is : left_in end.outs before (Some shelf) ≡ left_in end.outs progress (Some shelf)
    left_is = ap (λ p. left_in end.outs p (Some shelf)) (sym same)

    counts_are : counts_in before ≡ counts_in progress
    counts_are = ap counts_in (sym same)

    state : Ends (Unit {0}) (shelf_of command) (left_in end.outs progress (Some shelf)) end.verdict (found_in ran)
    state = subst (λ l. Ends (Unit {0}) (shelf_of command) l end.verdict (found_in ran)) left_is end.state

    numbers : CountsAre (Unit {0}) end.verdict (shelf_of command) (left_in end.outs progress (Some shelf)) (counts_in progress) (found_in ran)
    numbers = subst (λ l. CountsAre (Unit {0}) end.verdict (shelf_of command) l (counts_in progress) (found_in ran)) left_is
        (subst (λ c. CountsAre (Unit {0}) end.verdict (shelf_of command) (left_in end.outs before (Some shelf)) c (found_in ran)) counts_are end.numbers)

    right : IsRight end.verdict (found_in ran) ⊎ (found_in ran ≡ Some fault.OutOfMemory)
    right = run_right (Unit {0}) (shelf_of command) (left_in end.outs progress (Some shelf)) end.verdict (found_in ran) state (no_depot_found ran cause) task

    -- it ended badly
    pub demo_ended : (f g : RunFault) → ran ≡ Err f → Some g ≡ demo_answer (Some f) → DemoEnd command progress (Err g)
    demo_ended f g is answer = record {
      verdict = end.verdict;
      calls = end.calls;
      due = end.due;
      ended = found_in ran;
      outs = end.outs;
      shelf = shelf;
      state = state;
      right = right;
      numbers = numbers;
      answer = answer ∙ ap (λ r. demo_answer (found_in r)) (sym is);
      text = tt;
      silent = silent;
    }

    -- it ended well, and what it stored is printed, unless memory is wanting for that
    pub demo_done : (text : List ℕ) → ran ≡ Ok text → (result : Result (List ℕ) RunFault)
        → MatchResult result (λ out. out ≡ demo_text shelf (counts_in progress) None) (λ f. f ≡ fault.OutOfMemory) → DemoEnd command progress result
    demo_done text is (Ok out) h = record {
      verdict = end.verdict;
      calls = end.calls;
      due = end.due;
      ended = found_in ran;
      outs = end.outs;
      shelf = shelf;
      state = state;
      right = right;
      numbers = numbers;
      answer = ap (λ r. demo_answer (found_in r)) (sym is);
      text = h;
      silent = silent;
    }
    demo_done text is (Err f) h = record {
      verdict = end.verdict;
      calls = end.calls;
      due = end.due;
      ended = Some fault.OutOfMemory;
      outs = end.outs;
      shelf = shelf;
      state = wants_behind (Unit {0}) (shelf_of command) (left_in end.outs progress (Some shelf)) end.verdict
          (subst (λ r. Ends (Unit {0}) (shelf_of command) (left_in end.outs progress (Some shelf)) end.verdict (found_in r)) is state);
      right = inr refl;
      numbers = no_numbers (Unit {0}) end.verdict (shelf_of command) (left_in end.outs progress (Some shelf)) (counts_in progress) fault.OutOfMemory;
      answer = ap Some h;
      text = tt;
      silent = silent;
    }

-- ---- the run over devices of its own

module _ (laws : PlanLaws) (command run : Command) (run_is : run ≡ script_run command) (usable : IsUsable 256 command) (n : ℕ) (visits : n ≡ visits_of command)
    (first last : MemoryDepot) (shelf_is : depot_shelf first ≡ demo_shelf n) (own lent hosts : List MemoryHost) (each : All (λ host. host_inputs host ≡ demo_inputs n) own) (slice : lent ≡ own)
    (before progress : Progress) (ran : Result (List ℕ) RunFault)
    (told : ForSome (told_shelf first) (λ s. RunTold (ScriptDue (given_by run) run.operand s (CommandDue run s)) s (CrewTells told_inputs run lent) (told_calls first) (told_calls last) (told_shelf last) before ran))
    (cause : DepotCause 0 0 ran) (worked : CrewHasWorked told_inputs (λ _. 0) (λ _. None) run lent hosts before.ends (found_in ran))
    (same : progress ≡ record before { said = progress.said }) (silent : progress.said.items ≡ []) where
  told_here : told_shelf first ≡ Some (shelf_of command)
  told_here = ap Some (shelf_is ∙ ap demo_shelf visits)

  tells : CrewTells told_inputs (script_run command) lent
  tells = subst (CrewTells told_inputs (script_run command)) (sym slice) (crew_tells n command.workers own each)

  ended : RunEnd (DemoDue command) (shelf_of command) (CrewTells told_inputs (script_run command) lent) (told_calls first) (told_calls last) (Some (depot_shelf last)) before ran
  ended = subst (λ r. RunEnd (ScriptDue (given_by r) r.operand (shelf_of command) (CommandDue r (shelf_of command))) (shelf_of command) (CrewTells told_inputs r lent) (told_calls first) (told_calls last) (Some (depot_shelf last)) before ran)
      run_is (run_told _ (shelf_of command) _ _ _ _ before ran (told (shelf_of command) told_here))

  some_attempts : 1 ≤ run.attempts
  some_attempts = subst (λ r. 1 ≤ r.attempts) (sym run_is) usable.attempts.0

  task : IsNoTask (found_in ran)
  task = no_task told_inputs (λ _. None) run.attempts (take run.workers lent) (take run.workers hosts) before.ends (found_in ran) worked.worked some_attempts

  pub made_none_failed : sum_by failures_in before.ends ≡ 0
  made_none_failed = none_failed told_inputs (λ _. None) run.attempts (take run.workers lent) (take run.workers hosts) before.ends (found_in ran) worked.worked

  pub made_ended : (f g : RunFault) → ran ≡ Err f → Some g ≡ demo_answer (Some f) → DemoEnd command progress (Err g)
  made_ended f g is answer = demo_ended laws command (CrewTells told_inputs (script_run command) lent) tells (told_calls first) (told_calls last) (depot_shelf last) before progress ran ended cause task same silent f g is answer

  pub made_done : (text : List ℕ) → ran ≡ Ok text → (result : Result (List ℕ) RunFault)
      → MatchResult result (λ out. out ≡ demo_text (depot_shelf last) (counts_in progress) None) (λ f. f ≡ fault.OutOfMemory) → DemoEnd command progress result
  made_done text is result h = demo_done laws command (CrewTells told_inputs (script_run command) lent) tells (told_calls first) (told_calls last) (depot_shelf last) before progress ran ended cause task same silent text is result h

-- ---- before the run

pub demo_unmade : (laws : PlanLaws) (command : Command) (progress : Progress) → IsFresh progress → (result : Result (List ℕ) RunFault) → MatchResult result (λ _. ⊥) (λ f. f ≡ fault.OutOfMemory)
    → DemoEnd command progress result
demo_unmade laws command progress fresh (Ok text) h = absurd h
demo_unmade laws command progress fresh (Err f) h = demo_unbegun laws command progress fresh f h

-- ---- words that are not read

refused_demo : (laws : PlanLaws) (line : Line) (command : Command) → IsDemo line command → (progress : Progress) → IsFresh progress → (f : RunFault)
    → ((f ≡ fault.Usage) × (¬ HasWords line)) ⊎ (f ≡ fault.OutOfMemory) → DemoEnd command progress (Err f)
refused_demo laws line command is progress fresh f (inl h) = absurd (h.1 (command, is.is))
refused_demo laws line command is progress fresh f (inr h) = demo_unbegun laws command progress fresh f h

pub demo_unread : (laws : PlanLaws) (line : Line) (command : Command) → IsDemo line command → (progress : Progress) → IsFresh progress → (result : Result (List ℕ) RunFault)
    → MatchResult result (λ _. ⊥) (λ f. ((f ≡ fault.Usage) × (¬ HasWords line)) ⊎ (f ≡ fault.OutOfMemory)) → DemoEnd command progress result
demo_unread laws line command is progress fresh (Ok text) h = absurd h
demo_unread laws line command is progress fresh (Err f) h = refused_demo laws line command is progress fresh f h

-- ---- as it is answered

only_shown : (text : List ℕ) (old new : Console) (found final : Option RunFault) → Shown text old new found final → IsDemoAnswer found → IsDemoAnswer final
only_shown text old new found _ (printed sound is) h = h
only_shown text old new None _ (failed fails is) h = tt
only_shown text old new (Some f) _ (failed fails is) h = h
only_shown text old new found _ (cut_short sound is) h = tt
only_shown text old new found _ (no_text sound is) h = tt
only_shown text old new found _ (no_text_failed fails is) h = tt
only_shown text old new found _ (no_text_cut sound is) h = tt

text_is : (command : Command) (progress : Progress) (result : Result (List ℕ) RunFault) (end : DemoEnd command progress result)
    → end_text progress.said.items result ≡ demo_text end.shelf (counts_in progress) (demo_answer end.ended)
text_is command progress (Ok text) end = end.text ∙ ap (demo_text end.shelf (counts_in progress)) end.answer
text_is command progress (Err f) end = ap (λ said. fault_text said f) end.silent ∙ ap (demo_text end.shelf (counts_in progress)) end.answer

all_shown : (hidden wanting : Bool) (kept : List Kept) → hidden ≡ false → (if hidden && wanting then [] else kept) ≡ kept
all_shown false wanting kept e = refl
all_shown true wanting kept e = absurd (true≢false e)

-- no ASSERT failed
never_unmet : (found : Option RunFault) → IsDemoAnswer found → is_unmet found ≡ false
never_unmet None h = refl
never_unmet (Some (fault.AssertFailed n)) h = absurd h
never_unmet (Some f) h = refl

pub demo_shown : (command : Command) (old new : Console) (outcome : Outcome) (progress : Progress) (result : Result (List ℕ) RunFault) → DemoEnd command progress result
    → Shown (end_text progress.said.items result) old new (found_in result) outcome.fault → outcome.kept ≡ kept_shown (found_in result) outcome.fault (kept_in progress) → outcome.waves ≡ progress.ends
    → outcome.counts ≡ counts_shown outcome.fault (counts_in progress) → Demoed command old new outcome
demo_shown command old new outcome progress result end shown stands waves counts =
    let kept : outcome.kept ≡ kept_in progress = stands ∙ ap (λ found. kept_shown found outcome.fault (kept_in progress)) end.answer
    ∙ all_shown (is_unmet (demo_answer end.ended)) (is_wanting outcome.fault) (kept_in progress) (never_unmet (demo_answer end.ended) (answer_is end.ended)) in
    let left_is : left_in end.outs progress (Some end.shelf) ≡ record { outs = end.outs; kept = outcome.kept; waves = outcome.waves; shelf = Some end.shelf } =
    λ i. record { outs = end.outs; kept = sym kept i; waves = sym waves i; shelf = Some end.shelf } in
    let found = subst (λ o. Shown (end_text progress.said.items result) old new o outcome.fault) end.answer shown in
    let text = subst (λ t. Shown t old new (demo_answer end.ended) outcome.fault) (text_is command progress result end) found in
    record {
      verdict = end.verdict;
      calls = end.calls;
      due = end.due;
      ended = end.ended;
      outs = end.outs;
      counts = counts_in progress;
      shelf = end.shelf;
      state = subst (λ left. Ends (Unit {0}) (shelf_of command) left end.verdict end.ended) left_is end.state;
      right = end.right;
      numbers = subst (λ left. CountsAre (Unit {0}) end.verdict (shelf_of command) left (counts_in progress) end.ended) left_is end.numbers;
      text = text;
      only = only_shown (demo_text end.shelf (counts_in progress) (demo_answer end.ended)) old new (demo_answer end.ended) outcome.fault text (answer_is end.ended);
      counted = counts;
    }
