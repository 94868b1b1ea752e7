-- From how the steps ended to what a call says of a shelf that is told.
use Rattle.std.proofs.Common.{◌≡◌, ◌++◌, ◌<◌, ◌%◌, ◌^◌, ℕ, suc, true, false, List, [], ◌∷◌, length, map, Option, Some, None, Result, Ok, Err, refl, sym, ◌∙◌, ap, subst, arith, inl, inr, cond}
use Rattle.std.specs.List.{AllByRecursion, flat_map, sum_by}
use Rattle.std.specs.Option.{option_map}
use Rattle.std.proofs.lemmas.List.{append_assoc, append-nil}
use Rattle.std.proofs.lemmas.List.Folds.{flat_map-map}
use Rattle.std.proofs.lemmas.List.Sums.{sum_by-cons}
use Rattle.pig_value.specs.declared.inputs.Input.{Input}
use Rattle.pig_value.specs.declared.outcomes.Kept.{Kept}
use Rattle.pig_outside.specs.Calls.{DepotCall}
use Rattle.pig_outside.specs.Shelf.{Shelf}
use Rattle.pig_outside.specs.declared.failing.Method.TheVariants as method
use Rattle.pig_plan.specs.Asserts.{first_unmet}
use Rattle.pig_plan.specs.Laws.{AreOfBytes}
use Rattle.pig_plan.specs.Meaning.{IsKept}
use Rattle.pig_plan.specs.Plans.{Plan}
use Rattle.pig_plan.specs.Valid.{IsPlan}
use Rattle.pig_reach.specs.Reach.{dirs_of, stores_of}
use Rattle.pig_reach.specs.declared.storing.Store.{Store}
use Rattle.pig_physical.specs.Stages.{Stages, heads}
use Rattle.pig_work.specs.Working.{Tellings}
use Rattle.pig_driver.specs.Failing.{HaveWon}
use Rattle.pig_driver.specs.Going.{AllTell, AreWon}
use Rattle.pig_commit.specs.Calls.{AskedFor, put_calls, store_calls as calls_for_store}
use Rattle.pig_commit.specs.Committed.{LeftOpen, with_stored}
use Rattle.pig_commit.specs.declared.parts.StorePart.{StorePart}
use Rattle.pig_rewrites.specs.Alike.{RunsAlike}
use Rattle.pig_run.specs.declared.outcome.Counts.{Counts}
use Rattle.pig_run.specs.declared.outcome.RunFault.{RunFault}
use Rattle.pig_run.specs.declared.outcome.RunFault.TheVariants as fault
use Rattle.pig_run.specs.declared.progress.Progress.{Progress}
use Rattle.pig_run.specs.Due.{Stage, call, calls, making, making_of}
use Rattle.pig_run.specs.Ends.{Ends, assert_failed, done, lookup_failed, no_memory, no_memory_at, no_memory_behind, no_memory_in, refused, shows, store_failed, task_failed}
use Rattle.pig_run.specs.Outputs.{AreOutputsOf, IsMet, IsRunOf, IsStopped, IsUnmade, IsUntouched, IsWhole, Left}
use Rattle.pig_run.specs.Reading.{Prints, Refuses, Run, Runs, Verdict, Wants}
use Rattle.pig_run.specs.Running.{AreLaid, EndsFinding, GivesAll, HasFailedAssert, IsBrokenAt, IsGiven, IsFresh, RunEnd, RunsEnd, UnmetAll, WavesEnd, asserted, counts_in, kept_in, left_in, lost, no_room, not_met, note_of, noted_line, untold}
use Rattle.pig_run.specs.Steps.{IsCommitFault, IsLookFault, Passes, StopsIn}
use Rattle.pig_run.specs.Texts.{done_line, line_count, said_behind}
use Rattle.pig_run.specs.Told.{CountsAre, EndsEarly, IsAsked, TellsInputs, TellsOf}
use Rattle.pig_run.proofs.Deciding.{IsSome}
use Rattle.pig_run.proofs.Laying.{same_dirs, same_statements}
use Rattle.pig_run.proofs.Stages.{asked_nothing, asked_then}

-- ---- nothing was made

pub quiet_kept : (progress : Progress) → progress.stands ≡ false → kept_in progress ≡ []
quiet_kept progress h = ap (λ b. cond b progress.kept []) h

pub standing_kept : (progress : Progress) → progress.stands ≡ true → kept_in progress ≡ progress.kept
standing_kept progress h = ap (λ b. cond b progress.kept []) h

pub untouched : (s : Shelf) (new : Option Shelf) (progress : Progress) → new ≡ Some s → IsFresh progress → IsUntouched s (left_in [] progress new)
untouched s new progress same fresh = record {
  unmade = record { same = same; no_outputs = refl };
  none_kept = quiet_kept progress fresh.stands;
  no_waves = fresh.ends;
}

-- ---- which faults end a call early, and say nothing behind their lines

early_look : (f : RunFault) → IsLookFault f → EndsEarly (Some f)
early_look f (inl is) = subst (λ g. EndsEarly (Some g)) (sym is) (inr (inr (inr (None, refl))))
early_look f (inr is) = subst (λ g. EndsEarly (Some g)) (sym is) (inr (inr (inl refl)))

early_commit : (n : ℕ) (f : RunFault) → IsCommitFault n f → EndsEarly (Some f)
early_commit n f (inl is) = subst (λ g. EndsEarly (Some g)) (sym is) (inr (inr (inr (Some n, refl))))
early_commit n f (inr is) = subst (λ g. EndsEarly (Some g)) (sym is) (inr (inr (inl refl)))

silent_look : (v : Verdict) (f : RunFault) → IsLookFault f → said_behind v (Some f) ≡ []
silent_look (Refuses refusal) f h = refl
silent_look (Prints text) f h = refl
silent_look Wants f h = refl
silent_look (Runs run) f (inl is) = ap (λ g. said_behind (Runs run) (Some g)) is
silent_look (Runs run) f (inr is) = ap (λ g. said_behind (Runs run) (Some g)) is

silent_commit : (run : Run) (n : ℕ) (f : RunFault) → IsCommitFault n f → said_behind (Runs run) (Some f) ≡ []
silent_commit run n f (inl is) = ap (λ g. said_behind (Runs run) (Some g)) is
silent_commit run n f (inr is) = ap (λ g. said_behind (Runs run) (Some g)) is

pub no_numbers : (tells : Type 0) (v : Verdict) (s : Shelf) (left : Left) (counts : Counts) (f : RunFault) → CountsAre tells v s left counts (Some f)
no_numbers tells (Refuses refusal) s left counts f = tt
no_numbers tells (Prints text) s left counts f = λ e. absurd (cc)
no_numbers tells Wants s left counts f = tt
no_numbers tells (Runs run) s left counts f = λ e. absurd (cc)

-- ---- a step before the run ended the call

module _ (stage : Stage) (due : IsSome stage) (s : Shelf) (tells : Type 0) (old new : Option (List DepotCall)) (shelf : Option Shelf) (progress : Progress) (same : shelf ≡ Some s)
    (fresh : IsFresh progress) where
  left_look : (v : Verdict) (f : RunFault) → IsLookFault f → Ends tells s (left_in [] progress shelf) v (Some f)
  left_look v f (inl is) = subst (λ g. Ends tells s (left_in [] progress shelf) v (Some g)) (sym is) (lookup_failed (untouched s shelf progress same fresh))
  left_look v f (inr is) = subst (λ g. Ends tells s (left_in [] progress shelf) v (Some g)) (sym is) (no_memory (untouched s shelf progress same fresh))

  pub told_stopped : (f : RunFault) → StopsIn stage old new f → RunEnd stage s tells old new shelf progress (Err f)
  told_stopped f stops = elim stops.ends [
    | inl e ↦ record {
      verdict = Refuses e.refusal;
      calls = stops.made;
      due = e.due;
      outs = [];
      state = refused e.names (untouched s shelf progress same fresh);
      asked = record { made = stops.made; asked = stops.asked; first = ([], sym (append-nil stops.made)); all = λ early. refl };
      numbers = tt;
      text = tt;
      said_is = fresh.said;
    }
    | inr e ↦ record {
      verdict = due.1;
      calls = due.0;
      due = due.2;
      outs = [];
      state = left_look due.1 f e.free;
      asked = record { made = stops.made; asked = stops.asked; first = e.first due.0 due.1 due.2; all = λ early. absurd (early (early_look f e.free)) };
      numbers = no_numbers tells due.1 s (left_in [] progress shelf) (counts_in progress) f;
      text = tt;
      said_is = fresh.said ∙ sym (silent_look due.1 f e.free);
    }
  ]

-- ---- stages that were passed

-- what a call says from a stage on, it says from the stage before it
pub end_behind : (R S : Stage) (s : Shelf) (tells : Type 0) (old mid new : Option (List DepotCall)) (shelf : Option Shelf) (progress : Progress) (result : Result (List ℕ) RunFault)
    → Passes R S old mid → RunEnd S s tells mid new shelf progress result → RunEnd R s tells old new shelf progress result
end_behind R S s tells old mid new shelf progress result passes told = record {
  verdict = told.verdict;
  calls = passes.made ++ told.calls;
  due = passes.hands.on told.calls told.verdict told.due;
  outs = told.outs;
  state = told.state;
  asked = record {
    made = passes.made ++ told.asked.made;
    asked = asked_then passes.made told.asked.made old mid new passes.asked told.asked.asked;
    first = (told.asked.first.0, ap (λ xs. passes.made ++ xs) told.asked.first.1 ∙ sym (append_assoc passes.made told.asked.made told.asked.first.0));
    all = λ early. ap (λ xs. passes.made ++ xs) (told.asked.all early);
  };
  numbers = told.numbers;
  text = told.text;
  said_is = told.said_is;
}

-- a text is what is due
pub told_shown : (stage : Stage) (text : List ℕ) → stage [] (Prints text) → (s : Shelf) (tells : Type 0) (old new : Option (List DepotCall)) (shelf : Option Shelf) (progress : Progress) → new ≡ old → shelf ≡ Some s
    → IsFresh progress → (found : List ℕ) → found ≡ text → RunEnd stage s tells old new shelf progress (Ok found)
told_shown stage text due s tells old new shelf progress asked same fresh found is = record {
  verdict = Prints text;
  calls = [];
  due = due;
  outs = [];
  state = shows (untouched s shelf progress same fresh);
  asked = record { made = []; asked = asked_nothing old new asked; first = ([], refl); all = λ early. refl };
  numbers = λ e i. record { read = fresh.read i; shuffled = fresh.shuffled i; stored = sum_by (λ note. note.lines) (fresh.notes i) % 2 ^ 64 };
  text = is;
  said_is = fresh.said;
}

-- ---- the run came

pub told_runs : (stage : Stage) (run : Run) (s : Shelf) (tells : Type 0) (old new : Option (List DepotCall)) (shelf : Option Shelf) (progress : Progress) (result : Result (List ℕ) RunFault)
    → stage (making_of run) (Runs run) → RunsEnd run s tells old new shelf progress result → RunEnd stage s tells old new shelf progress result
told_runs stage run s tells old new shelf progress result due told = record {
  verdict = Runs run;
  calls = making_of run;
  due = due;
  outs = told.outs;
  state = told.state;
  asked = told.asked;
  numbers = told.numbers;
  text = told.text;
  said_is = told.said_is;
}

-- ---- the inputs that all hosts tell

told_inputs : (shelf : Option Shelf) (s : Shelf) (i : List Input) → shelf ≡ Some s → option_map (λ s. s.inputs) shelf ≡ Some i → i ≡ s.inputs
told_inputs shelf s i told is = let e = sym is ∙ ap (option_map (λ s. s.inputs)) told in cc

-- they are those of the shelf
pub all_tell : (shelf : Option Shelf) (s : Shelf) → shelf ≡ Some s → (tellings : Tellings) → AllByRecursion (TellsOf shelf) tellings → AllByRecursion TellsInputs tellings → AllTell s.inputs tellings
all_tell shelf s told [] of tells = tt
all_tell shelf s told (t ∷ ts) of tells =
    let here = tells.0 in (
      here.1 ∙ ap Some (told_inputs shelf s here.0 told (of.0 here.0 here.1)),
      all_tell shelf s told ts of.1 tells.1,
    )

-- and of bytes
pub told_bytes : (shelf : Option Shelf) (s : Shelf) → shelf ≡ Some s → (tellings : Tellings) → 0 < length tellings → AllByRecursion (TellsOf shelf) tellings → AllByRecursion TellsInputs tellings → AreOfBytes s.inputs
told_bytes shelf s told [] some of tells = absurd (omega (arith, some))
told_bytes shelf s told (t ∷ ts) some of tells = let here = tells.0 in subst AreOfBytes (told_inputs shelf s here.0 told (of.0 here.0 here.1)) here.2

-- ---- how waves, and what is collected of them, end

pub waves_ends : (plan : Plan) (limit : ℕ) (s : Stages) (tellings : Tellings) (progress : Progress) → progress.stands ≡ false → progress.said.items ≡ [] → (f : RunFault)
    → WavesEnd limit s progress.ends f → EndsFinding plan s limit tellings progress f
waves_ends plan limit s tellings progress quiet silent fault.Usage h = absurd h
waves_ends plan limit s tellings progress quiet silent fault.NoScript h = absurd h
waves_ends plan limit s tellings progress quiet silent (fault.Param offset) h = absurd h
waves_ends plan limit s tellings progress quiet silent (fault.Lex offset) h = absurd h
waves_ends plan limit s tellings progress quiet silent (fault.Syntax n) h = absurd h
waves_ends plan limit s tellings progress quiet silent (fault.Check n kind) h = absurd h
waves_ends plan limit s tellings progress quiet silent (fault.NoInput path) h = absurd h
waves_ends plan limit s tellings progress quiet silent (fault.OutputExists dir) h = absurd h
waves_ends plan limit s tellings progress quiet silent (fault.DepotFault store) h = absurd h
waves_ends plan limit s tellings progress quiet silent (fault.TaskFailed wave task failed) h = lost h quiet silent
waves_ends plan limit s tellings progress quiet silent (fault.AssertFailed n) h = absurd h
waves_ends plan limit s tellings progress quiet silent fault.OutOfMemory h = no_room h quiet silent
waves_ends plan limit s tellings progress quiet silent fault.ConsoleFault h = absurd h
waves_ends plan limit s tellings progress quiet silent (fault.TooLarge which) h = absurd h

module _ (plan : Plan) (s : Stages) (n : ℕ) (old new : Progress) where
  pub assert_ends : (limit : ℕ) (tellings : Tellings) (f : RunFault) → HasFailedAssert plan n old new f → AreWon s old.ends (length (heads s.plan)) → UnmetAll s tellings old.kept n
      → old.stands ≡ false → old.said.items ≡ [] → EndsFinding plan s limit tellings new f
  assert_ends limit tellings _ (asserted same said) won unmet quiet silent =
      not_met (subst (λ ends. AreWon s ends (length (heads s.plan))) (sym (ap (λ p. p.ends) same)) won) (subst (λ kept. UnmetAll s tellings kept n) (sym (ap (λ p. p.kept) same)) unmet) (ap (λ p. p.stands) same) said
  assert_ends limit tellings _ (untold same) won unmet quiet silent =
      subst (λ p. EndsFinding plan s limit tellings p fault.OutOfMemory) (sym same)
      (no_room (record { waves = length (heads s.plan); within = omega arith; won = won }) quiet silent)

  pub assert_keeps : (f : RunFault) → HasFailedAssert plan n old new f → (new.ends ≡ old.ends) × (new.notes ≡ old.notes)
  assert_keeps _ (asserted same said) = (ap (λ p. p.ends) same, ap (λ p. p.notes) same)
  assert_keeps _ (untold same) = (ap (λ p. p.ends) same, ap (λ p. p.notes) same)

-- ---- what a depot is asked as directories are made

put_each : (dir : List ℕ) (parts : List (List ℕ)) → put_calls dir parts ≡ calls (length parts) (call method.Put dir)
put_each dir [] = refl
put_each dir (part ∷ parts) = ap (λ xs. call method.Put dir ∷ xs) (put_each dir parts)

pub made_calls : (outs : List StorePart) → flat_map calls_for_store outs ≡ making (map (λ out. out.dir) outs) (map (λ out. length out.parts) outs)
made_calls [] = refl
made_calls (out ∷ outs) = λ i. (call method.Create out.dir ∷ (put_each out.dir out.parts i ++ call method.Finish out.dir ∷ [])) ++ made_calls outs i

-- ---- parts and STOREs, one beside the other

-- the STOREs before that of a part, and that one
record IsSplit (stores : List Store) (parts : List StorePart) (part : StorePart) : Type 0 where
  pub before : List Store
  pub store : Store
  pub behind : List Store
  pub are : stores ≡ before ++ store ∷ behind
  pub as_many : length before ≡ length parts
  pub dirs : map (λ part. part.dir) parts ≡ map (λ store. store.dir) before
  pub dir : store.dir ≡ part.dir
  pub statement : store.statement ≡ part.statement

head_of : {X : Type 0} {x y : X} {xs ys : List X} → x ∷ xs ≡ y ∷ ys → x ≡ y
head_of e = cc

tail_of : {X : Type 0} {x y : X} {xs ys : List X} → x ∷ xs ≡ y ∷ ys → xs ≡ ys
tail_of e = cc

split_at : (stores : List Store) (parts : List StorePart) (part : StorePart) (more : List StorePart)
    → map (λ part. part.dir) (parts ++ part ∷ more) ≡ map (λ store. store.dir) stores
    → map (λ part. part.statement) (parts ++ part ∷ more) ≡ map (λ store. store.statement) stores → IsSplit stores parts part
split_at [] [] part more dirs statements = absurd (let wrong : ◌≡◌ {A = List ℕ} (part.statement ∷ map (λ part. part.statement) more) [] = statements in cc)
split_at [] (p ∷ parts) part more dirs statements = absurd (let wrong : ◌≡◌ {A = List ℕ} (p.statement ∷ map (λ part. part.statement) (parts ++ part ∷ more)) [] = statements in cc)
split_at (store ∷ stores) [] part more dirs statements = record {
  before = [];
  store = store;
  behind = stores;
  are = refl;
  as_many = refl;
  dirs = refl;
  dir = sym (head_of dirs);
  statement = sym (head_of statements);
}
split_at (store ∷ stores) (p ∷ parts) part more dirs statements =
    let rest = split_at stores parts part more (tail_of dirs) (tail_of statements) in
    record {
      before = store ∷ rest.before;
      store = rest.store;
      behind = rest.behind;
      are = ap (λ xs. store ∷ xs) rest.are;
      as_many = ap suc rest.as_many;
      dirs = λ i. head_of dirs i ∷ rest.dirs i;
      dir = rest.dir;
      statement = rest.statement;
    }

outputs_first : (plan : Plan) (i : List Input) (kept : List Kept) (before behind : List Store) (first last : List StorePart) → length before ≡ length first
    → AreOutputsOf plan i kept (before ++ behind) (first ++ last) → AreOutputsOf plan i kept before first
outputs_first plan i kept [] behind [] last each h = tt
outputs_first plan i kept [] behind (p ∷ first) last each h = absurd (omega (arith, each))
outputs_first plan i kept (store ∷ before) behind [] last each h = absurd (omega (arith, each))
outputs_first plan i kept (store ∷ before) behind (p ∷ first) last each h = (h.0, outputs_first plan i kept before behind first last (omega (arith, each)) h.1)

-- ---- the run's own steps

module _ (run : Run) (s : Shelf) (tells : Type 0) (old new : Option (List DepotCall)) (shelf : Option Shelf) (progress : Progress) where
  asked_none : (f : RunFault) → EndsEarly (Some f) → new ≡ old → IsAsked (making_of run) (Some f) old new
  asked_none f early asked = record { made = []; asked = asked_nothing old new asked; first = (making_of run, refl); all = λ never. absurd (never early) }

  unmade : shelf ≡ Some s → IsUnmade s (left_in [] progress shelf)
  unmade same = record { same = same; no_outputs = refl }

  -- memory was wanting, with some waves won
  pub told_wanting : shelf ≡ Some s → new ≡ old → HaveWon run.stages progress.ends → progress.stands ≡ false → progress.said.items ≡ [] → RunsEnd run s tells old new shelf progress (Err fault.OutOfMemory)
  told_wanting same asked won quiet silent = record {
    outs = [];
    state = no_memory_in (record { unmade = unmade same; none_kept = quiet_kept progress quiet; won = won });
    asked = asked_none fault.OutOfMemory (inr (inr (inl refl))) asked;
    numbers = λ e. absurd (cc);
    text = tt;
    said_is = silent;
  }

  -- the waves, an ASSERT or memory ended it
  module _ (tellings : Tellings) (alike : RunsAlike run.plan run.stages.plan) (tell : tells → AllTell s.inputs tellings) (bytes : tells → AreOfBytes s.inputs) where
    pub told_unfound : (f : RunFault) → shelf ≡ Some s → new ≡ old → EndsFinding run.plan run.stages run.limit tellings progress f → RunsEnd run s tells old new shelf progress (Err f)
    told_unfound _ same asked (lost {wave} {task} {failed} given_up quiet silent) = record {
      outs = [];
      state = task_failed (record { unmade = unmade same; none_kept = quiet_kept progress quiet; given_up = given_up });
      asked = asked_none (fault.TaskFailed wave task failed) (inl refl) asked;
      numbers = λ e. absurd (cc);
      text = tt;
      said_is = silent;
    }
    told_unfound _ same asked (not_met {n} won unmet stands said) = record {
      outs = [];
      state = assert_failed (record {
        unmade = unmade same;
        won = won;
        kept = λ t. subst (IsKept run.plan s.inputs) (sym (standing_kept progress stands)) (unmet run.plan alike s.inputs (tell t) (bytes t)).kept_valid;
        first = λ t. subst (λ k. first_unmet run.plan s.inputs k ≡ Some n) (sym (standing_kept progress stands)) (unmet run.plan alike s.inputs (tell t) (bytes t)).first;
      });
      asked = asked_none (fault.AssertFailed n) (inr (inl refl)) asked;
      numbers = λ e. absurd (cc);
      text = tt;
      said_is = said;
    }
    told_unfound _ same asked (no_room won quiet silent) = told_wanting same asked won quiet silent

    -- what was found is stored
    module _ (all : List Store) (all_are : all ≡ stores_of run.stages.plan) (outs : List StorePart)
        (won : AreWon run.stages progress.ends (length (heads run.stages.plan))) (laid : AreLaid run.stages all outs)
        (gives : GivesAll run.stages run.limit tellings progress.kept outs progress.read progress.shuffled None)
        (stands : progress.stands ≡ true) (silent : progress.said.items ≡ []) where
      given : tells → IsGiven run s.inputs progress.kept outs progress.read progress.shuffled None
      given t = gives run.plan alike s.inputs (tell t) (bytes t)

      kept_same : kept_in progress ≡ progress.kept
      kept_same = standing_kept progress stands

      dirs_are : map (λ out. out.dir) outs ≡ dirs_of run.plan
      dirs_are = laid.dirs ∙ ap (map (λ store. store.dir)) all_are ∙ same_dirs run.plan run.stages.plan (stores_of run.plan) (stores_of run.stages.plan) alike.stores

      calls_are : flat_map calls_for_store outs ≡ making_of run
      calls_are = made_calls outs ∙ (λ i. making (dirs_are i) (laid.counts i))

      ran : (some : List StorePart) → IsMet tells run s (left_in some progress shelf)
      ran some = record {
        won = won;
        kept = λ t. subst (IsKept run.plan s.inputs) (sym kept_same) (given t).kept_valid;
        met = λ t. subst (λ k. first_unmet run.plan s.inputs k ≡ None) (sym kept_same) (sym (given t).unmet_is);
      }

      -- the STOREs before one, and that one
      split_stores : (before behind : List StorePart) (store : StorePart) → outs ≡ before ++ store ∷ behind → IsSplit (stores_of run.plan) before store
      split_stores before behind store are =
          split_at (stores_of run.plan) before store behind
          (ap (map (λ part. part.dir)) (sym are) ∙ dirs_are)
          (ap (map (λ part. part.statement)) (sym are) ∙ laid.statements ∙ ap (map (λ store. store.statement)) all_are
          ∙ same_statements run.plan run.stages.plan (stores_of run.plan) (stores_of run.stages.plan) alike.stores)

      stopped_at : (f : RunFault) (broken : IsBrokenAt outs f (Some s) shelf) (n : ℕ) → broken.store.statement ≡ n → IsStopped tells run s n (left_in broken.before progress shelf)
      stopped_at f broken n named =
          let split = split_stores broken.before broken.behind broken.store broken.are in
          record {
            ran = ran broken.before;
            before = split.before;
            store = split.store;
            behind = split.behind;
            are = split.are;
            named = split.statement ∙ named;
            stored = record {
              dirs = split.dirs;
              are = λ t. subst (λ k. AreOutputsOf run.plan s.inputs k split.before broken.before) (sym kept_same)
                  (outputs_first run.plan s.inputs progress.kept split.before (split.store ∷ split.behind) broken.before (broken.store ∷ broken.behind) split.as_many
                  (subst (λ xs. AreOutputsOf run.plan s.inputs progress.kept xs (broken.before ++ broken.store ∷ broken.behind)) split.are
                  (subst (AreOutputsOf run.plan s.inputs progress.kept (stores_of run.plan)) broken.are (given t).outs_are)));
            };
            opened = subst (λ dir. LeftOpen dir (Some (with_stored broken.before s)) shelf) (sym split.dir) broken.left;
          }

      pub told_broken : (f : RunFault) → IsBrokenAt outs f (Some s) shelf → AskedFor {T = Unit {0}} (flat_map calls_for_store outs) (Err f) old new → RunsEnd run s tells old new shelf progress (Err f)
      told_broken f broken asked = record {
        outs = broken.before;
        state = by_fault broken.named;
        asked = record {
          made = asked.made;
          asked = asked.asked;
          first = (asked.left, sym calls_are ∙ sym asked.first);
          all = λ early. absurd (early (early_commit broken.store.statement f broken.named));
        };
        numbers = λ e. absurd (cc);
        text = tt;
        said_is = silent ∙ sym (silent_commit run broken.store.statement f broken.named);
      }
        where
          by_fault : IsCommitFault broken.store.statement f → Ends tells s (left_in broken.before progress shelf) (Runs run) (Some f)
          by_fault (inl is) = subst (λ g. Ends tells s (left_in broken.before progress shelf) (Runs run) (Some g)) (sym is) (store_failed (stopped_at f broken broken.store.statement refl))
          by_fault (inr is) = subst (λ g. Ends tells s (left_in broken.before progress shelf) (Runs run) (Some g)) (sym is) (no_memory_at (stopped_at f broken broken.store.statement refl))

      module _ (made : shelf ≡ Some (with_stored outs s)) (asked : AskedFor {T = Unit {0}} {E = RunFault} (flat_map calls_for_store outs) (Ok tt) old new) where
        whole : IsWhole tells run s (left_in outs progress shelf)
        whole = record {
          ran = ran outs;
          stored = record {
            dirs = dirs_are;
            are = λ t. subst (λ k. AreOutputsOf run.plan s.inputs k (stores_of run.plan) outs) (sym kept_same) (given t).outs_are;
          };
          made = made;
        }

        all_asked : (found : Option RunFault) → IsAsked (making_of run) found old new
        all_asked found = record {
          made = asked.made;
          asked = asked.asked;
          first = ([], sym calls_are ∙ sym asked.first ∙ ap (λ xs. asked.made ++ xs) asked.all);
          all = λ early. sym (append-nil asked.made) ∙ ap (λ xs. asked.made ++ xs) (sym asked.all) ∙ asked.first ∙ calls_are;
        }

        lines_sum : (some : List StorePart) → sum_by (λ note. note.lines) (map note_of some) ≡ sum_by line_count some
        lines_sum [] = refl
        lines_sum (out ∷ some) =
            let a = sum_by-cons (λ note. note.lines) (note_of out) (map note_of some) in
            let b = sum_by-cons line_count out some in
            let more = lines_sum some in
            omega (arith, a, b, more)

        pub told_done : (text : List ℕ) → progress.notes ≡ map note_of outs → text ≡ flat_map noted_line progress.notes ++ done_line (counts_in progress) → RunsEnd run s tells old new shelf progress (Ok text)
        told_done text notes is = record {
          outs = outs;
          state = done whole;
          asked = all_asked None;
          numbers = λ e. record {
            read = λ t. (given t).read_is;
            shuffled = λ t. subst (λ k. IsRunOf run.stages s.inputs k (map (λ out. out.parts) outs) progress.shuffled) (sym kept_same) (given t).run_of;
            stored = ap (λ n. n % 2 ^ 64) (ap (sum_by (λ note. note.lines)) notes ∙ lines_sum outs);
          };
          text = is ∙ ap (λ ns. flat_map noted_line ns ++ done_line (counts_in progress)) notes
              ∙ ap (λ xs. xs ++ done_line (counts_in progress)) (flat_map-map noted_line note_of outs);
          said_is = silent;
        }

        -- memory was wanting for the text
        pub told_untold : RunsEnd run s tells old new shelf progress (Err fault.OutOfMemory)
        told_untold = record {
          outs = outs;
          state = no_memory_behind whole;
          asked = all_asked (Some fault.OutOfMemory);
          numbers = λ e. absurd (cc);
          text = tt;
          said_is = silent;
        }
