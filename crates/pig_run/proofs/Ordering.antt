-- All that a depot is asked comes in its order.
use Rattle.std.proofs.Common.{◌≡◌, ◌<◌, ◌∙◌, ◌++◌, ◌&&◌, ℕ, Bool, true, false, if◌then◌else◌, List, [], ◌∷◌, length, map, Option, Some, None, Result, Ok, Err, IfErr, IfOk, MatchResult, refl, sym, ap, subst, arith, inl, inr, true≢false}
use Rattle.std.specs.List.{flat_map}
use Rattle.std.proofs.lemmas.List.{append-nil, length-map, map-append}
use Rattle.pig_value.proofs.list_laws.Bags.{either_way}
use Rattle.pig_value.specs.declared.outcomes.Kept.{Kept}
use Rattle.pig_outside.specs.Calls.{DepotCall}
use Rattle.pig_outside.specs.declared.failing.Method.{Method}
use Rattle.pig_outside.specs.declared.failing.Method.TheVariants as method
use Rattle.pig_plan.specs.Plans.{Plan}
use Rattle.pig_physical.specs.Stages.{Stages}
use Rattle.pig_reach.specs.declared.storing.Store.{Store}
use Rattle.pig_work.specs.Working.{Tellings}
use Rattle.pig_run.specs.declared.looking.Prepared.{Prepared}
use Rattle.pig_run.specs.declared.outcome.RunFault.{RunFault}
use Rattle.pig_run.specs.declared.outcome.RunFault.TheVariants as fault
use Rattle.pig_commit.specs.Calls.{AskedFor, store_calls as calls_for_store}
use Rattle.pig_commit.specs.declared.parts.StorePart.{StorePart}
use Rattle.pig_run.specs.Due.{call, making}
use Rattle.pig_run.specs.Ends.{Console, Shown, cut_short, failed, is_unmet, is_wanting, kept_shown, no_text, no_text_cut, no_text_failed, printed}
use Rattle.pig_run.specs.Orderly.{AsksAll, AsksScript, AsksSome, IsOrderly, IsOrderlyBehind, LooksUp, Makes, MayMake, calls_for}
use Rattle.pig_run.specs.Running.{EndsFinding, IsFresh, found_in, kept_in, lost, no_room, not_met}
use Rattle.pig_run.specs.declared.progress.Progress.{Progress}
use Rattle.pig_run.specs.Steps.{IsCommitFault}
use Rattle.pig_run.specs.Told.{Asked}
use Rattle.pig_run.proofs.Ending.{made_calls, quiet_kept}
use Rattle.pig_run.proofs.Stages.{asked_nothing, asked_then}

-- ---- paths in turn

-- one more path
pub asked_next : (m : Method) (paths : List (List ℕ)) (path : List ℕ) (old now new : Option (List DepotCall)) → Asked (calls_for m paths) old now → Asked (call m path ∷ []) now new
    → Asked (calls_for m (paths ++ path ∷ [])) old new
asked_next m paths path old now new before after =
    subst (λ calls. Asked calls old new) (sym (map-append (call m) paths (path ∷ []))) (asked_then (calls_for m paths) (call m path ∷ []) old now new before after)

pub some_next : (m : Method) (path : List ℕ) (old now new : Option (List DepotCall)) → AsksSome m old now → Asked (call m path ∷ []) now new → AsksSome m old new
some_next m path old now new before after = record { paths = before.paths ++ path ∷ []; asked = asked_next m before.paths path old now new before.asked after }

pub some_none : (m : Method) (old new : Option (List DepotCall)) → new ≡ old → AsksSome m old new
some_none m old new same = record { paths = []; asked = asked_nothing old new same }

-- ---- looking

pub looks_inputs : (result : Result Prepared RunFault) → IfOk result (λ _. ⊥) → (old new : Option (List DepotCall)) → AsksSome method.Pieces old new → LooksUp result old new
looks_inputs (Ok p) h old new some = absurd h
looks_inputs (Err f) h old new some = record {
  inputs = some.paths;
  outputs = [];
  asked = subst (λ calls. Asked calls old new) (sym (append-nil (calls_for method.Pieces some.paths))) some.asked;
  whole = tt;
}

module _ {T : Type 0} (dirs : List (List ℕ)) (found : Result T RunFault) (old mid new : Option (List DepotCall)) (inputs : AsksSome method.Pieces old mid) (outputs : AsksAll method.Exists dirs found mid new) where
  both : Asked (calls_for method.Pieces inputs.paths ++ calls_for method.Exists outputs.paths) old new
  both = asked_then (calls_for method.Pieces inputs.paths) (calls_for method.Exists outputs.paths) old mid new inputs.asked outputs.asked

  pub looks_stopped : (result : Result Prepared RunFault) → IfOk result (λ _. ⊥) → LooksUp result old new
  looks_stopped (Ok p) h = absurd h
  looks_stopped (Err f) h = record { inputs = inputs.paths; outputs = outputs.paths; asked = both; whole = tt }

  pub looks_both : (p : Prepared) → dirs ≡ map (λ store. store.dir) p.stores → outputs.paths ≡ dirs → LooksUp (Ok p) old new
  looks_both p are same = record { inputs = inputs.paths; outputs = outputs.paths; asked = both; whole = same ∙ are }

  -- the plan was rewritten behind them
  pub looks_behind : (result : Result Prepared RunFault) → outputs.paths ≡ dirs → IfOk result (λ p. map (λ store. store.dir) p.stores ≡ dirs) → LooksUp result old new
  looks_behind (Ok p) same are = looks_both p (sym are) same
  looks_behind (Err f) same are = looks_stopped (Err f) tt

-- ---- making

-- where no call makes directories, there are none
making_none : (dirs : List (List ℕ)) (parts : List ℕ) → length parts ≡ length dirs → making dirs parts ≡ [] → dirs ≡ []
making_none [] parts each none = refl
making_none (dir ∷ dirs) [] each none = absurd (omega (arith, each))
making_none (dir ∷ dirs) (n ∷ parts) each none = absurd (cc)

-- nor are there STOREs where there are no directories
pub no_stores : (stores : List Store) → map (λ store. store.dir) stores ≡ [] → stores ≡ []
no_stores [] none = refl
no_stores (store ∷ stores) none = absurd (cc)

none_counted : (made : List DepotCall) → 0 < length made → made ≡ [] → ⊥
none_counted made some none = let l : length made ≡ 0 = ap length none in omega (arith, some, l)

-- what was kept stands where an ASSERT is not met, and not in a run that has just begun
module _ (plan : Plan) (s : Stages) (limit : ℕ) (tellings : Tellings) (progress : Progress) where
  unkept_by : (f : RunFault) → EndsFinding plan s limit tellings progress f → is_unmet (Some f) ≡ false → kept_in progress ≡ []
  unkept_by _ (lost given stands silent) met = quiet_kept progress stands
  unkept_by _ (not_met won unmet stands says) met = absurd (true≢false met)
  unkept_by _ (no_room won stands silent) met = quiet_kept progress stands

  pub unkept_end : {T : Type 0} (result : Result T RunFault) → IfErr result (EndsFinding plan s limit tellings progress) → IfOk result (λ _. ⊥) → is_unmet (found_in result) ≡ false → kept_in progress ≡ []
  unkept_end (Ok x) h stops met = absurd stops
  unkept_end (Err f) h stops met = unkept_by f h met

pub fresh_kept : (progress : Progress) → IsFresh progress → kept_in progress ≡ []
fresh_kept progress fresh = quiet_kept progress fresh.stands

-- nothing was made, and a fault came
pub makes_none : {T : Type 0} (result : Result T RunFault) → IfOk result (λ _. ⊥) → (dirs : List (List ℕ)) (kept : List Kept) → (is_unmet (found_in result) ≡ false → kept ≡ [])
    → (old new : Option (List DepotCall)) → new ≡ old → Makes dirs (found_in result) kept old new
makes_none (Ok x) h dirs kept quiet old new same = absurd h
makes_none (Err f) h dirs kept quiet old new same = record {
  parts = map length dirs;
  each = length-map dirs length;
  made = [];
  asked = asked_nothing old new same;
  first = (making dirs (map length dirs), refl);
  none = λ _. refl;
  whole = λ e. absurd (cc);
  unkept = λ met none. quiet met;
}

-- making ended in between
may_break : (n : ℕ) (f : RunFault) → IsCommitFault n f → MayMake (Some f)
may_break n f (inl is) = subst (λ g. MayMake (Some g)) (sym is) tt
may_break n f (inr is) = subst (λ g. MayMake (Some g)) (sym is) tt

module _ (outs : List StorePart) (dirs : List (List ℕ)) (dirs_are : map (λ out. out.dir) outs ≡ dirs) where
  abbrev counts : List ℕ
  counts = map (λ out. length out.parts) outs

  as_many : length counts ≡ length dirs
  as_many = length-map outs (λ out. length out.parts) ∙ sym (length-map outs (λ out. out.dir)) ∙ ap length dirs_are

  all_calls : flat_map calls_for_store outs ≡ making dirs counts
  all_calls = made_calls outs ∙ ap (λ ds. making ds counts) dirs_are

  broken : {T U : Type 0} (result : Result T RunFault) (n : ℕ) → MatchResult result (λ _. ⊥) (IsCommitFault n) → (found : Result U RunFault) (kept : List Kept) (old new : Option (List DepotCall))
      → (asked : AskedFor (flat_map calls_for_store outs) found old new) → (asked.made ≡ [] → kept ≡ []) → Makes dirs (found_in result) kept old new
  broken (Ok x) n h found kept old new asked quiet = absurd h
  broken (Err f) n h found kept old new asked quiet = record {
    parts = counts;
    each = as_many;
    made = asked.made;
    asked = asked.asked;
    first = (asked.left, sym all_calls ∙ sym asked.first);
    none = λ never. absurd (never (may_break n f h));
    whole = λ e. absurd (cc);
    unkept = λ met none. quiet none;
  }

  pub makes_broken : {T U : Type 0} (result : Result T RunFault) (n : ℕ) → MatchResult result (λ _. ⊥) (IsCommitFault n) → (f : RunFault) (kept : List Kept) (old new : Option (List DepotCall))
      → AskedFor {T = U} (flat_map calls_for_store outs) (Err f) old new → Makes dirs (found_in result) kept old new
  makes_broken result n h f kept old new asked = broken result n h (Err f) kept old new asked (λ none. absurd (none_counted asked.made asked.some none))

  -- all was made; where that is nothing, nothing was kept
  module _ (kept : List Kept) (unkept_as : dirs ≡ [] → kept ≡ []) (old new : Option (List DepotCall)) (asked : AskedFor {T = Unit {0}} {E = RunFault} (flat_map calls_for_store outs) (Ok tt) old new) where
    made_all : asked.made ≡ making dirs counts
    made_all = sym (append-nil asked.made) ∙ ap (λ xs. asked.made ++ xs) (sym asked.all) ∙ asked.first ∙ all_calls

    none_kept : asked.made ≡ [] → kept ≡ []
    none_kept none = unkept_as (making_none dirs counts as_many (sym made_all ∙ none))

    pub makes_all : Makes dirs None kept old new
    makes_all = record {
      parts = counts;
      each = as_many;
      made = asked.made;
      asked = asked.asked;
      first = (asked.left, sym all_calls ∙ sym asked.first);
      none = λ never. absurd (never tt);
      whole = λ _. made_all;
      unkept = λ met none. none_kept none;
    }

    pub makes_untold : {T : Type 0} (result : Result T RunFault) → MatchResult result (λ _. ⊥) (λ f. f ≡ fault.OutOfMemory) → Makes dirs (found_in result) kept old new
    makes_untold result h = broken {U = Unit {0}} result 0 (weaker result h) (Ok tt) kept old new asked none_kept
      where
        weaker : {T : Type 0} (r : Result T RunFault) → MatchResult r (λ _. ⊥) (λ f. f ≡ fault.OutOfMemory) → MatchResult r (λ _. ⊥) (IsCommitFault 0)
        weaker (Ok x) h = h
        weaker (Err f) h = inr h

-- ---- together

-- looking ended it
pub orderly_stopped : {T : Type 0} (found : Result Prepared RunFault) (result : Result T RunFault) → IfOk result (λ _. ⊥) → (kept : List Kept) → kept ≡ [] → (old new : Option (List DepotCall))
    → LooksUp found old new → IsOrderlyBehind (found_in result) kept old new
orderly_stopped found result h kept quiet old new looks = record {
  inputs = looks.inputs;
  outputs = looks.outputs;
  looked = new;
  asked = looks.asked;
  makes = makes_none result h looks.outputs kept (λ _. quiet) new new refl;
}

pub orderly_made : (p : Prepared) (answer : Option RunFault) (kept : List Kept) (old mid new : Option (List DepotCall)) → LooksUp (Ok p) old mid
    → Makes (map (λ store. store.dir) p.stores) answer kept mid new → IsOrderlyBehind answer kept old new
orderly_made p answer kept old mid new looks makes = record {
  inputs = looks.inputs;
  outputs = looks.outputs;
  looked = mid;
  asked = looks.asked;
  makes = subst (λ dirs. Makes dirs answer kept mid new) (sym looks.whole) makes;
}

-- nothing was asked
idle : {T : Type 0} (result : Result T RunFault) (kept : List Kept) → kept ≡ [] → (old new : Option (List DepotCall)) → new ≡ old → Makes [] (found_in result) kept old new
idle result kept quiet old new same = record {
  parts = [];
  each = refl;
  made = [];
  asked = asked_nothing old new same;
  first = ([], refl);
  none = λ _. refl;
  whole = λ _. refl;
  unkept = λ met none. quiet;
}

pub orderly_idle : {T : Type 0} (result : Result T RunFault) (kept : List Kept) → kept ≡ [] → (old new : Option (List DepotCall)) → new ≡ old → IsOrderlyBehind (found_in result) kept old new
orderly_idle result kept quiet old new same = record { inputs = []; outputs = []; looked = old; asked = asked_nothing old old refl; makes = idle result kept quiet old new same }

-- the script came before
pub orderly_behind : (answer : Option RunFault) (kept : List Kept) (old mid new : Option (List DepotCall)) → AsksScript old mid → IsOrderlyBehind answer kept mid new → IsOrderly answer kept old new
orderly_behind answer kept old mid new script rest = record {
  scripts = script.scripts;
  inputs = rest.inputs;
  outputs = rest.outputs;
  looked = rest.looked;
  one = script.one;
  asked = asked_then (calls_for method.Script script.scripts) (calls_for method.Pieces rest.inputs ++ calls_for method.Exists rest.outputs) old mid rest.looked script.asked rest.asked;
  makes = rest.makes;
}

-- ---- as it is answered

-- nothing else is shown of what was kept
wanting_unmet : (text : List ℕ) (old new : Console) (found final : Option RunFault) → Shown text old new found final → is_unmet found ≡ true → is_unmet final ≡ false → is_wanting final ≡ true
wanting_unmet text old new found _ (printed sound is) unmet met = absurd (true≢false (sym unmet ∙ met))
wanting_unmet text old new None _ (failed fails is) unmet met = absurd (true≢false (sym unmet))
wanting_unmet text old new (Some f) _ (failed fails is) unmet met = absurd (true≢false (sym unmet ∙ met))
wanting_unmet text old new found _ (cut_short sound is) unmet met = refl
wanting_unmet text old new found _ (no_text sound is) unmet met = refl
wanting_unmet text old new found _ (no_text_failed fails is) unmet met = refl
wanting_unmet text old new found _ (no_text_cut sound is) unmet met = refl

either_none : (hidden : Bool) (kept : List Kept) → kept ≡ [] → (if hidden then [] else kept) ≡ []
either_none true kept none = refl
either_none false kept none = none

unkept_shown : (text : List ℕ) (old new : Console) (found final : Option RunFault) → Shown text old new found final → (kept : List Kept) → (is_unmet found ≡ false → kept ≡ [])
    → is_unmet final ≡ false → kept_shown found final kept ≡ []
unkept_shown text old new found final shown kept quiet met = either_way (is_unmet found)
    (λ unmet. ap (λ b. if b && is_wanting final then [] else kept) unmet ∙ ap (λ b. if b then [] else kept) (wanting_unmet text old new found final shown unmet met))
    (λ other. either_none (is_unmet found && is_wanting final) kept (quiet other))

makes_shown : (text : List ℕ) (old new : Console) (found final : Option RunFault) → Shown text old new found final → (dirs : List (List ℕ)) (kept : List Kept) (before after : Option (List DepotCall))
    → Makes dirs found kept before after → Makes dirs final (kept_shown found final kept) before after
makes_shown text old new found final shown dirs kept before after m = record {
  parts = m.parts;
  each = m.each;
  made = m.made;
  asked = m.asked;
  first = m.first;
  none = none_made found final shown m.none;
  whole = all_made found final shown m.whole;
  unkept = λ met none. unkept_shown text old new found final shown kept (λ other. m.unkept other none) met;
}
  where
    none_made : (found final : Option RunFault) → Shown text old new found final → (¬ MayMake found → m.made ≡ []) → ¬ MayMake final → m.made ≡ []
    none_made found _ (printed sound is) h never = h never
    none_made None _ (failed fails is) h never = absurd (never tt)
    none_made (Some f) _ (failed fails is) h never = h never
    none_made found _ (cut_short sound is) h never = absurd (never tt)
    none_made found _ (no_text sound is) h never = absurd (never tt)
    none_made found _ (no_text_failed fails is) h never = absurd (never tt)
    none_made found _ (no_text_cut sound is) h never = absurd (never tt)

    all_made : (found final : Option RunFault) → Shown text old new found final → (found ≡ None → m.made ≡ making dirs m.parts) → final ≡ None → m.made ≡ making dirs m.parts
    all_made found _ (printed sound is) h e = h e
    all_made found _ (failed fails is) h e = absurd (cc)
    all_made found _ (cut_short sound is) h e = absurd (cc)
    all_made found _ (no_text sound is) h e = absurd (cc)
    all_made found _ (no_text_failed fails is) h e = absurd (cc)
    all_made found _ (no_text_cut sound is) h e = absurd (cc)

pub orderly_shown : (text : List ℕ) (old new : Console) (found final : Option RunFault) → Shown text old new found final → (kept : List Kept) (before after : Option (List DepotCall))
    → IsOrderly found kept before after → IsOrderly final (kept_shown found final kept) before after
orderly_shown text old new found final shown kept before after o = record {
  scripts = o.scripts;
  inputs = o.inputs;
  outputs = o.outputs;
  looked = o.looked;
  one = o.one;
  asked = o.asked;
  makes = makes_shown text old new found final shown o.outputs kept o.looked after o.makes;
}
