use Rattle.std.proofs.Common.{rules, ◌≡◌, ◌≤◌, ◌<◌, ◌⊎◌, ◌∷◌, ◌++◌, [], Some, IfOk, MatchResult, true, false, length, map, take, sym, ◌∙◌, ap, subst}
use Rattle.std.proofs.lemmas.List.{length-map, map-append, take_all}
use Rattle.std.proofs.lemmas.Result.{MatchResult-weaker}
use Rattle.std.specs.List.{AllByRecursion}
use Rattle.pig_value.proofs.list_laws.Listing.{each-append}
use Rattle.pig_outside.specs.Shelf.{has_dir}
use Rattle.pig_outside.specs.declared.failing.Method.TheVariants as method
use Rattle.pig_run.specs.declared.outcome.RunFault.TheVariants as fault
use Rattle.pig_run.specs.Due.{Looks, OutputsDue, TasksDue, call}
use Rattle.pig_run.specs.Looking.{IsAbsentIn}
use Rattle.pig_run.specs.Orderly.{calls_for}
use Rattle.pig_run.specs.Refusals.{output_there}
use Rattle.pig_run.specs.Steps.{IsLookFault, Passes}
use Rattle.pig_run.specs.Told.{Asked}
use Rattle.pig_run.proofs.LookUps.{looks_end, looks_on}
use Rattle.pig_run.proofs.Ordering.{asked_next}
use Rattle.pig_run.proofs.Sizes.{output_stops}
use Rattle.pig_run.proofs.Laying.{dir_at, taken}
use Rattle.pig_run.proofs.looking.check_outputs.Goals as goal

pub loop-place-preserved : goal.loop-place-preserved
loop-place-preserved g c =
    let stores = c.as_slice-stores.result.now in
    let store = c.index-stores-place.result in
    let dirs = map (λ store. store.dir) c.as_slice-stores.result.now in
    let place = c.loop-place.place in
    let old = g.D.Depot.calls c.args.depot.now in
    let now = g.D.Depot.calls c.loop-place.depot in
    let new = g.D.Depot.calls c.check_output.new.depot in
    let within : c.loop-place.place < length c.as_slice-stores.result.now = search rules in
    let at = c.index-stores-place.is in
    let asked : Asked (call method.Exists c.index-stores-place.result.dir ∷ []) (g.D.Depot.calls c.loop-place.depot) (g.D.Depot.calls c.check_output.new.depot) = search rules in
    let same : g.D.Depot.shelf c.check_output.new.depot ≡ g.D.Depot.shelf c.args.depot.now = search rules in
    let later : g.D.Depot.faults c.args.depot.now ≤ g.D.Depot.faults c.check_output.new.depot = search rules in
    let still : g.D.Depot.store_faults c.check_output.new.depot ≡ g.D.Depot.store_faults c.args.depot.now = search rules in
    let below : place < length dirs = subst (λ n. place < n) (sym (length-map stores (λ store. store.dir))) within in (
      same,
      later,
      still,
      λ s told command plan.
          let told_now : g.D.Depot.shelf c.loop-place.depot ≡ Some s = c.loop-place.invariant.0 ∙ told in
          let absent : has_dir c.index-stores-place.result.dir s ≡ false = search rules in
          looks_on (λ dir. has_dir dir s) output_there method.Exists dirs (TasksDue command s plan) place store.dir [] old now new (c.loop-place.invariant.3 s told command plan) below
          (dir_at stores place store store within at) asked absent,
      λ s told.
          let told_now : g.D.Depot.shelf c.loop-place.depot ≡ Some s = c.loop-place.invariant.0 ∙ told in
          let absent : has_dir c.index-stores-place.result.dir s ≡ false = search rules in
          subst (AllByRecursion (IsAbsentIn s)) (sym (taken stores place store store within at))
          (each-append (IsAbsentIn s) (take place stores) (store ∷ []) (c.loop-place.invariant.4 s told) (absent, tt)),
      subst (λ dirs. Asked (calls_for method.Exists dirs) old new)
          (sym (ap (map (λ store. store.dir)) (taken stores place store store within at) ∙ map-append (λ store. store.dir) (take place stores) (store ∷ [])))
          (asked_next method.Exists (map (λ store. store.dir) (take place stores)) store.dir old now new c.loop-place.invariant.5 asked),
    )

pub returns-in_err-check_output-clause-looked : goal.returns-in_err-check_output-clause-looked
returns-in_err-check_output-clause-looked g c =
    let stores = c.as_slice-stores.result.now in
    let store = c.index-stores-place.result in
    let place = c.loop-place.place in
    let old = g.D.Depot.calls c.args.depot.now in
    let now = g.D.Depot.calls c.loop-place.depot in
    let new = g.D.Depot.calls c.check_output.new.depot in
    let asked : Asked (call method.Exists c.index-stores-place.result.dir ∷ []) (g.D.Depot.calls c.loop-place.depot) (g.D.Depot.calls c.check_output.new.depot) = search rules in
    let paths = map (λ store. store.dir) (take place stores) ++ store.dir ∷ [] in
    let whole : IfOk c.from_residual.result (λ _. map (λ store. store.dir) (take c.loop-place.place c.as_slice-stores.result.now) ++ c.index-stores-place.result.dir ∷ [] ≡ map (λ store. store.dir) c.args.stores.now) = search rules in
    record {
      fault = search rules;
      shelf = search rules;
      cause = search rules;
      stores = search rules;
      asked = record { paths = paths; asked = asked_next method.Exists (map (λ store. store.dir) (take place stores)) store.dir old now new c.loop-place.invariant.5 asked; whole = whole };
    }

pub returns-clause-looked : goal.returns-clause-looked
returns-clause-looked g c =
    let end : length c.as_slice-stores.result.now ≤ c.loop-place.place = search rules in
    let same : c.as_slice-stores.result.now ≡ c.args.stores.now = search rules in
    record {
      fault = search rules;
      shelf = c.loop-place.invariant.0;
      cause = search rules;
      stores = c.loop-place.invariant.2;
      asked = record {
        paths = map (λ store. store.dir) (take c.loop-place.place c.as_slice-stores.result.now);
        asked = c.loop-place.invariant.5;
        whole = ap (map (λ store. store.dir)) (take_all c.loop-place.place c.as_slice-stores.result.now end ∙ same);
      };
    }

pub returns-in_err-check_output-clause-told : goal.returns-in_err-check_output-clause-told
returns-in_err-check_output-clause-told g c s told command plan is =
    let stores = c.as_slice-stores.result.now in
    let store = c.index-stores-place.result in
    let dirs = map (λ store. store.dir) c.as_slice-stores.result.now in
    let place = c.loop-place.place in
    let old = g.D.Depot.calls c.args.depot.now in
    let now = g.D.Depot.calls c.loop-place.depot in
    let new = g.D.Depot.calls c.check_output.new.depot in
    let told_now : g.D.Depot.shelf c.loop-place.depot ≡ Some s = c.loop-place.invariant.0 ∙ told in
    let within : c.loop-place.place < length c.as_slice-stores.result.now = search rules in
    let at = c.index-stores-place.is in
    let asked : Asked (call method.Exists c.index-stores-place.result.dir ∷ []) (g.D.Depot.calls c.loop-place.depot) (g.D.Depot.calls c.check_output.new.depot) = search rules in
    let below : place < length dirs = subst (λ n. place < n) (sym (length-map stores (λ store. store.dir))) within in
    let same : c.as_slice-stores.result.now ≡ c.args.stores.now = search rules in
    let refused : MatchResult c.from_residual.result (λ _. Passes (OutputsDue command s plan) (TasksDue command s plan) (g.D.Depot.calls c.args.depot.now) (g.D.Depot.calls c.check_output.new.depot))
    (λ f. ((f ≡ fault.OutputExists c.index-stores-place.result.dir) × (has_dir c.index-stores-place.result.dir s ≡ true)) ⊎ IsLookFault f) = search rules in
    MatchResult-weaker c.from_residual.result refused (λ _ h. h)
    (λ f h. output_stops command plan s dirs (ap (map (λ store. store.dir)) (same ∙ is)) place store.dir [] old now new (c.loop-place.invariant.3 s told command plan) below
    (dir_at stores place store store within at) asked f h)

pub returns-clause-told : goal.returns-clause-told
returns-clause-told g c s told command plan is =
    let stores = c.as_slice-stores.result.now in
    let dirs = map (λ store. store.dir) c.as_slice-stores.result.now in
    let place = c.loop-place.place in
    let old = g.D.Depot.calls c.args.depot.now in
    let now = g.D.Depot.calls c.loop-place.depot in
    let end : length c.as_slice-stores.result.now ≤ c.loop-place.place = search rules in
    let same : c.as_slice-stores.result.now ≡ c.args.stores.now = search rules in
    subst (λ ds. Passes (Looks (λ dir. has_dir dir s) output_there method.Exists ds (TasksDue command s plan)) (TasksDue command s plan) old now) (ap (map (λ store. store.dir)) (same ∙ is))
    (looks_end (λ dir. has_dir dir s) output_there method.Exists dirs (TasksDue command s plan) place old now (c.loop-place.invariant.3 s told command plan)
    (subst (λ n. n ≤ place) (sym (length-map stores (λ store. store.dir))) end))

pub returns-clause-absent : goal.returns-clause-absent
returns-clause-absent g c s told =
    let end : length c.as_slice-stores.result.now ≤ c.loop-place.place = search rules in
    let same : c.as_slice-stores.result.now ≡ c.args.stores.now = search rules in
    subst (AllByRecursion (IsAbsentIn s)) (take_all c.loop-place.place c.as_slice-stores.result.now end ∙ same) (c.loop-place.invariant.4 s told)
