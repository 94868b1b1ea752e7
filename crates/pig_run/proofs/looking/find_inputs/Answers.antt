use Rattle.std.proofs.Common.{rules, refl, ℕ, List, ◌≡◌, ◌≤◌, ◌<◌, ◌⊎◌, ◌++◌, ◌∷◌, [], Some, None, MatchResult, length, map, sym, ◌∙◌, ap, subst}
use Rattle.std.proofs.lemmas.Result.{MatchResult-weaker}
use Rattle.pig_outside.specs.Shelf.{lengths_at}
use Rattle.pig_outside.specs.declared.failing.Method.TheVariants as method
use Rattle.pig_plan.specs.Plans.{plan_of}
use Rattle.pig_reach.specs.Reach.{live_paths}
use Rattle.pig_run.specs.declared.outcome.RunFault.TheVariants as fault
use Rattle.pig_run.specs.Due.{InputsDue, Looks, SizeDue, call, is_missing}
use Rattle.pig_run.specs.Refusals.{no_input}
use Rattle.pig_run.specs.Steps.{IsLookFault, Passes}
use Rattle.pig_run.specs.Told.{Asked}
use Rattle.pig_run.proofs.LookUps.{looks_end}
use Rattle.pig_run.proofs.Ordering.{some_next, some_none}
use Rattle.pig_run.proofs.Sizes.{input_stops, inputs_on, sizes_grow}
use Rattle.pig_run.proofs.Stages.{wants}
use Rattle.pig_run.proofs.Laying.{taken}
use Rattle.pig_run.proofs.looking.find_inputs.Goals as goal

pub loop-place-preserved : goal.loop-place-preserved
loop-place-preserved g c =
    let plan = plan_of c.args.plan.now in
    let paths = c.as_slice-paths.result.now in
    let path = c.index-paths-place.result in
    let old = g.D.Depot.calls c.args.depot.now in
    let now = g.D.Depot.calls c.loop-place.depot in
    let new = g.D.Depot.calls c.add_size.new.depot in
    let within : c.loop-place.place < length c.as_slice-paths.result.now = search rules in
    let at = c.index-paths-place.is in
    let asked : Asked (call method.Pieces c.index-paths-place.result ∷ []) (g.D.Depot.calls c.loop-place.depot) (g.D.Depot.calls c.add_size.new.depot) = search rules in
    let same : g.D.Depot.shelf c.add_size.new.depot ≡ g.D.Depot.shelf c.args.depot.now = search rules in
    let later : g.D.Depot.faults c.args.depot.now ≤ g.D.Depot.faults c.add_size.new.depot = search rules in
    let still : g.D.Depot.store_faults c.add_size.new.depot ≡ g.D.Depot.store_faults c.args.depot.now = search rules in
    let added : map (λ size. size.path) c.add_size.new.sizes ≡ map (λ size. size.path) c.loop-place.sizes ++ c.index-paths-place.result ∷ [] = search rules in (
      same,
      later,
      still,
      added ∙ ap (λ xs. xs ++ path ∷ []) c.loop-place.invariant.3 ∙ sym (taken paths c.loop-place.place path path within at),
      λ s told.
          let told_now : g.D.Depot.shelf c.loop-place.depot ≡ Some s = c.loop-place.invariant.0 ∙ told in
          let found : (lengths : List ℕ) × (lengths_at c.index-paths-place.result s ≡ Some lengths) × (c.add_size.new.sizes ≡ c.loop-place.sizes ++ record { path = c.index-paths-place.result; lengths = lengths } ∷ []) = search rules in (
            (λ command. inputs_on command plan s paths c.loop-place.place path path old now new ((c.loop-place.invariant.4 s told).0 command) within at asked found.0 found.1),
            sizes_grow s c.loop-place.sizes c.add_size.new.sizes path found.0 found.1 found.2 (c.loop-place.invariant.4 s told).1,
          ),
      some_next method.Pieces path old now new c.loop-place.invariant.5 asked,
    )

pub returns-in_err-add_size-clause-looked : goal.returns-in_err-add_size-clause-looked
returns-in_err-add_size-clause-looked g c =
    let old = g.D.Depot.calls c.args.depot.now in
    let now = g.D.Depot.calls c.loop-place.depot in
    let new = g.D.Depot.calls c.add_size.new.depot in
    let asked : Asked (call method.Pieces c.index-paths-place.result ∷ []) (g.D.Depot.calls c.loop-place.depot) (g.D.Depot.calls c.add_size.new.depot) = search rules in
    record {
      fault = search rules;
      shelf = search rules;
      cause = search rules;
      stores = search rules;
      asked = some_next method.Pieces c.index-paths-place.result old now new c.loop-place.invariant.5 asked;
    }

pub returns-in_err-paths-clause-looked : goal.returns-in_err-paths-clause-looked
returns-in_err-paths-clause-looked g c =
    record {
      fault = search rules;
      shelf = refl;
      cause = search rules;
      stores = refl;
      asked = some_none method.Pieces (g.D.Depot.calls c.args.depot.now) (g.D.Depot.calls c.args.depot.now) refl;
    }

pub returns-clause-looked : goal.returns-clause-looked
returns-clause-looked g c =
    record {
      fault = search rules;
      shelf = c.loop-place.invariant.0;
      cause = search rules;
      stores = c.loop-place.invariant.2;
      asked = c.loop-place.invariant.5;
    }

pub returns-in_err-add_size-clause-told : goal.returns-in_err-add_size-clause-told
returns-in_err-add_size-clause-told g c s told command =
    let plan = plan_of c.args.plan.now in
    let paths = c.as_slice-paths.result.now in
    let path = c.index-paths-place.result in
    let old = g.D.Depot.calls c.args.depot.now in
    let now = g.D.Depot.calls c.loop-place.depot in
    let new = g.D.Depot.calls c.add_size.new.depot in
    let told_now : g.D.Depot.shelf c.loop-place.depot ≡ Some s = c.loop-place.invariant.0 ∙ told in
    let within : c.loop-place.place < length c.as_slice-paths.result.now = search rules in
    let at = c.index-paths-place.is in
    let asked : Asked (call method.Pieces c.index-paths-place.result ∷ []) (g.D.Depot.calls c.loop-place.depot) (g.D.Depot.calls c.add_size.new.depot) = search rules in
    let are : c.as_slice-paths.result.now ≡ live_paths (plan_of c.args.plan.now) = search rules in
    let looked = (c.loop-place.invariant.4 s told).0 command in
    let refused : MatchResult c.from_residual-in_err-add_size.result (λ sizes. Passes (InputsDue command s (plan_of c.args.plan.now)) (SizeDue command s (plan_of c.args.plan.now)) (g.D.Depot.calls c.args.depot.now) (g.D.Depot.calls c.add_size.new.depot))
    (λ f. ((f ≡ fault.NoInput c.index-paths-place.result) × (lengths_at c.index-paths-place.result s ≡ None)) ⊎ IsLookFault f) = search rules in
    MatchResult-weaker c.from_residual-in_err-add_size.result refused (λ sizes h. h)
    (λ f h. input_stops command plan s paths are c.loop-place.place path path old now new looked within at asked f h)

pub returns-in_err-paths-clause-told : goal.returns-in_err-paths-clause-told
returns-in_err-paths-clause-told g c s told command =
    let plan = plan_of c.args.plan.now in
    let old = g.D.Depot.calls c.args.depot.now in
    let wanting : MatchResult c.from_residual.result (λ sizes. Passes (InputsDue command s (plan_of c.args.plan.now)) (SizeDue command s (plan_of c.args.plan.now)) (g.D.Depot.calls c.args.depot.now) (g.D.Depot.calls c.args.depot.now))
    (λ f. f ≡ fault.OutOfMemory) = search rules in
    MatchResult-weaker c.from_residual.result wanting (λ sizes h. h) (λ f h. wants (InputsDue command s plan) old old refl f h)

pub returns-clause-told : goal.returns-clause-told
returns-clause-told g c s told command =
    let plan = plan_of c.args.plan.now in
    let paths = c.as_slice-paths.result.now in
    let old = g.D.Depot.calls c.args.depot.now in
    let now = g.D.Depot.calls c.loop-place.depot in
    let end : length c.as_slice-paths.result.now ≤ c.loop-place.place = search rules in
    let are : c.as_slice-paths.result.now ≡ live_paths (plan_of c.args.plan.now) = search rules in
    subst (λ ps. Passes (Looks (is_missing s) no_input method.Pieces ps (SizeDue command s plan)) (SizeDue command s plan) old now) are
    (looks_end (is_missing s) no_input method.Pieces paths (SizeDue command s plan) c.loop-place.place old now ((c.loop-place.invariant.4 s told).0 command) end)

pub returns-clause-lengths : goal.returns-clause-lengths
returns-clause-lengths g c s told = (c.loop-place.invariant.4 s told).1
