use Rattle.std.proofs.Common.{rules, refl, ◌≡◌, ◌≤◌, ◌<◌, ◌^◌, Some, Ok, IfOk, MatchResult, map, sym, ◌∙◌, ap}
use Rattle.std.proofs.lemmas.Result.{MatchResult-weaker}
use Rattle.std.specs.List.{AllByRecursion}
use Rattle.pig_plan.specs.Plans.{plan_of}
use Rattle.pig_reach.specs.Reach.{live_paths, stores_of}
use Rattle.pig_run.specs.declared.outcome.RunFault.TheVariants as fault
use Rattle.pig_run.specs.declared.outcome.TooLarge.TheVariants as large
use Rattle.pig_run.specs.Due.{InputsDue, OutputsDue, TasksDue, SizeDue}
use Rattle.pig_run.specs.Looking.{HasSize, IsAbsentIn, total_of}
use Rattle.pig_run.specs.Steps.{Passes, StopsIn}
use Rattle.pig_run.proofs.Ordering.{looks_behind, looks_inputs, looks_stopped}
use Rattle.pig_run.proofs.Preparing.{dirs_behind, ends_behind, ready_behind}
use Rattle.pig_run.proofs.Sizes.{size_passes, size_stops}
use Rattle.pig_run.proofs.Stages.{passes_both, stops_both, wants}
use Rattle.pig_run.proofs.looking.prepare.Goals as goal

pub returns-in_err-check_size-clause-told : goal.returns-in_err-check_size-clause-told
returns-in_err-check_size-clause-told g c s told command =
    let plan = plan_of c.args.plan in
    let old = g.D.Depot.calls c.args.depot.now in
    let mid = g.D.Depot.calls c.find_inputs.new.depot in
    let first : Passes (InputsDue command s (plan_of c.args.plan)) (SizeDue command s (plan_of c.args.plan)) (g.D.Depot.calls c.args.depot.now) (g.D.Depot.calls c.find_inputs.new.depot) = search rules in
    let have : AllByRecursion (HasSize s) c.in_ok-sizes.sizes = search rules in
    let paths : map (λ size. size.path) c.in_ok-sizes.sizes ≡ live_paths (plan_of c.args.plan) = search rules in
    let refused : MatchResult c.from_residual-in_err-check_size.result (λ p. Passes (InputsDue command s (plan_of c.args.plan)) (TasksDue command s (plan_of c.args.plan)) (g.D.Depot.calls c.args.depot.now) (g.D.Depot.calls c.find_inputs.new.depot))
    (λ f. (f ≡ fault.TooLarge large.Input) × (2 ^ 26 < total_of c.in_ok-sizes.sizes)) = search rules in
    MatchResult-weaker c.from_residual-in_err-check_size.result refused (λ p h. h)
    (λ f h. stops_both (InputsDue command s plan) (SizeDue command s plan) old mid first mid f (size_stops command plan s c.in_ok-sizes.sizes paths have mid f h))

pub returns-in_err-stores-clause-told : goal.returns-in_err-stores-clause-told
returns-in_err-stores-clause-told g c s told command =
    let plan = plan_of c.args.plan in
    let old = g.D.Depot.calls c.args.depot.now in
    let mid = g.D.Depot.calls c.find_inputs.new.depot in
    let first : Passes (InputsDue command s (plan_of c.args.plan)) (SizeDue command s (plan_of c.args.plan)) (g.D.Depot.calls c.args.depot.now) (g.D.Depot.calls c.find_inputs.new.depot) = search rules in
    let wanting : MatchResult c.from_residual-in_err-stores.result (λ p. Passes (InputsDue command s (plan_of c.args.plan)) (TasksDue command s (plan_of c.args.plan)) (g.D.Depot.calls c.args.depot.now) (g.D.Depot.calls c.find_inputs.new.depot))
    (λ f. f ≡ fault.OutOfMemory) = search rules in
    MatchResult-weaker c.from_residual-in_err-stores.result wanting (λ p h. h)
    (λ f h. stops_both (InputsDue command s plan) (SizeDue command s plan) old mid first mid f (wants (SizeDue command s plan) mid mid refl f h))

pub returns-in_err-check_outputs-clause-told : goal.returns-in_err-check_outputs-clause-told
returns-in_err-check_outputs-clause-told g c s told command =
    let plan = plan_of c.args.plan in
    let old = g.D.Depot.calls c.args.depot.now in
    let mid = g.D.Depot.calls c.find_inputs.new.depot in
    let new = g.D.Depot.calls c.check_outputs.new.depot in
    let told_mid : g.D.Depot.shelf c.find_inputs.new.depot ≡ Some s = c.find_inputs.ensures.looked.shelf ∙ told in
    let first : Passes (InputsDue command s (plan_of c.args.plan)) (SizeDue command s (plan_of c.args.plan)) (g.D.Depot.calls c.args.depot.now) (g.D.Depot.calls c.find_inputs.new.depot) = search rules in
    let have : AllByRecursion (HasSize s) c.in_ok-sizes.sizes = search rules in
    let paths : map (λ size. size.path) c.in_ok-sizes.sizes ≡ live_paths (plan_of c.args.plan) = search rules in
    let few : total_of c.in_ok-sizes.sizes ≤ 2 ^ 26 = search rules in
    let both = passes_both (InputsDue command s plan) (SizeDue command s plan) old mid first mid (OutputsDue command s plan) (size_passes command plan s c.in_ok-sizes.sizes paths have mid few) in
    let stopped : MatchResult c.from_residual-in_err-check_outputs.result (λ p. Passes (InputsDue command s (plan_of c.args.plan)) (TasksDue command s (plan_of c.args.plan)) (g.D.Depot.calls c.args.depot.now) (g.D.Depot.calls c.check_outputs.new.depot))
    (StopsIn (OutputsDue command s (plan_of c.args.plan)) (g.D.Depot.calls c.find_inputs.new.depot) (g.D.Depot.calls c.check_outputs.new.depot)) = search rules in
    MatchResult-weaker c.from_residual-in_err-check_outputs.result stopped (λ p h. h)
    (λ f h. stops_both (InputsDue command s plan) (OutputsDue command s plan) old mid both new f h)

pub returns-clause-told : goal.returns-clause-told
returns-clause-told g c s told command =
    let plan = plan_of c.args.plan in
    let old = g.D.Depot.calls c.args.depot.now in
    let mid = g.D.Depot.calls c.find_inputs.new.depot in
    let new = g.D.Depot.calls c.check_outputs.new.depot in
    let told_mid : g.D.Depot.shelf c.find_inputs.new.depot ≡ Some s = c.find_inputs.ensures.looked.shelf ∙ told in
    let first : Passes (InputsDue command s (plan_of c.args.plan)) (SizeDue command s (plan_of c.args.plan)) (g.D.Depot.calls c.args.depot.now) (g.D.Depot.calls c.find_inputs.new.depot) = search rules in
    let have : AllByRecursion (HasSize s) c.in_ok-sizes.sizes = search rules in
    let paths : map (λ size. size.path) c.in_ok-sizes.sizes ≡ live_paths (plan_of c.args.plan) = search rules in
    let few : total_of c.in_ok-sizes.sizes ≤ 2 ^ 26 = search rules in
    let both = passes_both (InputsDue command s plan) (SizeDue command s plan) old mid first mid (OutputsDue command s plan) (size_passes command plan s c.in_ok-sizes.sizes paths have mid few) in
    let last : Passes (OutputsDue command s (plan_of c.args.plan)) (TasksDue command s (plan_of c.args.plan)) (g.D.Depot.calls c.find_inputs.new.depot) (g.D.Depot.calls c.check_outputs.new.depot) = search rules in
    let all = passes_both (InputsDue command s plan) (OutputsDue command s plan) old mid both new (TasksDue command s plan) last in
    ends_behind _ _ c.rewritten.result (λ p. all)
    (λ f h. stops_both (InputsDue command s plan) (TasksDue command s plan) old new all new f (wants (TasksDue command s plan) new new refl f h)) c.rewritten.ensures.fault

pub returns-clause-ready : goal.returns-clause-ready
returns-clause-ready g c s told =
    let have : AllByRecursion (HasSize s) c.in_ok-sizes.sizes = search rules in
    let absent : AllByRecursion (IsAbsentIn s) c.in_ok-stores.stores = search rules in
    let stores : c.in_ok-stores.stores ≡ stores_of (plan_of c.args.plan) = search rules in
    ready_behind s c.in_ok-sizes.sizes c.in_ok-stores.stores c.rewritten.result have absent c.rewritten.ensures.sizes
    (dirs_behind (stores_of (plan_of c.args.plan)) c.in_ok-stores.stores stores c.rewritten.result c.rewritten.ensures.dirs)

pub returns-in_err-sizes-clause-looked : goal.returns-in_err-sizes-clause-looked
returns-in_err-sizes-clause-looked g c =
    let stops : IfOk c.from_residual.result (λ _. ⊥) = search rules in
    record {
      fault = search rules;
      shelf = c.find_inputs.ensures.looked.shelf;
      cause = search rules;
      stores = c.find_inputs.ensures.looked.stores;
      asked = looks_inputs c.from_residual.result stops (g.D.Depot.calls c.args.depot.now) (g.D.Depot.calls c.find_inputs.new.depot) c.find_inputs.ensures.looked.asked;
    }

pub returns-in_err-check_size-clause-looked : goal.returns-in_err-check_size-clause-looked
returns-in_err-check_size-clause-looked g c =
    let stops : IfOk c.from_residual-in_err-check_size.result (λ _. ⊥) = search rules in
    record {
      fault = search rules;
      shelf = c.find_inputs.ensures.looked.shelf;
      cause = search rules;
      stores = c.find_inputs.ensures.looked.stores;
      asked = looks_inputs c.from_residual-in_err-check_size.result stops (g.D.Depot.calls c.args.depot.now) (g.D.Depot.calls c.find_inputs.new.depot) c.find_inputs.ensures.looked.asked;
    }

pub returns-in_err-stores-clause-looked : goal.returns-in_err-stores-clause-looked
returns-in_err-stores-clause-looked g c =
    let stops : IfOk c.from_residual-in_err-stores.result (λ _. ⊥) = search rules in
    record {
      fault = search rules;
      shelf = c.find_inputs.ensures.looked.shelf;
      cause = search rules;
      stores = c.find_inputs.ensures.looked.stores;
      asked = looks_inputs c.from_residual-in_err-stores.result stops (g.D.Depot.calls c.args.depot.now) (g.D.Depot.calls c.find_inputs.new.depot) c.find_inputs.ensures.looked.asked;
    }

pub returns-in_err-check_outputs-clause-looked : goal.returns-in_err-check_outputs-clause-looked
returns-in_err-check_outputs-clause-looked g c =
    let stops : IfOk c.from_residual-in_err-check_outputs.result (λ _. ⊥) = search rules in
    record {
      fault = search rules;
      shelf = c.check_outputs.ensures.looked.shelf ∙ c.find_inputs.ensures.looked.shelf;
      cause = search rules;
      stores = c.check_outputs.ensures.looked.stores ∙ c.find_inputs.ensures.looked.stores;
      asked =
          looks_stopped (map (λ store. store.dir) c.in_ok-stores.stores) c.check_outputs.result (g.D.Depot.calls c.args.depot.now) (g.D.Depot.calls c.find_inputs.new.depot) (g.D.Depot.calls c.check_outputs.new.depot)
          c.find_inputs.ensures.looked.asked c.check_outputs.ensures.looked.asked c.from_residual-in_err-check_outputs.result stops;
    }

pub returns-clause-looked : goal.returns-clause-looked
returns-clause-looked g c =
    let stores : c.in_ok-stores.stores ≡ stores_of (plan_of c.args.plan) = search rules in
    record {
      fault = search rules;
      shelf = c.check_outputs.ensures.looked.shelf ∙ c.find_inputs.ensures.looked.shelf;
      cause = search rules;
      stores = c.check_outputs.ensures.looked.stores ∙ c.find_inputs.ensures.looked.stores;
      asked =
          looks_behind {T = Unit {0}} (map (λ store. store.dir) c.in_ok-stores.stores) (Ok tt) (g.D.Depot.calls c.args.depot.now) (g.D.Depot.calls c.find_inputs.new.depot) (g.D.Depot.calls c.check_outputs.new.depot)
          c.find_inputs.ensures.looked.asked c.in_ok-check_outputs.ensures.looked.asked c.rewritten.result c.in_ok-check_outputs.ensures.looked.asked.whole
          (dirs_behind (stores_of (plan_of c.args.plan)) c.in_ok-stores.stores stores c.rewritten.result c.rewritten.ensures.dirs);
    }
